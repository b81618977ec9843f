use Rattle.blob_tool.proofs.ExportSteps.{held_as_loaded}
use Rattle.blob_tool.proofs.exporting.plan.Goals as goal

pub find_volume-requires-clause-held : goal.find_volume-requires-clause-held
find_volume-requires-clause-held g c = held_as_loaded c.args.loaded.now c.requires.recovered
