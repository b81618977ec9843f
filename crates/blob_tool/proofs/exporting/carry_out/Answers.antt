use Rattle.blob_tool.proofs.ExportSteps.{held_as_loaded}
use Rattle.blob_tool.proofs.exporting.carry_out.Goals as goal

pub copy_volume-requires-clause-held : goal.copy_volume-requires-clause-held
copy_volume-requires-clause-held g c = held_as_loaded c.args.loaded.now c.requires.recovered
