use Rattle.std.proofs.Common.{ap, ◌∙◌}
use Rattle.blob_meta.proofs.MapOfEntries.{map_of, no_entries}
use Rattle.blob_meta.proofs.head_map.HeadMap.new.Goals as goal

pub returns : goal.returns
returns g c = ap map_of c.new.ensures.items ∙ no_entries
