use Rattle.blob_meta.proofs.Shown.{head_of_least}
use Rattle.blob_meta.proofs.laws.least_heads_are_meant.Goals as goal

pub returns : goal.returns
returns c = λ metas sup volume head least f v s. head_of_least f sup metas v s volume head least
