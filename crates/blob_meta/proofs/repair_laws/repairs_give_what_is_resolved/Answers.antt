use Rattle.blob_meta.proofs.ResolvedBlobs.{each_repairs}
use Rattle.blob_meta.proofs.repair_laws.repairs_give_what_is_resolved.Goals as goal

pub returns : goal.returns
returns c = λ md_len metas. each_repairs md_len metas
