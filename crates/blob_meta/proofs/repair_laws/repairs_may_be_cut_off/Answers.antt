use Rattle.blob_meta.proofs.RepairsInTurn.{all_repaired, repaired_resolves}
use Rattle.blob_meta.proofs.repair_laws.repairs_may_be_cut_off.Goals as goal

pub returns-clause-same : goal.returns-clause-same
returns-clause-same c = λ md_len metas below count h. repaired_resolves md_len metas below count h

pub returns-clause-all : goal.returns-clause-all
returns-clause-all c = λ md_len metas below h. all_repaired md_len metas below h
