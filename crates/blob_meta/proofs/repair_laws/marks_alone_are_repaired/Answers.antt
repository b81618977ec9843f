use Rattle.blob_meta.proofs.RepairsInTurn.{no_repairs, none_marked, resolved_same}
use Rattle.blob_meta.proofs.repair_laws.marks_alone_are_repaired.Goals as goal

pub returns-clause-none : goal.returns-clause-none
returns-clause-none c = λ md_len metas bare. no_repairs metas bare md_len

pub returns-clause-same : goal.returns-clause-same
returns-clause-same c = λ metas bare h. resolved_same metas bare h

pub returns-clause-only : goal.returns-clause-only
returns-clause-only c = λ md_len metas below none. none_marked md_len metas below none
