use Rattle.std.proofs.Common.{◌≡◌, ◌++◌, ℕ, List, OnOk, subst}
use Rattle.blob_report.proofs.StoreTexts.{line_pieces}
use Rattle.blob_report.proofs.store.push_line.Goals as goal

pub returns-clause-ok : goal.returns-clause-ok
returns-clause-ok c =
    subst (λ (text : List ℕ). OnOk c.push_pieces.result (c.push_pieces.new.into.items ≡ c.args.into.now.items ++ text))
    (line_pieces c.args.kind.now c.args.cluster_size c.args.space c.args.clean) c.push_pieces.ensures.ok
