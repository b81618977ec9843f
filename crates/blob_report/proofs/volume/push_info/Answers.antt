use Rattle.std.proofs.Common.{◌≡◌, ◌++◌, ℕ, List, OnOk, subst}
use Rattle.blob_report.proofs.Infos.{pieces_are}
use Rattle.blob_report.proofs.volume.push_info.Goals as goal

pub returns-clause-ok : goal.returns-clause-ok
returns-clause-ok c =
    subst (λ (text : List ℕ). OnOk c.push_pieces.result (c.push_pieces.new.into.items ≡ c.args.into.now.items ++ text))
    (pieces_are c.args.info.now c.bytes.result.now c.parent_head.result c.filling.result.now c.writing.result.now
    c.bytes.ensures c.parent_head.ensures c.filling.ensures c.writing.ensures) c.push_pieces.ensures.ok
