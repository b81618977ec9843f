use Rattle.std.proofs.Common.{◌≡◌, length, take, ap, ◌∙◌, rules}
use Rattle.blob_report.proofs.Firsts.{still_first}
use Rattle.blob_report.proofs.pieces.push_pieces.Goals as goal

pub returns-in-Err-clause-memory : goal.returns-in-Err-clause-memory
returns-in-Err-clause-memory c =
    let n : c.len-length.result ≡ length c.args.into.now.items = search rules in
    c.truncate.ensures.items ∙ ap (λ n. take n c.push_piece.new.into.items) n
    ∙ still_first _ _ _ _ c.loop-piece.invariant c.push_piece.ensures.kept
