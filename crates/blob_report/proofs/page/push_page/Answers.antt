use Rattle.std.proofs.Common.{subst, List, ℕ, OnOk, ◌≡◌, ◌++◌}
use Rattle.blob_report.proofs.PageTexts.{filled_text, summed_text}
use Rattle.blob_report.proofs.page.push_page.Goals as goal

pub returns-then-repeats_word-clause-ok : goal.returns-then-repeats_word-clause-ok
returns-then-repeats_word-clause-ok c =
    subst (λ (l : List ℕ). OnOk c.push_pieces.result
    (c.push_pieces.new.into.items ≡ c.args.into.now.items ++ l))
    (filled_text c.args.page.now c.repeats_word.result c.repeats_word.ensures c.if-repeats_word.true
    c.first_word-word.result c.first_word-word.ensures c.to_be_bytes.result c.to_be_bytes.ensures)
    c.push_pieces.ensures.ok

pub returns-clause-ok : goal.returns-clause-ok
returns-clause-ok c =
    subst (λ (l : List ℕ). OnOk c.push_pieces-2.result
    (c.push_pieces-2.new.into.items ≡ c.args.into.now.items ++ l))
    (summed_text c.args.page.now c.repeats_word.result c.repeats_word.ensures c.if-repeats_word.false
    c.sum.result c.sum.ensures c.to_be_bytes-2.result
    c.to_be_bytes-2.ensures) c.push_pieces-2.ensures.ok
