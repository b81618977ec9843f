use Rattle.std.proofs.Common.{ap, ◌∙◌, sym, length, min, List}
use Rattle.volume_model.specs.declared.reply.Msg.{Msg}
use Rattle.md_queue.specs.declared.ruled.rule.EndView.{EndView}
use Rattle.md_queue.specs.QueueEnds.{most_counted}
use Rattle.md_queue.proofs.Closed.{handled}
use Rattle.md_queue.proofs.ruled.closing.close.Goals as goal

pub invariant_of-result : goal.invariant_of-result
invariant_of-result g c =
    let found = c.collect-pass.ensures in
    let taken =
    ap (λ (v : EndView). v.taken) found.left ∙ ap (λ (v : EndView). v.taken) c.join_all-pass.ensures.known in (
      (λ k. handled _ _ _ _ _ found.left found.whole k),
      c.receiver.invariant.3 ∙ ap (λ (l : List Msg). min (length l) most_counted) (sym taken),
    )

pub returns-clause-handled : goal.returns-clause-handled
returns-clause-handled g c k =
    let found = c.collect-pass.ensures in handled _ _ _ _ _ found.left found.whole k
