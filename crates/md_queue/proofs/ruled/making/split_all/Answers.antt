use Rattle.std.proofs.Common.{◌≡◌, ℕ, ◌+◌, ap, ◌∙◌, rules, length, length-append}
use Rattle.md_queue.specs.declared.ruled.rule.EndView.{EndView}
use Rattle.md_queue.specs.Delivery.{receiver_view}
use Rattle.md_queue.proofs.EndSteps.{forks}
use Rattle.md_queue.proofs.SenderPlaces.{are-behind, unsent-behind}
use Rattle.md_queue.proofs.ruled.making.split_all.Goals as goal

pub another-other-requires-clause-rule : goal.another-other-requires-clause-rule
another-other-requires-clause-rule c = forks _ _ (ap (λ (v : EndView). v.is_receiver) c.loop-channel.invariant.known)

pub loop-channel-preserved : goal.loop-channel-preserved
loop-channel-preserved c =
    let i = c.loop-channel.invariant in
    let made = c.another-other.ensures in
    let line : c.another-other.result.table_id ≡ c.another-other.new.pass.table_id = search rules in
    let channel =
    ap (λ (v : EndView). v.channel) made.rule.1 ∙ ap (λ (v : EndView). v.channels) i.known in
    record {
      pass = search rules;
      known =
          made.rule.0
          ∙ ap (λ (v : EndView). receiver_view v.taken v.left (v.channels + 1) v.joined) i.known;
      senders = are-behind _ _ _ _ _ _ i.senders made.queue.0.0 line i.count channel c.push.ensures;
      count =
          ap length c.push.ensures ∙ length-append c.loop-channel.senders _ ∙ ap (λ (n : ℕ). n + 1) i.count;
      unsent = unsent-behind _ _ _ i.unsent (ap (λ (v : EndView). v.sent) made.rule.1) c.push.ensures;
    }
