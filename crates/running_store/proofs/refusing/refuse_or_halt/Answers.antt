use Rattle.std.proofs.Common.{◌≡◌, ◌∙◌, ℕ, Option, None, Some, is_some, true, false, refl, sym}
use Rattle.volume_model.specs.declared.reply.Reply.{Reply}
use Rattle.volume_model.specs.declared.reply.Reply.TheVariants.{Stopped}
use Rattle.running_store.specs.Steps.{log_with, refused_with}
use Rattle.running_store.proofs.refusing.refuse_or_halt.Goals as goal

-- the reply of a store that has stopped, and of one that runs
of_stopped : (stopped : Option ℕ) (reply : Reply) (P : Reply → Type 0) → is_some stopped ≡ true
    → ((at : ℕ) → stopped ≡ Some at → P (Stopped at)) → P (refused_with stopped reply)
of_stopped None reply P is told = absurd (cc is)
of_stopped (Some at) reply P is told = told at refl

of_running : (stopped : Option ℕ) (reply : Reply) (P : Reply → Type 0) → is_some stopped ≡ false
    → P reply → P (refused_with stopped reply)
of_running None reply P is told = told
of_running (Some at) reply P is told = absurd (cc is)

pub returns-then-is_some-clause-told : goal.returns-then-is_some-clause-told
returns-then-is_some-clause-told g c = λ command rest left.
    of_stopped c.args.running.now.stopped c.args.reply
    (λ r. c.halt.new.running.entries.items ≡ log_with c.args.running.now.entries.items c.args.channel command r)
    (sym c.is_some.ensures ∙ c.if-is_some.true) (λ at stands. c.halt.ensures.told at stands command rest left)

pub returns-else-is_some-clause-told : goal.returns-else-is_some-clause-told
returns-else-is_some-clause-told g c = λ command rest left.
    of_running c.args.running.now.stopped c.args.reply
    (λ r. c.refuse.new.running.entries.items ≡ log_with c.args.running.now.entries.items c.args.channel command r)
    (sym c.is_some.ensures ∙ c.if-is_some.false) (c.refuse.ensures.told command rest left)
