-- A store that stops in a turn of a job whose command waits for the commit: the command is logged as failed.
use Rattle.std.proofs.Common.{◌≡◌, ◌≤◌, None, true, refl, subst, sym, ap}
use Rattle.volume_model.specs.declared.reply.Reply.TheVariants as r
use Rattle.store_model.specs.Device.{Device}
use Rattle.store_model.specs.Jobs.{ReadsZeros}
use Rattle.store_model.specs.Phases.{has_commit, Phase}
use Rattle.store_model.specs.Rows.{Answered, Decided, Row}
use Rattle.store_model.specs.RunInvariant.{RunInvariant}
use Rattle.store_model.specs.StoreState.{logged, StoreState}
use Rattle.store_model.specs.Turning.{IsServedNow, Runs, stopped_now}
use Rattle.store_model.proofs.FailedCommands.{failed_keeps}
use Rattle.store_model.proofs.JobKept.{no_other, served_does}
use Rattle.store_model.proofs.Known.{Known}
use Rattle.store_model.proofs.LeftToDo.{may_fail}
use Rattle.store_model.proofs.Shaped.{decided_may, shaped_with, waits_for_commit}

module _ (known : Known) {phase : Phase} (running : Runs known.p phase) (now_served : IsServedNow known.p running.job)
    (ahead : has_commit running.job.todo ≡ true) (device : Device) (later : known.p.device.clock ≤ device.clock) where
  open known use {s, placed, first, script, p, facts}
  open now_served use {channel, serves, command, rest, row}

  -- it keeps what every state has
  pub command_stops : (q : StoreState)
      → q ≡ logged (record (stopped_now p) { job = None }) channel command rest r.Fault device
      → RunInvariant s first script q
  command_stops q next =
      let j = running.job in
      let now : StoreState = logged (record (stopped_now p) { job = None }) channel command rest r.Fault device in
      let may = may_fail (ReadsZeros p.super j.claimed) p.super p.base p.live command j.todo
      (served_does known j running.is running.runs now_served ahead) p.device.reads in
      subst (RunInvariant s first script) (sym next)
      (failed_keeps known channel command rest device (Decided Answered) None
      (ap (λ (r : Row). r.left) row) running.runs
      later may
      (shaped_with p facts.shaped now channel _ refl
      (no_other known j running.is channel (waits_for_commit j channel serves ahead) now) (decided_may now channel rest)
      (λ job c bad serves waits. absurd (cc bad)))
      (λ job is. absurd (cc is)))
