-- A store that stops while it serves a command, which is logged as failed: what every state has is kept.
use Rattle.std.proofs.Common.{◌≡◌, ◌≢◌, ◌≤◌, ℕ, List, [], ◌∷◌, length, Option, None, Some, refl, ap, arith}
use Rattle.std.proofs.Common.{length-append}
use Rattle.volume_model.specs.Steps.{Allowed}
use Rattle.volume_model.specs.declared.command.Command.{Command}
use Rattle.volume_model.specs.declared.reply.Reply.TheVariants as r
use Rattle.store_model.specs.Device.{Device}
use Rattle.store_model.specs.Rows.{entry_of, Idle, Row, Stage}
use Rattle.store_model.specs.RunInvariant.{IsShaped, RunInvariant}
use Rattle.store_model.specs.Shown.{fixed_of}
use Rattle.store_model.specs.StoreState.{JobState, logged_here, logged_to, shown, StoreState}
use Rattle.store_model.specs.Turning.{stopped_now}
use Rattle.store_model.proofs.FactsKept.{facts_kept, log_kept}
use Rattle.store_model.proofs.Guarding.{none_guarded}
use Rattle.store_model.proofs.Known.{Known}
use Rattle.store_model.proofs.Shaped.{idle_may, shaped_row}
use Rattle.store_model.proofs.StateKept.{allowed_here, not_in_job}

module _ (known : Known) (channel : ℕ) (command : Command) (rest : List Command) (device : Device) where
  open known use {s, first, script, p, facts}

  -- the command of a channel that goes on at this stage, with the job that the store still has
  pub failed_keeps : (next : Stage) (job : Option JobState) → (p.rows channel).left ≡ command ∷ rest
      → p.stopped ≡ None → p.device.clock ≤ device.clock → Allowed (fixed_of p.super) (shown p) command r.Fault
      → IsShaped (logged_to next (record (stopped_now p) { job = job }) channel command rest r.Fault device)
      → ((j : JobState) → job ≡ Some j → j.todo ≢ [])
      → RunInvariant s first script
      (logged_to next (record (stopped_now p) { job = job }) channel command rest r.Fault device)
  failed_keeps next job left runs later allowed shaped unfinished =
      let base : StoreState = record (stopped_now p) { job = job } in
      let now : StoreState = logged_to next base channel command rest r.Fault device in
      facts_kept known now refl refl (record {
        logs = log_kept known next base channel command rest r.Fault device refl refl refl refl left later
            (allowed_here known command r.Fault runs allowed);
        well = λ runs. absurd (cc runs);
        shaped = shaped;
        guarded = none_guarded now (λ head. refl);
        halted = λ at is.
            let e : length p.log ≡ at = cc is in
            omega (arith, e, length-append p.log (entry_of p.log channel command r.Fault ∷ []));
        unfinished = unfinished;
      })

  -- the command of a channel that serves itself
  pub idle_fails : p.rows channel ≡ record { left = command ∷ rest; stage = Idle; claim = None } → p.stopped ≡ None
      → p.device.clock ≤ device.clock → Allowed (fixed_of p.super) (shown p) command r.Fault
      → RunInvariant s first script (logged_here (stopped_now p) channel command rest r.Fault device)
  idle_fails row runs later allowed =
      let now : StoreState = logged_here (stopped_now p) channel command rest r.Fault device in
      failed_keeps Idle p.job (ap (λ (x : Row). x.left) row) runs later allowed
      (shaped_row p now facts.shaped refl channel _ refl (idle_may now channel rest)
      (not_in_job known _ _ row (λ bad. cc bad)))
      facts.unfinished
