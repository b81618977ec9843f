-- A store that stops in a turn of a job for which no row waits: nothing is logged.
use Rattle.std.proofs.Common.{◌≡◌, ◌≤◌, length, None, refl, subst, sym, arith}
use Rattle.store_model.specs.Device.{Device}
use Rattle.store_model.specs.Phases.{Phase}
use Rattle.store_model.specs.RunInvariant.{RunInvariant}
use Rattle.store_model.specs.StoreState.{StoreState, waiting}
use Rattle.store_model.specs.Turning.{Runs, stopped_now}
use Rattle.store_model.proofs.FactsKept.{facts_kept, log_stays}
use Rattle.store_model.proofs.Guarding.{none_guarded}
use Rattle.store_model.proofs.JobKept.{none_here}
use Rattle.store_model.proofs.Known.{Known}
use Rattle.store_model.proofs.Shaped.{shaped_same}

module _ (known : Known) {phase : Phase} (running : Runs known.p phase)
    (none : waiting running.job.serves running.job.todo ≡ None) (device : Device)
    (later : known.p.device.clock ≤ device.clock) where
  open known use {s, placed, first, script, p, facts}

  -- it keeps what every state has
  pub silent_stops : (q : StoreState) → q ≡ record (stopped_now p) { job = None; device = device }
      → RunInvariant s first script q
  silent_stops q next =
      let now : StoreState = record (stopped_now p) { job = None; device = device } in
      subst (RunInvariant s first script) (sym next)
      (facts_kept known now refl refl (record {
        logs = log_stays known now refl refl refl (λ c. refl) later;
        well = λ runs. absurd (cc runs);
        shaped = shaped_same p now facts.shaped refl (none_here known running.job running.is none now)
            (λ job c bad serves waits. absurd (cc bad));
        guarded = none_guarded now (λ head. refl);
        halted = λ at is. let e : length p.log ≡ at = cc is in omega (arith, e);
        unfinished = λ job is. absurd (cc is);
      }))
