-- The turn more_breaks_off.
use Rattle.std.proofs.Common.{◌≡◌, length, None, refl, subst, sym, ap, ◌∙◌, arith}
use Rattle.store_model.specs.Cases.BreakOffMore as case
use Rattle.store_model.specs.Phases.{Replaces}
use Rattle.store_model.specs.StoreState.{StoreState, turns_left, waiting}
use Rattle.store_model.proofs.MoreTried.{more_stops}
use Rattle.store_model.proofs.Over.{breaks, Effect, no_less, nothing, TurnLaw}
use Rattle.store_model.proofs.Progress.{clears, no_job, turns_here}
use Rattle.store_model.proofs.SilentStops.{silent_stops}

pub law : TurnLaw case.kind
law = record {
  keeps = λ _ told known q t. silent_stops known t.running t.waits t.device t.fails.clock q t.next;
  effect = λ told p q t. subst (Effect p) (sym t.next)
      (record {
        goes = breaks t.running.runs refl t.fails.write_faults (no_less t.fails.read_faults);
        logs = nothing refl refl;
      });
  images = λ d x t does. more_stops d x t.replacing t.running
      (λ c insert. let bad = sym t.waits ∙ ap (λ y. waiting y t.running.job.todo) insert in cc bad) (length x.p.log)
      (ap (λ (v : StoreState). v.stopped) t.next);
  job = λ _ told known q t.
      let now : q.job ≡ None = ap (λ (v : StoreState). v.job) t.next in
      let before = turns_here known.p.job t.running.job (Replaces t.replacing None) t.running.rest t.running.is
      t.running.next in
      let then = ap turns_left now in
      record {
        progress =
            clears t.running.job t.running.is t.waits (ap (λ (v : StoreState). v.rows) t.next) (no_job q.job now);
        less = omega (arith, before, then);
      };
}
