-- The turn more_fails.
use Rattle.std.proofs.Common.{◌≡◌, length, None, refl, subst, sym, ap, ◌∙◌, arith}
use Rattle.volume_model.specs.declared.reply.Reply.TheVariants as r
use Rattle.store_model.specs.Cases.FailMore as case
use Rattle.store_model.specs.Cases.FailMore.{MoreFails}
use Rattle.store_model.specs.Phases.{Replaces}
use Rattle.store_model.specs.Rows.{entry_of}
use Rattle.store_model.specs.StoreState.{StoreState, turns_left}
use Rattle.store_model.proofs.CommandStops.{command_stops}
use Rattle.store_model.proofs.MoreTried.{more_stops}
use Rattle.store_model.proofs.Over.{breaks, Effect, fault, no_less, TurnLaw}
use Rattle.store_model.proofs.Progress.{logs_served, no_job, turns_here}

pub law : TurnLaw case.kind
law = record {
  keeps = λ _ told known q t. command_stops known t.running t.served t.waits t.device t.fails.clock q t.next;
  effect = λ told p q t. subst (Effect p) (sym t.next)
      (record {
        goes = breaks t.running.runs refl t.fails.write_faults (no_less t.fails.read_faults);
        logs = fault (entry_of p.log t.served.channel t.served.command r.Fault) refl refl refl refl;
      });
  images = λ d x t does. more_stops d x t.replacing t.running
      (λ c insert. let bad = sym t.served.serves ∙ insert in cc bad) (length x.p.log)
      (ap (λ (v : StoreState). v.stopped) t.next);
  job = λ _ told known q t.
      let now : q.job ≡ None = ap (λ (v : StoreState). v.job) t.next in
      let before = turns_here known.p.job t.running.job (Replaces t.replacing None) t.running.rest t.running.is
      t.running.next in
      let then = ap turns_left now in
      record {
        progress = logs_served known.p q t.running.job t.running.is t.served t.waits
            (ap (λ (v : StoreState). v.rows) t.next) (no_job q.job now);
        less = omega (arith, before, then);
      };
}
