-- The turn copy_not_read.
use Rattle.std.proofs.Common.{false, ap, arith, refl, subst, sym, ◌∙◌}
use Rattle.volume_model.specs.declared.reply.Reply.TheVariants as r
use Rattle.store_model.specs.Rows.{entry_of, Idle}
use Rattle.store_model.specs.StoreState.{StoreState}
use Rattle.store_model.specs.Touches.{no_new}
use Rattle.store_model.specs.Cases.CopyNotRead as case
use Rattle.store_model.specs.Cases.CopyNotRead.{CopyNotRead}
use Rattle.store_model.specs.RunInvariant.{RunInvariant}
use Rattle.volume_model.proofs.RefusalsSettleNothing.{not_flushing}
use Rattle.store_model.proofs.GivenBack.{logged_from, logged_work, logged_work_facts}
use Rattle.store_model.proofs.Going.{left_of}
use Rattle.store_model.proofs.Known.{Known}
use Rattle.store_model.proofs.Refusals.{RefusalsChangeNothing}
use Rattle.store_model.proofs.Over.{answer, Effect, moves, TurnLaw}
use Rattle.store_model.proofs.Shapes.{idles, Idles, notes, now_same, unwritten_images}
use Rattle.store_model.proofs.Shaped.{idle_may}
use Rattle.store_model.proofs.DeviceKept.{device_facts}
use Rattle.store_model.proofs.StateKept.{not_in_job}

-- ---- it keeps what every state has

module _ (quiet : RefusalsChangeNothing) (known : Known) where
  open known use {s, placed, first, script, p, facts}

  keeps : (q : StoreState) → CopyNotRead p q → RunInvariant s first script q
  keeps q t =
      let clock = t.failed.clock in
      let there : Known = record known {
        p = record p { device = t.device };
        facts = device_facts known t.device t.failed.reads (omega (arith, clock));
      } in
      logged_work_facts quiet there t.copying.row Idle idle_may (λ bad. cc bad)
      (not_in_job known _ _ t.copying.is (λ bad. cc bad)) r.ReadFault q
      (logged_from t.device (logged_work t.logs)) tt

pub law : TurnLaw case.kind
law = record {
  keeps = λ below told known q t. keeps below.refusals known q t;
  effect = λ told p q t.
      let x = logged_work t.logs in
      subst (Effect p) (sym x.next) (record {
        goes = moves t.runs refl t.failed.write_faults t.failed.later;
        logs = answer (entry_of p.log x.channel x.command r.ReadFault) refl refl tt t.runs
            (λ _. t.failed.read_faults);
      });
  images = λ d x t does.
      let y = logged_work t.logs in
      unwritten_images d x (now_same d x (ap (λ (v : StoreState). v.device.reads) y.next ∙ t.failed.reads))
      (left_of d x (no_new false) does)
      (subst (Idles x.p) (sym y.next) (idles x.p _ refl refl refl refl
      (λ _. notes (entry_of x.p.log y.channel y.command r.ReadFault) refl (not_flushing y.command r.ReadFault tt))));
  job = λ of. absurd of;
}
