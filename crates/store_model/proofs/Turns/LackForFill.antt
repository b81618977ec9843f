-- The turn lacks_for_fill.
use Rattle.std.proofs.Common.{ap, refl, subst, sym}
use Rattle.volume_model.specs.Steps.{Allowed, MayBeFull}
use Rattle.volume_model.specs.declared.command.VolumeRef.{VolumeRef}
use Rattle.volume_model.specs.declared.reply.Reply.TheVariants as r
use Rattle.volume_model.proofs.RefusalsSettleNothing.{not_flushing}
use Rattle.inflate_delete.specs.Fills.{command_of}
use Rattle.inflate_delete.specs.declared.filling.FillKind.{FillKind}
use Rattle.inflate_delete.specs.declared.filling.FillKind.TheVariants.{Decouple, Inflate}
use Rattle.store_model.specs.Rows.{Answered, Decided, entry_of, Row}
use Rattle.store_model.specs.Shown.{fixed_of}
use Rattle.store_model.specs.StoreState.{shown, StoreState}
use Rattle.store_model.specs.Cases.LackForFill as case
use Rattle.store_model.specs.Cases.LackForFill.{LacksForFill}
use Rattle.store_model.specs.RunInvariant.{RunInvariant}
use Rattle.store_model.proofs.Known.{Known}
use Rattle.store_model.proofs.Refusals.{RefusalsChangeNothing}
use Rattle.store_model.proofs.Over.{answer, Effect, stays, TurnLaw}
use Rattle.store_model.proofs.Shapes.{idles, Idles, notes, untouched_images}
use Rattle.store_model.proofs.Shaped.{decided_may}
use Rattle.store_model.proofs.StateKept.{logged_facts, not_in_job, refused_here, refused_same}

may_be_full : (p : StoreState) (kind : FillKind) (volume : VolumeRef)
    → MayBeFull (fixed_of p.super) (shown p) (command_of kind volume)
may_be_full p Inflate volume = tt
may_be_full p Decouple volume = tt

-- the answer may come
may_lack : (p q : StoreState) (t : LacksForFill p q)
    → Allowed (fixed_of p.super) (shown p) t.fill.posted.command r.Full
may_lack p q t =
    let asks = t.fill.asks in
    (t.fill.asked, subst (MayBeFull (fixed_of p.super) (shown p)) (sym asks.is) (may_be_full p asks.kind asks.volume))

-- ---- it keeps what every state has

module _ (quiet : RefusalsChangeNothing) (known : Known) where
  open known use {s, placed, first, script, p, facts}

  keeps : (q : StoreState) → LacksForFill p q → RunInvariant s first script q
  keeps q t =
      let x = t.fill.posted in
      subst (RunInvariant s first script) (sym t.next)
      (logged_facts known (Decided Answered) decided_may x.channel x.command x.rest r.Full
      (not_in_job known _ _ x.row (λ bad. cc bad)) (λ runs. ap (λ (r : Row). r.claim) x.row)
      (ap (λ (r : Row). r.left) x.row) (refused_here known x.command r.Full tt t.fill.runs (may_lack p q t))
      (λ runs. refused_same known quiet x.command r.Full tt (may_lack p q t)))

pub law : TurnLaw case.kind
law = record {
  keeps = λ below told known q t. keeps below.refusals known q t;
  effect = λ told p q t.
      let y = t.fill.posted in
      subst (Effect p) (sym t.next) (record {
        goes = stays refl refl;
        logs = answer (entry_of p.log y.channel y.command r.Full) refl refl tt t.fill.runs (λ bad. cc bad);
      });
  images = λ d x t does.
      let y = t.fill.posted in
      untouched_images d x does (subst (Idles x.p) (sym t.next) (idles x.p _ refl refl refl refl
      (λ _. notes (entry_of x.p.log y.channel y.command r.Full) refl (not_flushing y.command r.Full tt))));
  job = λ of. absurd of;
}
