-- The turn insert_breaks_down.
use Rattle.std.proofs.Common.{ℕ, Option, None, arith, inr, refl, subst, sym, ◌∙◌}
use Rattle.volume_model.specs.declared.reply.Reply.TheVariants as r
use Rattle.store_model.specs.Rows.{Answered, Decided, entry_of}
use Rattle.store_model.specs.StoreState.{StoreState}
use Rattle.store_model.specs.Cases.InsertBreakDown as case
use Rattle.store_model.specs.Cases.InsertBreakDown.{InsertBreaksDown}
use Rattle.store_model.specs.RunInvariant.{RunInvariant}
use Rattle.store_model.proofs.GivenBack.{IsLogged, logged_work}
use Rattle.store_model.proofs.InsertStops.{insert_stops}
use Rattle.store_model.proofs.Known.{Known}
use Rattle.store_model.proofs.Refusals.{RefusalsChangeNothing}
use Rattle.store_model.proofs.Over.{Effect, halt, stays, TurnLaw}
use Rattle.store_model.proofs.Shapes.{Idles, untouched_images}

-- ---- it keeps what every state has

module _ (quiet : RefusalsChangeNothing) (known : Known) where
  open known use {s, placed, first, script, p, facts}

  keeps : (q : StoreState) → InsertBreaksDown p q → RunInvariant s first script q
  keeps q t =
      insert_stops known t.job t.is t.inserting t.at (facts.halted t.at t.stands) p.frozen
      (facts.guarded.stopped t.at t.stands) quiet (r.Stopped t.at) p.device q (omega arith) tt
      (subst (λ (o : Option ℕ). IsLogged (record p { job = None; stopped = o }) t.inserting.row (Decided Answered)
      (r.Stopped t.at) p.device q) t.stands (logged_work t.logs))

pub law : TurnLaw case.kind
law = record {
  keeps = λ below told known q t. keeps below.refusals known q t;
  effect = λ told p q t.
      let x = logged_work t.logs in
      subst (Effect p) (sym x.next) (record {
        goes = stays refl refl;
        logs = halt (entry_of p.log x.channel x.command (r.Stopped t.at)) t.at refl refl refl t.stands;
      });
  images = λ d x t does. untouched_images d x does (subst (Idles x.p) (sym (logged_work t.logs).next) (record {
    base = refl;
    chains = refl;
    stopped = refl;
    job = inr (λ job bad. absurd (cc bad));
    log = λ runs. absurd (let bad = sym runs ∙ t.stands in cc bad);
  }));
  job = λ of. absurd of;
}
