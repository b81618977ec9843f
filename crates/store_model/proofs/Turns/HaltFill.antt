-- The turn halts_fill.
use Rattle.std.proofs.Common.{refl, subst, sym, ◌∙◌}
use Rattle.volume_model.specs.declared.reply.Reply.TheVariants as r
use Rattle.store_model.specs.Rows.{entry_of, fill_row, Stage}
use Rattle.store_model.specs.StoreState.{StoreState}
use Rattle.store_model.specs.Cases.Halt.{stage_after}
use Rattle.store_model.specs.Cases.HaltFill as case
use Rattle.store_model.specs.Cases.HaltFill.{HaltsFill}
use Rattle.store_model.specs.RunInvariant.{RunInvariant}
use Rattle.store_model.proofs.GivenBack.{logged_work_facts, logs_posted}
use Rattle.store_model.proofs.Known.{Known}
use Rattle.store_model.proofs.Refusals.{RefusalsChangeNothing}
use Rattle.store_model.proofs.Over.{Effect, halt, stays, TurnLaw}
use Rattle.store_model.proofs.Shapes.{idles, Idles, untouched_images}
use Rattle.store_model.proofs.Turns.Halt.{after_free, free, may_be}

-- the stage of the fill's row behind it
abbrev after : StoreState → Stage
after p = stage_after (p.rows fill_row).stage

-- ---- it keeps what every state has

module _ (quiet : RefusalsChangeNothing) (known : Known) where
  open known use {s, placed, first, script, p, facts}

  keeps : (q : StoreState) → HaltsFill p q → RunInvariant s first script q
  keeps q t = logged_work_facts quiet known fill_row (after p) (may_be (p.rows fill_row).stage)
      (after_free (p.rows fill_row).stage) (free (p.rows fill_row).stage t.may) (r.Stopped t.at) q
      (logs_posted t.posted t.asks t.next) tt

pub law : TurnLaw case.kind
law = record {
  keeps = λ below told known q t. keeps below.refusals known q t;
  effect = λ told p q t.
      let x = t.posted in
      subst (Effect p) (sym t.next) (record {
        goes = stays refl refl;
        logs = halt (entry_of p.log x.channel x.command (r.Stopped t.at)) t.at refl refl refl t.stands;
      });
  images = λ d x t does. untouched_images d x does (subst (Idles x.p) (sym t.next)
      (idles x.p _ refl refl refl refl (λ runs. absurd (let bad = sym runs ∙ t.stands in cc bad))));
  job = λ of. absurd of;
}
