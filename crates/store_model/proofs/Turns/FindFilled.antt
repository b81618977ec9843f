-- The turn finds_filled.
use Rattle.std.proofs.Common.{◌∷◌, None, ap, refl, subst, sym}
use Rattle.volume_model.specs.declared.command.Command.TheVariants as c
use Rattle.store_model.specs.Rows.{Idle, Row}
use Rattle.store_model.specs.Cases.FindFilled as case
use Rattle.store_model.specs.Cases.FindFilled.{FindsFilled}
use Rattle.store_model.specs.StoreState.{StoreState}
use Rattle.store_model.specs.RunInvariant.{RunInvariant}
use Rattle.store_model.proofs.Known.{Known}
use Rattle.store_model.proofs.Over.{Effect, nothing, stays, TurnLaw}
use Rattle.store_model.proofs.Shapes.{idles, Idles, untouched_images, silent}
use Rattle.store_model.proofs.Shaped.{idle_may}
use Rattle.store_model.proofs.StateKept.{not_in_job, row_facts}

-- ---- it keeps what every state has

module _ (known : Known) where
  open known use {s, placed, first, script, p, facts}

  keeps : (q : StoreState) → FindsFilled p q → RunInvariant s first script q
  keeps q t =
      let w = t.write in
      let row : Row = record { left = c.Write w.volume w.page w.word ∷ w.rest; stage = Idle; claim = None } in
      subst (RunInvariant s first script) (sym t.next)
      (row_facts known w.channel row p.serial (ap (λ (r : Row). r.left) w.row)
      (not_in_job known _ _ w.row (λ bad. cc bad)) (ap (λ (r : Row). r.claim) w.row) refl (idle_may _ w.channel _))

pub law : TurnLaw case.kind
law = record {
  keeps = λ _ told known q t. keeps known q t;
  effect = λ told p q t. subst (Effect p) (sym t.next) (record { goes = stays refl refl; logs = nothing refl refl });
  images = λ d x t does. untouched_images d x does
      (subst (Idles x.p) (sym t.next) (idles x.p _ refl refl refl refl (λ _. silent refl)));
  job = λ of. absurd of;
}
