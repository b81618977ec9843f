-- The turn loses_copy.
use Rattle.std.proofs.Common.{refl, subst, sym}
use Rattle.store_model.specs.Rows.{Idle}
use Rattle.store_model.specs.Claiming.{given_back}
use Rattle.store_model.specs.Filling.{filling_behind}
use Rattle.store_model.specs.StoreState.{StoreState}
use Rattle.store_model.specs.Cases.LoseCopy as case
use Rattle.store_model.specs.Cases.LoseCopy.{LosesCopy}
use Rattle.store_model.specs.RunInvariant.{RunInvariant}
use Rattle.store_model.proofs.DeviceKept.{filling_facts}
use Rattle.store_model.proofs.GivenBack.{given_back_facts}
use Rattle.store_model.proofs.Known.{Known}
use Rattle.store_model.proofs.Over.{Effect, nothing, stays, TurnLaw}
use Rattle.store_model.proofs.Shapes.{idles, Idles, silent, untouched_images}
use Rattle.store_model.proofs.Shaped.{idle_may}
use Rattle.store_model.proofs.StateKept.{not_in_job}

-- ---- it keeps what every state has

module _ (known : Known) where
  open known use {s, placed, first, script, p, facts}

  keeps : (q : StoreState) → LosesCopy p q → RunInvariant s first script q
  keeps q t =
      let there : Known = record known {
        p = given_back p t.copying.row Idle;
        facts = given_back_facts known t.copying.row Idle idle_may (not_in_job known _ _ t.copying.is (λ bad. cc bad));
      } in
      subst (RunInvariant s first script) (sym t.next) (filling_facts there (filling_behind p t.copying.row))

pub law : TurnLaw case.kind
law = record {
  keeps = λ _ told known q t. keeps known q t;
  effect = λ told p q t. subst (Effect p) (sym t.next) (record { goes = stays refl refl; logs = nothing refl refl });
  images = λ d x t does. untouched_images d x does
      (subst (Idles x.p) (sym t.next) (idles x.p _ refl refl refl refl (λ _. silent refl)));
  job = λ of. absurd of;
}
