-- The turn ends_fill.
use Rattle.std.specs.Prelude.{◌≡◌, None}
use Rattle.store_model.specs.Claiming.{given_back}
use Rattle.store_model.specs.Rows.{fill_row, Idle}
use Rattle.store_model.specs.StoreState.{StoreState}
use Rattle.store_model.specs.Touches.{TurnKind, untouched}

-- The fill's row gives its claim back, if it has one, and works for no command any more.
pub record EndsFill (p q : StoreState) : Type 0 where
  pub no_job : p.job ≡ None
  pub next : q ≡ record (given_back p fill_row Idle) { filling = None }

abbrev pub kind : TurnKind
kind = record { Case = λ told p q. EndsFill p q; touch = λ told p q t. untouched; OfJob = ⊥ }
