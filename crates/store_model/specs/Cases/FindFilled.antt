-- The turn finds_filled.
use Rattle.std.specs.Prelude.{◌≡◌, ℕ, None, Some}
use Rattle.store_model.specs.Claiming.{IsWriting, MeansSlot, staged}
use Rattle.store_model.specs.Rows.{Claiming, Idle}
use Rattle.store_model.specs.StoreState.{StoreState}
use Rattle.store_model.specs.Touches.{TurnKind, untouched}

-- At its claim it finds the slot filled, and begins again.
pub record FindsFilled (p q : StoreState) : Type 0 where
  pub write : IsWriting p Claiming None
  pub runs : p.stopped ≡ None
  pub cluster : ℕ
  pub means : MeansSlot p write (Some cluster)
  pub next : q ≡ staged p write Idle None

abbrev pub kind : TurnKind
kind = record { Case = λ told p q. FindsFilled p q; touch = λ told p q t. untouched; OfJob = ⊥ }
