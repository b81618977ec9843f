-- The turn finds_empty.
use Rattle.std.specs.Prelude.{◌≡◌, None}
use Rattle.store_model.specs.Claiming.{IsWriting, MeansSlot, refused_by, staged}
use Rattle.store_model.specs.Rows.{Claiming, Idle}
use Rattle.store_model.specs.StoreState.{StoreState}
use Rattle.store_model.specs.Touches.{TurnKind, untouched}

-- A write that nothing refuses finds its slot empty. No device call; the volumes stay.
pub record FindsEmpty (p q : StoreState) : Type 0 where
  pub write : IsWriting p Idle None
  pub runs : p.stopped ≡ None
  pub asked : refused_by p write ≡ None
  pub means : MeansSlot p write None
  pub next : q ≡ staged p write Claiming None

abbrev pub kind : TurnKind
kind = record { Case = λ told p q. FindsEmpty p q; touch = λ told p q t. untouched; OfJob = ⊥ }
