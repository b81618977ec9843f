-- The turn loses_copy.
use Rattle.std.specs.Prelude.{◌≡◌, ◌≢◌, ℕ, suc, Some, None}
use Rattle.store_model.specs.Claiming.{given_back, IsCopying}
use Rattle.store_model.specs.Filling.{filling_behind}
use Rattle.store_model.specs.Rows.{Copying, Idle}
use Rattle.store_model.specs.StoreState.{StoreState}
use Rattle.store_model.specs.Touches.{TurnKind, untouched}

-- The blob is gone, or its generation is another: the claim is lost, and the write begins again. The fill's row works
-- for no command then.
pub record LosesCopy (p q : StoreState) : Type 0 where
  pub left : ℕ
  pub copying : IsCopying p (Copying (suc left))
  pub runs : p.stopped ≡ None
  pub late : p.generations copying.claim.head ≢ Some copying.claim.generation
  pub next : q ≡ record (given_back p copying.row Idle) { filling = filling_behind p copying.row }

abbrev pub kind : TurnKind
kind = record { Case = λ told p q. LosesCopy p q; touch = λ told p q t. untouched; OfJob = ⊥ }
