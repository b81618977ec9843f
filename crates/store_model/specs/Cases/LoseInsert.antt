-- The turn loses_insert.
use Rattle.std.specs.Prelude.{◌≡◌, ℕ, None}
use Rattle.blob_meta.specs.declared.meta.Meta.{Meta}
use Rattle.store_model.specs.Claiming.{CanInsert, given_back, IsCopying}
use Rattle.store_model.specs.Rows.{Decided, Lost, Posted}
use Rattle.store_model.specs.StoreState.{StoreState}
use Rattle.store_model.specs.Touches.{TurnKind, untouched}

-- The blob is gone, the slot out of range or filled, or the generation another: the row is decided, and its cluster is
-- clear.
pub record LosesInsert (p q : StoreState) : Type 0 where
  pub serial : ℕ
  pub posted : IsCopying p (Posted serial)
  pub runs : p.stopped ≡ None
  pub no_job : p.job ≡ None
  pub cannot : (meta : Meta) → CanInsert p posted.claim meta → ⊥
  pub next : q ≡ given_back p posted.row (Decided Lost)

abbrev pub kind : TurnKind
kind = record { Case = λ told p q. LosesInsert p q; touch = λ told p q t. untouched; OfJob = ⊥ }
