-- The turn lacks_memory_for_insert.
use Rattle.std.specs.Prelude.{◌≡◌, ℕ, None}
use Rattle.volume_model.specs.declared.reply.Reply.TheVariants as r
use Rattle.blob_meta.specs.declared.meta.Meta.{Meta}
use Rattle.store_model.specs.Claiming.{CanInsert, IsCopying, LogsWork}
use Rattle.store_model.specs.Rows.{Answered, Decided, Posted}
use Rattle.store_model.specs.StoreState.{StoreState}
use Rattle.store_model.specs.Touches.{TurnKind, untouched}

-- Memory ran out for the insert: the command that the row works for is logged as that, and the claim given back.
pub record LacksMemoryForInsert (p q : StoreState) : Type 0 where
  pub serial : ℕ
  pub posted : IsCopying p (Posted serial)
  pub runs : p.stopped ≡ None
  pub no_job : p.job ≡ None
  pub meta : Meta
  pub can : CanInsert p posted.claim meta
  pub logs : LogsWork p posted.row (Decided Answered) r.Memory p.device q

abbrev pub kind : TurnKind
kind = record { Case = λ told p q. LacksMemoryForInsert p q; touch = λ told p q t. untouched; OfJob = ⊥ }
