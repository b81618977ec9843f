-- The turn lacks_for_insert.
use Rattle.std.specs.Prelude.{◌≡◌, ℕ, None, true}
use Rattle.volume_model.specs.declared.reply.Reply.TheVariants as r
use Rattle.blob_meta.specs.declared.meta.Meta.{Meta}
use Rattle.store_model.specs.Claiming.{CanInsert, IsCopying, LogsWork}
use Rattle.store_model.specs.Inserting.{with_slot}
use Rattle.store_model.specs.Jobs.{LacksPages}
use Rattle.store_model.specs.Rows.{Answered, Decided, Posted}
use Rattle.store_model.specs.StoreState.{StoreState}
use Rattle.store_model.specs.Touches.{TurnKind, untouched}

-- Fewer pages are clear than the insert needs: the command that the row works for is logged as that, and the claim
-- given back.
pub record LacksForInsert (p q : StoreState) : Type 0 where
  pub serial : ℕ
  pub posted : IsCopying p (Posted serial)
  pub runs : p.stopped ≡ None
  pub no_job : p.job ≡ None
  pub meta : Meta
  pub can : CanInsert p posted.claim meta
  pub lacks : LacksPages true (with_slot meta posted.claim.slot posted.claim.cluster) p.pages
  pub logs : LogsWork p posted.row (Decided Answered) r.NoPage p.device q

abbrev pub kind : TurnKind
kind = record { Case = λ told p q. LacksForInsert p q; touch = λ told p q t. untouched; OfJob = ⊥ }
