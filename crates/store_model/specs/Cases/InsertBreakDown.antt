-- The turn insert_breaks_down.
use Rattle.std.specs.Prelude.{◌≡◌, ℕ, Some, None}
use Rattle.volume_model.specs.declared.reply.Reply.TheVariants as r
use Rattle.store_model.specs.Claiming.{IsInserting, LogsWork}
use Rattle.store_model.specs.Rows.{Answered, Decided}
use Rattle.store_model.specs.StoreState.{JobState, StoreState}
use Rattle.store_model.specs.Touches.{TurnKind, untouched}

-- A turn of an insert's job on a stopped store: no device call, and no job runs any more. The command that the row
-- works for, which has no entry yet, is logged as stopped, and the claim given back. Nothing has been frozen since the
-- store stopped.
pub record InsertBreaksDown (p q : StoreState) : Type 0 where
  pub job : JobState
  pub is : p.job ≡ Some job
  pub inserting : IsInserting p job
  pub at : ℕ
  pub stands : p.stopped ≡ Some at
  pub logs : LogsWork (record p { job = None }) inserting.row (Decided Answered) (r.Stopped at) p.device q

abbrev pub kind : TurnKind
kind = record { Case = λ told p q. InsertBreaksDown p q; touch = λ told p q t. untouched; OfJob = ⊥ }
