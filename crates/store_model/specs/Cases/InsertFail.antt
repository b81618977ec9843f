-- The turn insert_fails.
use Rattle.std.specs.Prelude.{◌≡◌, ℕ, List, Some, None, false}
use Rattle.super_block.specs.declared.page.Super.{Super}
use Rattle.volume_model.specs.declared.reply.Reply.TheVariants as r
use Rattle.blob_meta.specs.declared.meta.Meta.{Meta}
use Rattle.md_chain.specs.declared.plan.PlannedPage.{PlannedPage}
use Rattle.store_model.specs.Claiming.{IsInserting, LogsWork}
use Rattle.store_model.specs.Device.{Device}
use Rattle.store_model.specs.Phases.{Marks, page_in, Phase, Replaces, Replacing}
use Rattle.store_model.specs.Recovers.{SaysInUse}
use Rattle.store_model.specs.Rows.{Answered, Decided}
use Rattle.store_model.specs.StoreState.{JobState, StoreState}
use Rattle.store_model.specs.Touches.{page_touched, puts, replaces, Touch, TurnKind}
use Rattle.store_model.specs.Turning.{FailsToReplace, page_of_place, put_by, Runs, stopped_now}

-- what was being written: the super block, to say that the store is in use; a page at a place that the job holds; or
-- the head
pub data TriedInsert (s : Super) (j : JobState) (phase : Phase) : Type 0 where
  mark : (content : List ℕ) → phase ≡ Marks → SaysInUse s content → TriedInsert s j phase
  page : (put : PlannedPage) → put_by j phase ≡ Some put → TriedInsert s j phase
  head : (replacing : Replacing) (new : Meta) → phase ≡ Replaces replacing None → replacing.new ≡ Some new
      → TriedInsert s j phase

abbrev pub tried_insert : (p : StoreState) → {j : JobState} → {phase : Phase} → TriedInsert p.super j phase → Touch
tried_insert p (mark content is says) = replaces 0 content false
tried_insert p (page put is) = puts (page_of_place p put.place) put.page false
tried_insert p (head replacing new is new_is) =
    replaces (page_of_place p replacing.head) (page_in replacing.planned replacing.head) false

-- A write or a flush of the job failed: the store stops, the command that the row works for is logged as failed, the
-- claim is given back, if the cluster isn't in its slot yet, no job runs any more, and no blob is frozen.
pub record InsertFails (p q : StoreState) : Type 0 where
  pub phase : Phase
  pub running : Runs p phase
  pub inserting : IsInserting p running.job
  pub tried : TriedInsert p.super running.job phase
  pub device : Device
  pub fails : FailsToReplace (page_touched (tried_insert p tried)) p.device device
  pub logs : LogsWork (record (stopped_now p) { job = None }) inserting.row (Decided Answered) r.Fault device q

abbrev pub kind : TurnKind
kind = record { Case = λ told p q. InsertFails p q; touch = λ told p q t. tried_insert p t.tried; OfJob = ⊥ }
