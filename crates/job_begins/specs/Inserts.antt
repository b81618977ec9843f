-- The begin of an insert: what it starts from, and what it comes to.
use Rattle.std.specs.Prelude.{◌≡◌, ℕ, List, Option, None, Result, IfOk}
use Rattle.page_disk.specs.declared.disk.PageDisk.{Ghosts}
use Rattle.blob_meta.specs.declared.meta.Meta.{Meta}
use Rattle.store_model.specs.Cases.{Kind}
use Rattle.store_model.specs.Cases as kind
use Rattle.store_model.specs.Claiming.{CanInsert}
use Rattle.store_model.specs.Inserting.{with_slot}
use Rattle.store_model.specs.Rows.{Answered, Decided, InJob, Lost, OpenClaim, Posted, Row}
use Rattle.store_model.specs.StoreState.{StoreState}
use Rattle.channel_turns.specs.ClaimTurns.{HoldsClaim}
use Rattle.running_store.specs.GivingBack.{HasGivenUp}
use Rattle.running_store.specs.TurnMade.{TurnMade, TurnsAs}
use Rattle.running_store.specs.Steps.{OnlyRow}
use Rattle.running_store.specs.StoreView.{StoreView, rows_of}
use Rattle.job_begins.specs.declared.inserting.InsertTurn.{InsertTurn}
use Rattle.job_begins.specs.declared.inserting.InsertTurn.TheVariants as insert

-- a row that is posted with the claim that it holds
pub record HoldsPosted {D : Type 0} (d : Ghosts D) (p : StoreView D) (row : ℕ) : Type 0 where
  pub serial : ℕ
  pub holds : HoldsClaim d p row (Posted serial)

-- The claim can be inserted, and this is the blob's metadata with the cluster in the slot, or memory ran out.
pub record Fills {E : Type 0} (p : StoreState) (claim : OpenClaim) (x : Result Meta E) : Type 0 where
  pub meta : Meta
  pub can : CanInsert p claim meta
  pub filled : IfOk x (λ new. new ≡ with_slot meta claim.slot claim.cluster)

-- too few pages are clear, or memory ran out
abbrev pub IsLack : Kind → Type 0
IsLack kind.lacks_for_insert = Unit {0}
IsLack kind.lacks_memory_for_insert = Unit {0}
IsLack _ = ⊥

-- The job begins; the claim is lost; or the command that the row works for is logged, for want of pages or memory.
abbrev pub InsertsOrNot : {D : Type 0} → Ghosts D → StoreView D → StoreView D → InsertTurn → Type 0
InsertsOrNot d p q insert.Began = TurnMade d p q kind.begins_insert
InsertsOrNot d p q insert.Decided = TurnMade d p q kind.loses_insert
InsertsOrNot d p q insert.Logged = TurnsAs d IsLack p q

-- the rows then, where the fill's row worked for this channel: the job inserts the row's cluster, its claim is lost, or
-- it has given up
abbrev pub RowsInserting : InsertTurn → Option ℕ → List Row → List Row → ℕ → Type 0
RowsInserting insert.Began filling old new row = OnlyRow old new row (record (rows_of old row) { stage = InJob })
RowsInserting insert.Decided filling old new row =
    OnlyRow old new row (record (rows_of old row) { stage = Decided Lost; claim = None })
RowsInserting insert.Logged filling old new row = HasGivenUp filling old new row (Decided Answered)
