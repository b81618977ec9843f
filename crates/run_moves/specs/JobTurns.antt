-- Each turn of a job is a move of the metadata thread.
use Rattle.std.specs.Prelude.{◌≡◌, ◌≢◌, ◌⊎◌, ℕ, Some, Bool, false, []}
use Rattle.volume_model.specs.Volumes.{Volumes}
use Rattle.store_model.specs.Cases.BreakDown.{BreaksDown}
use Rattle.store_model.specs.Cases.BreakOff.{BreaksOff}
use Rattle.store_model.specs.Cases.BreakOffMore.{MoreBreaksOff}
use Rattle.store_model.specs.Cases.Commit.{Commits}
use Rattle.store_model.specs.Cases.Erase.{Erases}
use Rattle.store_model.specs.Cases.Fail.{Fails}
use Rattle.store_model.specs.Cases.FailMore.{MoreFails}
use Rattle.store_model.specs.Cases.Free.{Frees}
use Rattle.store_model.specs.Cases.Insert.{Inserts}
use Rattle.store_model.specs.Cases.InsertBreakDown.{InsertBreaksDown}
use Rattle.store_model.specs.Cases.InsertEnd.{InsertEnds}
use Rattle.store_model.specs.Cases.InsertFail.{InsertFails}
use Rattle.store_model.specs.Cases.ReplaceMore.{ReplacesMore}
use Rattle.store_model.specs.Cases.WriteFresh.{WritesFresh}
use Rattle.store_model.specs.Cases.MarkDirty.{MarksDirty}
use Rattle.store_model.specs.Cases.Zero.{Zeroes}
use Rattle.store_model.specs.Guarding.{IsGuarded}
use Rattle.store_model.specs.RunInvariant.{RunsWell}
use Rattle.store_model.specs.Rows.{fill_row}
use Rattle.store_model.specs.StoreState.{JobState, StoreState}
use Rattle.run_work.specs.JobMoves.{CommitMove, DropMove, FailMove, InsertMove, PageMove, ReplaceMove, WinMove}
use Rattle.run_work.specs.Reading.{asks_metadata}
use Rattle.run_work.specs.RunState.{RunSizes, RunState}
use Rattle.run_moves.specs.Projection.{row_in_run, run_state_of, RunMessages}
use Rattle.run_moves.specs.Sizes.{sizes_of}

-- a job that runs has something left to do
abbrev pub HasTurnsLeft : StoreState → Type 0
HasTurnsLeft p = (job : JobState) → p.job ≡ Some job → job.todo ≢ []

-- the first command of a row, if it has one, isn't for the metadata thread
abbrev pub HasPlainRow : StoreState → ℕ → Type 0
HasPlainRow p row = asks_metadata (row_in_run p.super (p.rows row)).left ≡ false

module _ (p q : StoreState) (d : RunMessages) where
  -- a move of the metadata thread alone between the runs of the two states, and one with a row
  abbrev pub IsJobMove : (RunSizes → RunState → RunState → Type 0) → Type 0
  IsJobMove Move = Move (sizes_of p.super) (run_state_of p d) (run_state_of q d)

  -- a move of the metadata thread that concerns a row
  abbrev pub IsJobMoveOf : (RunSizes → RunState → ℕ → RunState → Type 0) → ℕ → Type 0
  IsJobMoveOf Move row = Move (sizes_of p.super) (run_state_of p d) row (run_state_of q d)

  -- turns that write one page: the super block, to say that the store is in use, or one of a cluster, of a chain or of
  -- an old one
  pub record PageTurns : Type 0 where
    pub marks_dirty : HasTurnsLeft q → (told : Bool) → MarksDirty told p q → IsJobMove PageMove
    pub zeroes : HasTurnsLeft q → (told : Bool) → Zeroes told p q → IsJobMove PageMove
    pub writes : HasTurnsLeft q → (told : Bool) → WritesFresh told p q → IsJobMove PageMove
    pub erases : HasTurnsLeft q → (told : Bool) → Erases told p q → IsJobMove PageMove
    pub frees : (told : Bool) → Frees told p q → IsJobMove PageMove

  -- turns in which a write or a flush failed, and those of a stopped store
  pub record FailingTurns : Type 0 where
    pub fails : (t : Fails p q) → IsJobMoveOf FailMove t.served.channel
    pub insert_fails : (t : InsertFails p q) → t.inserting.row ≢ fill_row → IsJobMoveOf FailMove t.inserting.row
    pub breaks_off : BreaksOff p q → IsJobMove DropMove
    pub more_fails : (t : MoreFails p q) → IsJobMoveOf FailMove t.served.channel
    pub more_breaks_off : MoreBreaksOff p q → IsJobMove DropMove
    pub breaks_down : IsGuarded p → BreaksDown p q → ((row : ℕ) × IsJobMoveOf FailMove row) ⊎ IsJobMove DropMove
    pub insert_breaks_down : IsGuarded p → (t : InsertBreaksDown p q) → t.inserting.row ≢ fill_row
        → IsJobMoveOf FailMove t.inserting.row

  -- Turns that replace a head's page, and the last of an insert. An insert's row has no command for the metadata thread
  -- first.
  pub record ReplacingTurns : Type 0 where
    pub commits : (first : Volumes) → RunsWell first p → RunsWell first q → (told : Bool) (t : Commits told p q)
        → IsJobMoveOf CommitMove t.served.channel
    pub replaces_more : (first : Volumes) → RunsWell first p → RunsWell first q → (told : Bool) → ReplacesMore told p q
        → IsJobMove ReplaceMove
    pub inserts : (first : Volumes) → RunsWell first p → RunsWell first q → (told : Bool) (t : Inserts told p q)
        → HasPlainRow p t.inserting.row → IsJobMoveOf InsertMove t.inserting.row
    pub insert_ends : (first : Volumes) → RunsWell first p → (told : Bool) (t : InsertEnds told p q)
        → HasPlainRow p t.inserting.row → IsJobMoveOf WinMove t.inserting.row

pub record JobTurnLaws : Type 0 where
  pub page : (p q : StoreState) (d : RunMessages) → PageTurns p q d
  pub failing : (p q : StoreState) (d : RunMessages) → FailingTurns p q d
  pub replacing : (p q : StoreState) (d : RunMessages) → ReplacingTurns p q d
