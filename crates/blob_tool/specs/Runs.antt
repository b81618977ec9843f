-- A loaded store, and a run from it to its end.
use Rattle.std.specs.Prelude.{◌≡◌, ◌≢◌, ◌⊎◌, ℕ, ◌<◌, Bool, List, length, ◌++◌, slice_get, Some, None, IsTrue}
use Rattle.std.specs.List.{All}
use Rattle.std.specs.FinMap as map
use Rattle.page_disk.specs.Disk.{Rose}
use Rattle.page_disk.specs.declared.disk.PageDisk as disk
use Rattle.super_block.specs.declared.masks.Masks.{Masks}
use Rattle.volume_model.specs.Logs.{replay, IsLegal, Interleaves}
use Rattle.volume_model.specs.declared.command.Command.{Command}
use Rattle.volume_model.specs.declared.reply.Reply.TheVariants as r
use Rattle.volume_model.specs.declared.reply.Entry.{Entry}
use Rattle.store_model.specs.Filling.{unused_row}
use Rattle.store_model.specs.Repairing.{IsRepaired}
use Rattle.store_model.specs.Rows.{fill_row}
use Rattle.store_model.specs.Seen.{seen}
use Rattle.store_model.specs.Shown.{fixed_of}
use Rattle.store_model.specs.Cases.{IsQuiet}
use Rattle.store_model.specs.StoreState.{Opens, shown}
use Rattle.store_model.specs.Cases.{Kind, Run}
use Rattle.running_store.specs.declared.loaded.Loaded.{Loaded}
use Rattle.store_core.specs.Opening.{AreRows, IsOpened}
use Rattle.running_store.specs.LoadedWhole.{AreMasks}
use Rattle.running_store.specs.Running.{super_left}
use Rattle.running_store.specs.StoreView.{base_of, rows_of, state_of, StoreView, WithOpening}
use Rattle.blob_meta.specs.Repairs.{HasNoMarks}
use Rattle.streams.specs.declared.sink.Sink as sink
use Rattle.blob_tool.specs.declared.status.Status.{Status}
use Rattle.blob_tool.specs.declared.status.Status.TheVariants as status
use Rattle.script_lang.specs.declared.schedule.Actor.{Actor}
use Rattle.insert_runs.specs.InsertRuns.{AreOncePerGeneration, claims_put}
use Rattle.md_thread.specs.Leading.{Leads}
use Rattle.channels.specs.StepwiseRuns.{RunsStepwise}
use Rattle.channels.specs.Actors.{actors_in_run}
use Rattle.channels.specs.RunEnds.{ended_row}
use Rattle.channels.specs.declared.stepwise.RunEnd.{RunEnd}
use Rattle.channels.specs.declared.stepwise.RunEnd.TheVariants as run_end
use Rattle.streams.specs.Printing.{IsPartOf}
use Rattle.blob_tool.specs.Closing.{LeavesClosing}
use Rattle.blob_tool.specs.Repairing.{AreMade, EndedInRepair}
use Rattle.blob_tool.specs.Surviving.{IsLasting, RunSurvives}
use Rattle.blob_tool.specs.Found.{HasSoundImage, IsFound, ReadsAs}
use Rattle.blob_tool.specs.RunScripts.{printed_text}
use Rattle.blob_tool.specs.declared.driving.Drive.{Drive}
use Rattle.blob_tool.specs.declared.driving.Drive.TheVariants.{Stepwise, Threads}
use Rattle.blob_tool.specs.declared.run_script.RunScript.{RunScript}

-- The turns that lead from one state of a store to another are those of the steps of a schedule, and then of rounds of
-- the channels and the metadata thread until all have ended.
abbrev pub FollowsSchedule : {D : Type 0} → disk.Ghosts D → List Actor → StoreView D → StoreView D → Type 0
FollowsSchedule d schedule first last =
    RunsStepwise d.tells (actors_in_run schedule) (state_of d first) (state_of d last)

-- The turns that lead from one state of a store to another are those that the drive of a run makes: by a schedule those
-- of its steps and of rounds, by threads any.
abbrev pub FollowsDrive : {D : Type 0} → disk.Ghosts D → Drive → StoreView D → StoreView D → Type 0
FollowsDrive d (Stepwise schedule) first last = FollowsSchedule d schedule first last
FollowsDrive d Threads first last = Leads d.tells (state_of d first) (state_of d last)

-- every channel has ended, no slots are filled and no job runs
pub record HasEndedRun {D : Type 0} (last : StoreView D) : Type 0 where
  pub over : (channel : ℕ) → channel < 16 → rows_of last.rows channel ≡ ended_row
  pub unused : rows_of last.rows fill_row ≡ unused_row
  pub no_job : last.job ≡ None

-- no entry of the log tells of a call of the device that failed
abbrev pub TellsNoFault : List Entry → Type 0
TellsNoFault log = All (λ e. IsQuiet e.reply) log × All (λ e. e.reply ≢ r.ReadFault) log

module _ {D : Type 0} (d : disk.Ghosts D) (script : List (List Command)) where
  -- a store is found on the device, and opened with the script
  pub record IsLoaded (before : D) (loaded : Loaded D) (first : StoreView D) : Type 0 where
    pub found : IsFound d before loaded
    pub opened : IsOpened d loaded script first

  -- A loaded store is opened with the script, its repairs are made, none of which failed, and it runs.
  pub record IsMended (loaded : Loaded D) (quick : Bool) (plant : WithOpening D) : Type 0 where
    pub opened : IsOpened d loaded script plant.opening
    pub read : ReadsAs d quick plant.opening.super (base_of plant.opening.metas plant.opening.marked)
        (map.get plant.opening.chains) plant.opening.disk
    pub made : AreMade d plant.opening plant.at
    pub unstopped : plant.at.stopped ≡ None
    pub unmarked : HasNoMarks (base_of plant.at.metas plant.at.marked)
    pub seventeen : length plant.opening.rows ≡ 17
    pub repaired : IsRepaired (state_of d plant.at)

  module _ (drive : Drive) where
    -- A run leads from one state of the store to another, in which every channel has ended, no slots are filled and no
    -- job runs. Its turns are repairs, none of which fails, until no blob has a mark, and then those of its drive: of
    -- the steps of a schedule, and of rounds of the channels and the metadata thread; or of threads. Its log is a legal
    -- one of the script's commands, and the volumes shown at the end are its replay, unless the store stopped. Of a
    -- device that doesn't tell what it holds both are said but for what pages hold (`seen`).
    pub record IsRun (first last : StoreView D) : Type 0 where
      pub opens : Opens (state_of d first)
      pub repaired : StoreView D
      pub repairs : AreMade d first repaired
      pub unstopped : repaired.stopped ≡ None
      pub unmarked : HasNoMarks (base_of repaired.metas repaired.marked)
      pub follows : FollowsDrive d drive repaired last
      pub turns : (kinds : List Kind) × Run d.tells (state_of d first) kinds (state_of d last)
      pub ended : HasEndedRun last
      -- of one slot under one generation at most one insert commits
      pub inserts_once : AreOncePerGeneration
          (claims_put d.tells turns.0 (state_of d first) (state_of d last) turns.1)
      pub interleaves : Interleaves last.log script
      pub legal : IsLegal (fixed_of first.super) (shown (state_of d first)) (seen d.tells last.log)
      -- a store that stopped has counted a failed write or flush, and its fault, if it has one, stands where it
      -- stopped; else it has counted none, and no entry is a fault or stopped
      pub counted : (at : ℕ) → last.stopped ≡ Some at → Rose (d.write_faults first.disk) (d.write_faults last.disk)
      pub uncounted : last.stopped ≡ None → d.write_faults last.disk ≡ d.write_faults first.disk
      pub fault_at : (k : ℕ) (e : Entry) → slice_get last.log k ≡ Some e → e.reply ≡ r.Fault → last.stopped ≡ Some k
      -- an entry is a `read fault` only where the device has counted a failed read
      pub read_counted : All
          (λ e. e.reply ≡ r.ReadFault → Rose (d.read_faults first.disk) (d.read_faults last.disk)) last.log
      pub quiet : last.stopped ≡ None → All (λ e. IsQuiet e.reply) last.log
      pub replayed : last.stopped ≡ None
          → shown (state_of d last)
          ≡ replay (fixed_of first.super) (shown (state_of d first)) (seen d.tells last.log)

    -- what is printed of the log depends on which script it is
    module _ (from : RunScript) {K : Type 0} (k : sink.Ghosts K) (out out_now : K) (back : D) where
      -- a run from this state, behind which the store was unloaded at most, with the masks that its metadata claims,
      -- and the device is handed back; and of the text of its log as much as was printed
      pub record Played (first : StoreView D) : Type 0 where
        pub last : StoreView D
        pub run : IsRun first last
        pub masks : Masks
        pub claims : last.stopped ≡ None
            → AreMasks last.super (base_of last.metas last.marked) (map.get last.chains) masks
        pub device : LeavesClosing d (super_left last.clean last.super) masks last.disk back
        -- it has as many pages as it had, and counts the failed reads of the run's turns
        pub pages : d.pages back ≡ d.pages first.disk
        pub read_faults : d.read_faults back ≡ d.read_faults last.disk
        -- power may fail at any moment, of a device that had one sound image
        pub survives : HasSoundImage d first.disk → RunSurvives d first.super (shown (state_of d first)) last back
        pub printed : IsTrue k.tells → IsPartOf (k.written out) (k.written out_now) (printed_text from last.log)

      -- the whole text was printed
      abbrev pub IsPrinted : {first : StoreView D} → Played first → Type 0
      IsPrinted p = IsTrue k.tells → k.written out_now ≡ k.written out ++ printed_text from p.last.log

      -- the store didn't stop, and all that was written is lasting
      abbrev pub IsWhole : {first : StoreView D} → Played first → Type 0
      IsWhole {first} p = (p.last.stopped ≡ None)
          × (HasSoundImage d first.disk → IsLasting d first.super (shown (state_of d first)) p.last back)

      -- The store stopped there, and the device was left alone from then on; or, behind all entries, the unload failed.
      abbrev pub EndsAt : {first : StoreView D} → Played first → ℕ → Type 0
      EndsAt p at = ((p.last.stopped ≡ Some at) × (back ≡ p.last.disk))
          ⊎ ((p.last.stopped ≡ None) × (at ≡ length p.last.log)
          × Rose (d.write_faults p.last.disk) (d.write_faults back))

      -- what a run came to: it was printed whole, or the sink failed; the device failed; or memory ran out
      abbrev pub Ended : StoreView D → Status → Type 0
      Ended first status.Good = (p : Played first) × IsWhole p × IsPrinted p
      Ended first status.OutWrite = (p : Played first) × IsWhole p × Rose (k.faults out) (k.faults out_now)
      Ended first (status.Device at) =
          (p : Played first) × EndsAt p at × (IsPrinted p ⊎ Rose (k.faults out) (k.faults out_now))
      Ended first status.Memory = Played first
      Ended first _ = ⊥

      -- it began, and ended with its repairs or behind them; or memory ran out before: then nothing was printed, and
      -- the device is the one that was loaded
      abbrev pub EndedFrom : Loaded D → Status → Type 0
      EndedFrom loaded s =
          ((first : StoreView D) × IsOpened d loaded script first
          × (Ended first s ⊎ EndedInRepair d k out out_now back first s))
          ⊎ ((s ≡ status.Memory) × (out_now ≡ out) × (back ≡ loaded.disk))

-- Behind a run a store is unloaded, and its log printed. With whatever script it was opened, and whatever drove it from
-- where its repairs had ended: that is what the run came to.
abbrev pub Finishes : {D : Type 0} → disk.Ghosts D → RunScript → {K : Type 0} → sink.Ghosts K → (out out_now : K)
    → (back : D) → WithOpening D → RunEnd → Status → Type 0
Finishes {D} d from k out out_now back plant end st =
    (script : List (List Command)) (drive : Drive) (repaired : StoreView D) → AreRows script plant.opening.rows
    → AreMade d plant.opening repaired → repaired.stopped ≡ None → HasNoMarks (base_of repaired.metas repaired.marked)
    → FollowsDrive d drive repaired plant.at → (end ≡ run_end.Memory → plant.at ≡ repaired)
    → Ended d script drive from k out out_now back plant.opening st
    ⊎ EndedInRepair d k out out_now back plant.opening st
