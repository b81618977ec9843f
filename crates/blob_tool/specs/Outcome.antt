-- What a call of the program did, by its status.
use Rattle.std.specs.Prelude.{◌≡◌, ◌⊎◌, ℕ, ◌<◌, ◌≤◌, ◌^◌, Bool, List, [], length, Some, None, IsTrue}
use Rattle.page_disk.specs.Disk.{Rose}
use Rattle.page_disk.specs.declared.disk.PageDisk as disk
use Rattle.volume_model.specs.declared.command.Command.{Command}
use Rattle.job_begins.specs.Repairs.{LacksForRepair}
use Rattle.script_lang.specs.Script.{reads, IsFirstBad}
use Rattle.script_lang.specs.declared.fault.LineKind.{LineKind}
use Rattle.script_lang.specs.declared.fault.LineKind.TheVariants.{Limit}
use Rattle.running_store.specs.declared.loaded.Loaded.{Loaded}
use Rattle.running_store.specs.StoreView.{state_of, StoreView, WithOpening}
use Rattle.repair_runs.specs.RepairRuns.{RepairRun}
use Rattle.unclean_load.specs.Accepted.{IsAccepted}
use Rattle.unclean_load.specs.declared.fault.LoadFault.{LoadFault}
use Rattle.unclean_load.specs.declared.fault.LoadFault.TheVariants as fault
use Rattle.streams.specs.declared.source.Source as source
use Rattle.streams.specs.declared.sink.Sink as sink
use Rattle.blob_tool.specs.declared.driving.Drive.{Drive}
use Rattle.blob_tool.specs.declared.run_script.RunScript.{RunScript}
use Rattle.blob_tool.specs.declared.run_script.RunScript.TheVariants.{Generated, Given}
use Rattle.blob_tool.specs.declared.status.Status.{Status}
use Rattle.blob_tool.specs.declared.status.Status.TheVariants as status
use Rattle.blob_tool.specs.Repairing.{EndedInRepair}
use Rattle.blob_tool.specs.RunScripts.{generated_commands}
use Rattle.blob_tool.specs.Found.{IsFound}
use Rattle.blob_tool.specs.Runs.{Ended, IsLoaded, IsMended}
use Rattle.blob_tool.specs.Untouched.{IsRefused, NothingDone, NothingWritten}

module _ {S : Type 0} (s : source.Ghosts S) (script script_now : S) where
  -- the script's text: all that the source had
  pub record IsText (text : List ℕ) : Type 0 where
    pub all : IsTrue s.tells → text ≡ s.left script
    pub rest : IsTrue s.tells → s.left script_now ≡ []

  -- the source's text is no script: this line of it is the first outside the grammar or over a limit, and this is wrong
  -- with it
  pub record HasBadLine (line : ℕ) (kind : LineKind) : Type 0 where
    pub text : List ℕ
    pub is_text : IsText text
    pub first : IsFirstBad text line kind
    pub no_script : reads text ≡ None

  -- it is too long, which is said as line 0 and as a limit
  pub record IsTooLong (line : ℕ) (kind : LineKind) : Type 0 where
    pub line_is : line ≡ 0
    pub kind_is : kind ≡ Limit
    pub long : IsTrue s.tells → 2 ^ 20 < length (s.left script)

  -- the whole text is a script with these commands of each channel
  pub record ReadsScript (commands : List (List Command)) : Type 0 where
    pub text : List ℕ
    pub is_text : IsText text
    pub reads_as : reads text ≡ Some commands

  -- the commands of the script that is run; for a generated one the source isn't read
  abbrev pub HasCommands : RunScript → List (List Command) → Type 0
  HasCommands Given commands = ReadsScript commands
  HasCommands (Generated drawn) commands = (commands ≡ generated_commands drawn) × (script_now ≡ script)

  -- why the commands of a script that is given weren't had
  abbrev pub HasNoScript : Status → Type 0
  HasNoScript (status.Script line kind) = (HasBadLine line kind ⊎ IsTooLong line kind)
  HasNoScript status.ScriptRead = Rose (s.faults script) (s.faults script_now)
  HasNoScript status.Memory = Unit {0}
  HasNoScript _ = ⊥

  -- why those of the script that is run weren't: of a generated one for want of memory alone
  abbrev pub HasNoCommands : RunScript → Status → Type 0
  HasNoCommands Given st = HasNoScript st
  HasNoCommands (Generated drawn) status.Memory = script_now ≡ script
  HasNoCommands (Generated drawn) _ = ⊥

  -- the source has a script and nothing else, and doesn't fail
  pub record SourceHasScript : Type 0 where
    pub tells : IsTrue s.tells
    pub commands : List (List Command)
    pub reads_as : reads (s.left script) ≡ Some commands
    pub small : length (s.left script) ≤ 2 ^ 20
    pub quiet : Rose (s.faults script) (s.faults script_now) → ⊥

  -- the script that is run can be had
  abbrev pub CanBeHad : RunScript → Type 0
  CanBeHad Given = SourceHasScript
  CanBeHad (Generated drawn) = Unit {0}

  -- the script was had, and the store is loaded, opened with its commands, and mended
  pub record IsReady {D : Type 0} (d : disk.Ghosts D) (before : D) (from : RunScript) (quick : Bool)
      (plant : WithOpening D) : Type 0 where
    pub commands : List (List Command)
    pub script_is : HasCommands from commands
    pub loaded : Loaded D
    pub found : IsFound d before loaded
    pub mended : IsMended d commands loaded quick plant

  module _ {D : Type 0} (d : disk.Ghosts D) {K : Type 0} (k : sink.Ghosts K) (out out_now : K) (before back : D) where
    -- the script is none, or can't be read: then the device isn't touched
    abbrev pub IsBadScript : ℕ → LineKind → Type 0
    IsBadScript line kind = NothingDone out out_now before back × (HasBadLine line kind ⊎ IsTooLong line kind)

    -- the source failed, and the device isn't touched
    abbrev pub IsUnread : Type 0
    IsUnread = NothingDone out out_now before back × Rose (s.faults script) (s.faults script_now)

  -- a run of this script
  module _ {D : Type 0} (d : disk.Ghosts D) {K : Type 0} (k : sink.Ghosts K) (out out_now : K) (before back : D)
      (from : RunScript) where
    -- the script was had, and the store was loaded and opened with its commands
    pub record Started (commands : List (List Command)) (first : StoreView D) : Type 0 where
      pub script_is : HasCommands from commands
      pub loaded : Loaded D
      pub as_found : IsLoaded d commands before loaded first

    -- a run by its drive, and what it came to
    pub record RanTo (drive : Drive) (status : Status) : Type 0 where
      pub commands : List (List Command)
      pub first : StoreView D
      pub started : Started commands first
      pub ended : Ended d commands drive from k out out_now back first status

    -- a run that ended with its repairs, and what they came to
    pub record EndedRepairing (status : Status) : Type 0 where
      pub commands : List (List Command)
      pub first : StoreView D
      pub started : Started commands first
      pub ended : EndedInRepair d k out out_now back first status

    -- whatever repairs are made of an opened store, as many pages are clear as the next one needs
    abbrev pub HasRoomForRepairs : StoreView D → Type 0
    HasRoomForRepairs first =
        (p : StoreView D) → RepairRun d.tells (state_of d first) (state_of d p) → p.stopped ≡ None
        → (head has wants : ℕ) → LacksForRepair (state_of d p) head has wants → ⊥

    -- the script was had, whatever the device holds
    pub record HasScript : Type 0 where
      pub commands : List (List Command)
      pub script_is : HasCommands from commands

    -- The image has this fault, and isn't accepted; or it is accepted, and a repair needs more pages than are clear.
    abbrev pub IsBadImage : LoadFault → Type 0
    IsBadImage (fault.NoRoom head has wants) = EndedRepairing (status.Image (fault.NoRoom head has wants))
    IsBadImage why = NothingWritten d before out out_now back × HasScript × IsRefused d before back why

    -- a read of the device failed while the store was loaded
    abbrev pub IsUnloaded : ℕ → Type 0
    IsUnloaded at =
        NothingWritten d before out out_now back × HasScript × (at ≡ 0)
        × Rose (d.read_faults before) (d.read_faults back)

    -- what each status says of a run that was asked for with this drive
    abbrev pub Outcome : Drive → Status → Type 0
    Outcome drive status.Good = RanTo drive status.Good
    Outcome drive status.Usage = NothingDone out out_now before back × (script_now ≡ script)
    Outcome drive (status.Script line kind) = (from ≡ Given) × IsBadScript d k out out_now before back line kind
    Outcome drive (status.Image fault) = IsBadImage fault
    Outcome drive status.ScriptRead = (from ≡ Given) × IsUnread d k out out_now before back
    Outcome drive status.OutWrite = RanTo drive status.OutWrite
    Outcome drive (status.Device at) =
        RanTo drive (status.Device at) ⊎ (IsUnloaded at ⊎ EndedRepairing (status.Device at))
    Outcome drive status.Memory =
        RanTo drive status.Memory ⊎ (NothingWritten d before out out_now back ⊎ EndedRepairing status.Memory)

    -- the script can be had, the image is accepted, each repair has the pages that it needs, and no count of faults
    -- rose in the call
    pub record NothingFails : Type 0 where
      pub script_is : CanBeHad from
      pub device_tells : IsTrue d.tells
      pub accepted : IsAccepted (d.pages before) (d.now before)
      pub room : (commands : List (List Command)) (first : StoreView D) → Started commands first
          → HasRoomForRepairs first
      pub sink : Rose (k.faults out) (k.faults out_now) → ⊥
      pub reading : Rose (d.read_faults before) (d.read_faults back) → ⊥
      pub writing : Rose (d.write_faults before) (d.write_faults back) → ⊥
