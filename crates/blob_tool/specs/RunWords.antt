-- What `run` and `exercise` are asked for with.
use Rattle.std.specs.Prelude.{◌≡◌, ℕ, Bool, true, false, List, [], Option, None, Some, String}
use Rattle.std.specs.declared.alloc.Global.{Global}
use Rattle.command_words.specs.Words.{asked_in, exercise, run, Asked}
use Rattle.script_lang.specs.Schedules.{IsSchedule}
use Rattle.script_lang.specs.declared.schedule.Actor.{Actor}
use Rattle.blob_tool.specs.GenerateWords.{generated_script_in}
use Rattle.blob_tool.specs.declared.driving.Drive.{Drive}
use Rattle.blob_tool.specs.declared.driving.Drive.TheVariants.{Stepwise, Threads}
use Rattle.blob_tool.specs.declared.run_script.RunScript.{RunScript}
use Rattle.blob_tool.specs.declared.run_script.RunScript.TheVariants.{Generated, Given}

-- without a text there are no steps
abbrev pub AreSteps : Option (List ℕ) → List Actor → Type 0
AreSteps None steps = steps ≡ []
AreSteps (Some text) steps = IsSchedule text steps

-- by the steps of the schedule that a text says, if there is one, or by threads; not by both
abbrev pub IsDriveOf : Option (List ℕ) → Bool → Drive → Type 0
IsDriveOf text false drive = (steps : List Actor) × AreSteps text steps × (drive ≡ Stepwise steps)
IsDriveOf None true drive = drive ≡ Threads
IsDriveOf (Some text) true drive = ⊥

-- a `run` of the given script, maybe with a schedule or by threads, or an `exercise` of a generated one, without either
abbrev pub IsRunOf : Option Asked → RunScript → Drive → Type 0
IsRunOf (Some (run image schedule threads)) Given drive = IsDriveOf schedule threads drive
IsRunOf (Some (exercise image number size)) (Generated script) drive =
    (generated_script_in number size ≡ Some script) × (drive ≡ Stepwise [])
IsRunOf _ _ _ = ⊥

-- The words ask for a run of this script, by a schedule whose steps are made first, or by threads.
abbrev pub AsksToRun : List (String Global) → RunScript → Drive → Type 0
AsksToRun words = IsRunOf (asked_in words)

-- the words ask for no run, or a text behind them isn't of its form
abbrev pub AskForNoRun : List (String Global) → Type 0
AskForNoRun words = (script : RunScript) (drive : Drive) → AsksToRun words script drive → ⊥

-- the one drive that a text and the option for threads say, or none
abbrev pub FindsDrive : Option (List ℕ) → Bool → Option Drive → Type 0
FindsDrive text threads (Some drive) =
    IsDriveOf text threads drive × ((other : Drive) → IsDriveOf text threads other → other ≡ drive)
FindsDrive text threads None = (drive : Drive) → IsDriveOf text threads drive → ⊥
