-- What the words ask for. Whatever it is, they ask for nothing else.
use Rattle.std.specs.Prelude.{◌≡◌, ◌⊎◌, ◌<◌, List, Option, Some, None, IfSome, IsSome, String}
use Rattle.std.specs.declared.alloc.Global.{Global}
use Rattle.blob_tool.specs.RunScripts.{CanBeRun, IsWithinLimits}
use Rattle.blob_tool.specs.RunWords.{AsksToRun, AskForNoRun}
use Rattle.blob_tool.specs.FormatWords.{format_in}
use Rattle.blob_tool.specs.GenerateWords.{generate_in}
use Rattle.listing_text.specs.declared.format.ListFormat.{ListFormat}
use Rattle.blob_tool.specs.ListWords.{list_in}
use Rattle.blob_tool.specs.ExportWords.{export_in}
use Rattle.volume_model.specs.declared.command.VolumeRef.{VolumeRef}
use Rattle.blob_tool.specs.declared.driving.Drive.{Drive}
use Rattle.blob_tool.specs.declared.format_words.Format.{Format}
use Rattle.blob_tool.specs.declared.generate_words.GeneratedScript.{GeneratedScript}
use Rattle.blob_tool.specs.declared.run_script.RunScript.{RunScript}
use Rattle.blob_tool.specs.declared.task.Task.{Task}
use Rattle.blob_tool.specs.declared.task.Task.TheVariants as task

-- they are no command, or a word isn't of its form
pub record AskForNothing (words : List (String Global)) : Type 0 where
  pub no_run : AskForNoRun words
  pub no_format : format_in words ≡ None
  pub no_list : list_in words ≡ None
  pub no_export : export_in words ≡ None
  pub no_generate : generate_in words ≡ None

module _ (words : List (String Global)) where
  -- a run of this script with this drive, and of no other
  pub record AskToRun (script : RunScript) (drive : Drive) : Type 0 where
    pub asked : AsksToRun words script drive
    pub one : (other : RunScript) (by : Drive) → AsksToRun words other by → (other ≡ script) × (by ≡ drive)
    pub within : CanBeRun script
    pub no_format : format_in words ≡ None
    pub no_list : list_in words ≡ None
    pub no_export : export_in words ≡ None
    pub no_generate : generate_in words ≡ None

  -- a new store like this, with at least one metadata page
  pub record AskToFormat (new : Format) : Type 0 where
    pub asked : format_in words ≡ Some new
    pub some_page : IfSome new.md_pages (λ pages. 0 < pages)
    pub no_run : AskForNoRun words
    pub no_list : list_in words ≡ None
    pub no_export : export_in words ≡ None
    pub no_generate : generate_in words ≡ None

  -- a listing in this format
  pub record AskToList (format : ListFormat) : Type 0 where
    pub asked : list_in words ≡ Some format
    pub no_run : AskForNoRun words
    pub no_format : format_in words ≡ None
    pub no_export : export_in words ≡ None
    pub no_generate : generate_in words ≡ None

  -- an export of this volume
  pub record AskToExport (volume : VolumeRef) : Type 0 where
    pub asked : export_in words ≡ Some volume
    pub no_run : AskForNoRun words
    pub no_format : format_in words ≡ None
    pub no_list : list_in words ≡ None
    pub no_generate : generate_in words ≡ None

  -- this generated script, whose number and size are within their limits
  pub record AskToGenerate (script : GeneratedScript) : Type 0 where
    pub asked : generate_in words ≡ Some script
    pub within : IsWithinLimits script
    pub no_run : AskForNoRun words
    pub no_format : format_in words ≡ None
    pub no_list : list_in words ≡ None
    pub no_export : export_in words ≡ None

  -- what they ask for, if it is anything
  abbrev pub AskFor : Option Task → Type 0
  AskFor None = AskForNothing words
  AskFor (Some (task.Run script drive)) = AskToRun script drive
  AskFor (Some (task.Format new)) = AskToFormat new
  AskFor (Some (task.List format)) = AskToList format
  AskFor (Some (task.Export volume)) = AskToExport volume
  AskFor (Some (task.Generate script)) = AskToGenerate script

-- They are no command, or ask for an export, and there is no second device.
abbrev pub AskInVain : {E : Type 0} → List (String Global) → Option E → Type 0
AskInVain words second = AskForNothing words ⊎ (IsSome (export_in words) × (second ≡ None))
