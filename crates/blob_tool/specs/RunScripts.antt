-- Which script is run, and what is printed of its log.
use Rattle.std.specs.Prelude.{◌<◌, ◌≤◌, ◌^◌, ◌+◌, ℕ, List}
use Rattle.volume_model.specs.declared.command.Command.{Command}
use Rattle.volume_model.specs.declared.reply.Entry.{Entry}
use Rattle.script_lang.specs.Generated.{generated_requests}
use Rattle.script_lang.specs.Script.{script_of}
use Rattle.blob_report.specs.Summary.{summary_text}
use Rattle.blob_report.specs.Text.{log_text}
use Rattle.blob_tool.specs.declared.generate_words.GeneratedScript.{GeneratedScript}
use Rattle.blob_tool.specs.declared.run_script.RunScript.{RunScript}
use Rattle.blob_tool.specs.declared.run_script.RunScript.TheVariants.{Given, Generated}

-- a number below 2^31, and at most 65,000 drawn lines
pub record IsWithinLimits (script : GeneratedScript) : Type 0 where
  pub number : script.number < 2 ^ 31
  pub size : script.size ≤ 65000

-- it is a generated one
abbrev pub IsGenerated : RunScript → Type 0
IsGenerated Given = ⊥
IsGenerated (Generated script) = Unit {0}

-- a generated script is within its limits
abbrev pub CanBeRun : RunScript → Type 0
CanBeRun Given = Unit {0}
CanBeRun (Generated script) = IsWithinLimits script

-- each channel's commands in a generated script
abbrev pub generated_commands : GeneratedScript → List (List Command)
generated_commands script = script_of (generated_requests script.number (script.size + 4))

-- what is printed of a log: each entry, or of a generated script the line that sums them up
abbrev pub printed_text : RunScript → List Entry → List ℕ
printed_text Given log = log_text log
printed_text (Generated script) log = summary_text log
