-- Which status comes of what.
use Rattle.std.specs.Prelude.{ℕ, Option, Some, None, Result, Ok, Err, Bool, true, false}
use Rattle.script_lang.specs.declared.fault.LineKind.TheVariants.{Limit}
use Rattle.script_lang.specs.declared.fault.ScriptFault.{ScriptFault}
use Rattle.script_lang.specs.declared.fault.ScriptFault.TheVariants as script
use Rattle.streams.specs.declared.reading.ReadFault.{ReadFault}
use Rattle.streams.specs.declared.reading.ReadFault.TheVariants as reading
use Rattle.unclean_load.specs.declared.fault.LoadFault.{LoadFault}
use Rattle.unclean_load.specs.declared.fault.LoadFault.TheVariants as loading
use Rattle.streams.specs.declared.printing.PrintFault.{PrintFault}
use Rattle.streams.specs.declared.printing.PrintFault.TheVariants as printing
use Rattle.blob_tool.specs.declared.status.Status.{Status}
use Rattle.blob_tool.specs.declared.status.Status.TheVariants as status

-- a script's fault, with its line; line 0 is a text that is too long
abbrev pub of_script : ScriptFault → Status
of_script (script.BadLine line kind) = status.Script line kind
of_script script.TooBig = status.Script 0 Limit
of_script script.Memory = status.Memory

-- a fault of the script's source, or a text that is too long
abbrev pub of_reading : ReadFault → Status
of_reading reading.Source = status.ScriptRead
of_reading reading.TooBig = status.Script 0 Limit
of_reading reading.Memory = status.Memory

-- a failed read is the device's fault, with nothing logged
abbrev pub of_loading : LoadFault → Status
of_loading loading.ReadFault = status.Device 0
of_loading loading.Memory = status.Memory
of_loading fault = status.Image fault

-- a store that stopped comes before a sink that failed
abbrev pub of_run : Option ℕ → Result (Unit {0}) PrintFault → Status
of_run stopped (Err printing.Memory) = status.Memory
of_run (Some at) printed = status.Device at
of_run None (Err printing.Sink) = status.OutWrite
of_run None (Ok done) = status.Good

-- a text that couldn't be printed whole
abbrev pub of_printing : PrintFault → Status
of_printing printing.Sink = status.OutWrite
of_printing printing.Memory = status.Memory

-- the status of words that are no command
abbrev pub is_usage : Status → Bool
is_usage status.Usage = true
is_usage _ = false

-- a run that was printed whole, or want of memory
abbrev pub IsRunDone : Status → Type 0
IsRunDone status.Good = Unit {0}
IsRunDone status.Memory = Unit {0}
IsRunDone _ = ⊥

-- those that are answered to a command that reads no script
abbrev pub comes_without_script : Status → Bool
comes_without_script status.Good = true
comes_without_script status.OutWrite = true
comes_without_script (status.Image fault) = true
comes_without_script (status.Device at) = true
comes_without_script status.Memory = true
comes_without_script _ = false

-- those that are answered to `generate`
abbrev pub comes_of_generate : Status → Bool
comes_of_generate status.Good = true
comes_of_generate status.OutWrite = true
comes_of_generate status.Memory = true
comes_of_generate _ = false
