-- A function's answer is the one of the definition, unless memory runs out.
use Rattle.std.specs.Prelude.{◌≡◌, List, Option, Some, None, Result, Ok, Err}
use Rattle.volume_model.specs.declared.lists.SlotRun.{SlotRun}
use Rattle.out_of_memory.specs.declared.Memory.{Memory}
use Rattle.descriptors.specs.declared.rows.RowFault.{RowFault}
use Rattle.descriptors.specs.declared.rows.RowFault.TheVariants as faults

-- `Bad` comes only where the definition gives nothing
abbrev pub FailsToGive : {X : Type 0} → RowFault → Option X → Type 0
FailsToGive faults.Bad read = read ≡ None
FailsToGive faults.Memory read = Unit {0}

-- a value is the one of the definition
abbrev pub Gives : {X : Type 0} → Result X RowFault → Option X → Type 0
Gives (Ok x) read = read ≡ Some x
Gives (Err e) read = FailsToGive e read

-- runs are those of the definition
abbrev pub RunsGive : Result (List SlotRun) Memory → List SlotRun → Type 0
RunsGive (Ok x) read = read ≡ x
RunsGive (Err e) read = Unit {0}
