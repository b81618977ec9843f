use Rattle.std.specs.Option.{option_copied}
use Rattle.script_lang.specs.Parts.{parts}
use Rattle.script_lang.proofs.ReadValues.{IsReading}
use Rattle.script_lang.proofs.values.read_values.Given as goal

abbrev pub invariant-loop-form : goal.invariant-loop-form
invariant-loop-form l =
    IsReading l.forms (parts l.fn.words.separator (option_copied l.fn.words.rest)) l.form-index
    (parts l.words.separator (option_copied l.words.rest)) l.values l.fault
