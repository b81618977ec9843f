-- What is answered of a line, or for want of memory.
use Rattle.std.specs.Prelude.{◌≡◌, Result, Ok, Err}
use Rattle.script_lang.specs.declared.fault.LineKind.{LineKind}
use Rattle.script_lang.specs.declared.fault.LineFault.{LineFault}
use Rattle.script_lang.specs.declared.fault.LineFault.TheVariants.{Bad, Memory}

-- the answer is what was said, or memory ran out
abbrev pub AnswersAsSaid : {X : Type 0} → Result X LineKind → Result X LineFault → Type 0
AnswersAsSaid said (Ok x) = said ≡ Ok x
AnswersAsSaid said (Err (Bad kind)) = said ≡ Err kind
AnswersAsSaid said (Err Memory) = Unit {0}
