use Rattle.std.specs.Option.{option_copied}
use Rattle.script_lang.specs.Parts.{parts, size_left}
use Rattle.script_lang.specs.Script.{lines}
use Rattle.script_lang.proofs.ByLines.{IsReading}
use Rattle.script_lang.proofs.parsing.parse.Given as goal

abbrev pub invariant-loop-line : goal.invariant-loop-line
invariant-loop-line l = IsReading (lines l.text) (parts l.lines.separator (option_copied l.lines.rest))
    l.script l.number l.pages

abbrev pub decreases-loop-line : goal.decreases-loop-line
decreases-loop-line l = size_left (option_copied l.lines.rest)
