use Rattle.std.proofs.Common.{◌≡◌}
use Rattle.script_lang.proofs.generator.generate_line.Given as goal

abbrev pub invariant-loop : goal.invariant-loop
invariant-loop l = (l.generator.number ≡ l.number) × (l.generator.line ≡ l.counter)
