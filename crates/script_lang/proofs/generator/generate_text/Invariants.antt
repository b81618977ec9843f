use Rattle.std.proofs.Common.{◌≡◌}
use Rattle.script_lang.specs.Generated.{generated_lines}
use Rattle.script_lang.proofs.generator.generate_text.Given as goal

abbrev pub invariant-loop : goal.invariant-loop
invariant-loop l =
    (l.text.items ≡ generated_lines l.number l.counter) × (l.generator.number ≡ l.number)
    × (l.generator.line ≡ l.counter)
