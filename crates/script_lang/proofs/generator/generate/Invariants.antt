use Rattle.std.proofs.Common.{◌≡◌}
use Rattle.volume_model.specs.Scripts.{commands_in}
use Rattle.script_lang.specs.Generated.{generated_requests}
use Rattle.script_lang.specs.Script.{script_of}
use Rattle.script_lang.proofs.generator.generate.Given as goal

abbrev pub invariant-loop : goal.invariant-loop
invariant-loop l = (l.script ≡ script_of (generated_requests l.number l.counter)) × (commands_in l.script ≡ l.counter)
    × (l.generator.number ≡ l.number) × (l.generator.line ≡ l.counter)
