use Rattle.std.proofs.Common.{◌≡◌, ◌≤◌, ◌++◌, IsTrue}
use Rattle.script_lang.specs.Generated.{generated_lines}
use Rattle.blob_tool.proofs.generating.print_script.Given as goal

abbrev pub invariant-loop : goal.invariant-loop
invariant-loop g l =
    (IsTrue g.K.Sink.tells
    → g.K.Sink.written l.out ≡ g.K.Sink.written l.fn.out ++ generated_lines l.fn.script.number l.counter)
    × (g.K.Sink.faults l.fn.out ≤ g.K.Sink.faults l.out) × (l.generator.number ≡ l.fn.script.number)
    × (l.generator.line ≡ l.counter)
