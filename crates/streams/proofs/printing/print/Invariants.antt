use Rattle.std.proofs.Common.{◌≡◌, ◌≤◌, ◌++◌, IsTrue, take}
use Rattle.blob_report.specs.Text.{log_text}
use Rattle.streams.proofs.printing.print.Given as goal

abbrev pub invariant-loop-entry : goal.invariant-loop-entry
invariant-loop-entry g l =
    (IsTrue g.K.Sink.tells
    → g.K.Sink.written l.sink ≡ g.K.Sink.written l.fn.sink ++ log_text (take l.entry-index l.entries))
    × (g.K.Sink.faults l.fn.sink ≤ g.K.Sink.faults l.sink)
