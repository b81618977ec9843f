use Rattle.std.proofs.Common.{◌≡◌, ◌≤◌, take}
use Rattle.blob_report.specs.Summary.{done_in}
use Rattle.blob_report.proofs.summary.done_in.Given as goal

abbrev pub invariant-loop-entry : goal.invariant-loop-entry
invariant-loop-entry l = (l.done ≡ done_in (take l.entry-index l.entries)) × (l.done ≤ l.entry-index)
