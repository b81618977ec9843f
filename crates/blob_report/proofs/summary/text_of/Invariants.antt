use Rattle.std.proofs.Common.{◌≡◌, take}
use Rattle.blob_report.specs.Text.{log_text}
use Rattle.blob_report.proofs.summary.text_of.Given as goal

abbrev pub invariant-loop-entry : goal.invariant-loop-entry
invariant-loop-entry l = l.text.items ≡ log_text (take l.entry-index l.entries)
