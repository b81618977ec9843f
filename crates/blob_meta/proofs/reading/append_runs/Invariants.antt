use Rattle.std.proofs.Common.{◌≡◌, ◌++◌, take}
use Rattle.blob_meta.proofs.reading.append_runs.Given as goal

abbrev pub invariant-loop-run : goal.invariant-loop-run
invariant-loop-run l = l.all ≡ l.fn.all ++ take l.run-index l.run-items
