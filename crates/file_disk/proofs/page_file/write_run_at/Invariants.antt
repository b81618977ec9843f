use Rattle.std.proofs.Common.{◌≤◌, ◌-◌, length}
use Rattle.file_disk.proofs.page_file.write_run_at.Given as goal

abbrev pub invariant-loop-taken : goal.invariant-loop-taken
invariant-loop-taken l = l.taken ≤ length l.from

abbrev pub decreases-loop-taken : goal.decreases-loop-taken
decreases-loop-taken l = length l.from - l.taken
