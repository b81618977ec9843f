use Rattle.std.proofs.Common.{◌≤◌, ◌+◌, drop, length}
use Rattle.running_store.specs.Reserved.{reads_in}
use Rattle.running_store.proofs.reserved.pages_for.Given as goal

-- there is a page for each read so far
abbrev pub invariant-loop-command : goal.invariant-loop-command
invariant-loop-command l = reads_in l.commands ≤ length l.pages.items + reads_in (drop l.command-index l.commands)
