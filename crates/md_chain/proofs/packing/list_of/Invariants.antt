use Rattle.std.proofs.Common.{◌≡◌, take}
use Rattle.md_chain.proofs.packing.list_of.Given as goal

abbrev pub invariant-loop-run : goal.invariant-loop-run
invariant-loop-run l = l.list ≡ take l.run-index l.runs
