use Rattle.std.proofs.Common.{arith}
use Rattle.std.specs.FinMap.{gets}
use Rattle.format_tests.proofs.guards.a_removed_head_comes_back_with_a_new_generation.Goals as goal

pub add-requires-clause-room : goal.add-requires-clause-room
add-requires-clause-room c = grind (arith, gets)

pub add-requires-clause-absent : goal.add-requires-clause-absent
add-requires-clause-absent c = grind (arith, gets)

pub add-requires-2-clause-room : goal.add-requires-2-clause-room
add-requires-2-clause-room c = grind (arith, gets)

pub add-requires-2-clause-absent : goal.add-requires-2-clause-absent
add-requires-2-clause-absent c = grind (arith, gets)

pub add-requires-3-clause-room : goal.add-requires-3-clause-room
add-requires-3-clause-room c = grind (arith, gets)
