use Rattle.std.proofs.Common.{arith}
use Rattle.descriptors.proofs.LongestRuns.{room_for}
use Rattle.descriptors.proofs.runs.map_of.Goals as goal

pub push_run-requires-clause-room : goal.push_run-requires-clause-room
push_run-requires-clause-room c = room_for c.args.runs.now c.loop-run.run-index _ c.loop-run.map (omega arith)
    c.loop-run.invariant c.requires.few
