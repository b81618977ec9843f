use Rattle.std.proofs.Common.{length, ◌+◌, ◌-◌, ◌^◌}
use Rattle.streams.proofs.Taken.{IsTaking}
use Rattle.streams.proofs.reading.read_text.Given as goal

abbrev pub invariant-loop-buffer : goal.invariant-loop-buffer
invariant-loop-buffer g l =
    IsTaking g.S.Source.tells (g.S.Source.left l.fn.source) l.text.items (g.S.Source.left l.source)
    (g.S.Source.faults l.fn.source) (g.S.Source.faults l.source)

abbrev pub decreases-loop-buffer : goal.decreases-loop-buffer
decreases-loop-buffer g l = 2 ^ 20 + 1 - length l.text.items
