use Rattle.std.proofs.Common.{arith}
use Rattle.std.specs.FinMap as map
use Rattle.blob_meta.proofs.MapEdits.{none_out, out_more}
use Rattle.blob_meta.proofs.recovery.take_out.Goals as goal

pub loop-head-init : goal.loop-head-init
loop-head-init c = none_out c.args.metas.now c.new-taken.result c.new-taken.ensures

pub loop-head-preserved : goal.loop-head-preserved
loop-head-preserved c = λ h.
    out_more c.args.heads.now c.loop-head.head-index h (omega arith)
    (map.get c.args.metas.now h) (map.get c.loop-head.metas h) (map.get c.loop-head.taken h)
    (map.get c.move_out.new.metas h) (map.get c.move_out.new.taken h)
    (c.loop-head.invariant h) (c.in_ok-move_out.ensures.left h) (c.in_ok-move_out.ensures.taken h)
