use Rattle.std.proofs.Common.{◌∙◌, arith}
use Rattle.std.specs.FinMap as map
use Rattle.blob_meta.proofs.RepairsInTurn.{after_more}
use Rattle.blob_meta.proofs.recovery.replace_all.Goals as goal

pub loop-replacement-preserved : goal.loop-replacement-preserved
loop-replacement-preserved c = λ h.
    c.in_ok-replace.ensures h
    ∙ after_more (map.get c.args.metas.now) c.args.list.now c.loop-replacement.replacement-index
    c.replacement-item.result
    h (omega arith) c.replacement-item.is (map.get c.loop-replacement.metas h) (c.loop-replacement.invariant h)
