use Rattle.unclean_load.proofs.MaskRead.{MaskRead}
use Rattle.unclean_load.proofs.mask_pages.read_mask.Given as goal

-- so many pages of the mask were read
abbrev pub invariant-loop-index : goal.invariant-loop-index
invariant-loop-index g l =
    MaskRead g.D.PageDisk l.fn.disk l.disk l.start l.kind l.len l.index
    (record { kind = l.reader.kind; fed = l.reader.fed; bits = l.reader.bits })
