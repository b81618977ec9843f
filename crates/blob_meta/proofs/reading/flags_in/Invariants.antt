use Rattle.std.proofs.Common.{◌≡◌, drop}
use Rattle.blob_meta.specs.Says.{last_flags}
use Rattle.blob_meta.proofs.reading.flags_in.Given as goal

abbrev pub invariant-loop-item : goal.invariant-loop-item
invariant-loop-item l = last_flags l.flags (drop l.item-index l.items)
    ≡ last_flags (record { invalid = 0; data_ro = 0; md_ro = 0 }) l.items
