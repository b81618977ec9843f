use Rattle.std.proofs.Common.{◌≡◌, ◌+◌, length, drop}
use Rattle.md_chain.specs.Packing.{parts_from}
use Rattle.md_chain.proofs.size.chain_len.Given as goal

abbrev pub invariant-loop-item : goal.invariant-loop-item
invariant-loop-item l = l.count.pages + length (parts_from l.count.room (drop l.item-index l.items)) ≡ 1
    + length (parts_from 4072 l.items)
