use Rattle.std.proofs.Common.{◌≡◌, drop}
use Rattle.md_chain.specs.Packing.{parts_from}
use Rattle.md_chain.specs.Laid.{laid}
use Rattle.md_chain.proofs.packing.parts_of.Given as goal

abbrev pub invariant-loop-item : goal.invariant-loop-item
invariant-loop-item l = laid l.packing.full l.packing.current (parts_from l.packing.room (drop l.item-index l.items))
    ≡ parts_from 4072 l.items
