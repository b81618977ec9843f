use Rattle.std.proofs.Common.{◌≡◌, ◌++◌, ◌∷◌, ◌-◌, ◌/◌, length, map}
use Rattle.md_chain.specs.Packing.{pieces, on_page}
use Rattle.md_chain.specs.Laid.{laid}
use Rattle.md_chain.proofs.RunPieces.{pages_of}
use Rattle.md_chain.proofs.packing.Packing.put_runs.Given as goal

abbrev pub invariant-loop-rest : goal.invariant-loop-rest
invariant-loop-rest l = l.self.full ++ l.self.current
    ∷ pages_of l.rest ≡ laid l.fn.self.full l.fn.self.current
    (map on_page (pieces ((l.fn.self.room - 5) / 8) l.fn.runs))

abbrev pub decreases-loop-rest : goal.decreases-loop-rest
decreases-loop-rest l = length l.rest
