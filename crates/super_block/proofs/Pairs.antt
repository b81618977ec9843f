-- The pairs of regions, by the first one.
use Rattle.std.proofs.Common.{◌≡◌, ◌≤◌, List, [], ◌∷◌, length, drop, slice_index_or, refl, arith}
use Rattle.super_block.specs.declared.span.Span.{Span}
use Rattle.super_block.specs.Faults.{first_fault, overlap, overlap_with}

-- the pairs of the first region, then those of the others
pub overlap_split : (spans : List Span) (d : Span) → 1 ≤ length spans
    → overlap spans ≡ first_fault (overlap_with (slice_index_or spans 0 d) (drop 1 spans) ∷ overlap (drop 1 spans) ∷ [])
overlap_split [] d le = absurd (omega arith)
overlap_split (a ∷ rest) d le = refl
