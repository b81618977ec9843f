use Rattle.std.proofs.Common.{ℕ, ◌-◌, ◌≤◌, IsSome}
use Rattle.std.specs.FinMap as map
use Rattle.unclean_load.proofs.Marks.{HeadsBelow}
use Rattle.unclean_load.proofs.masks.used_heads.Given as goal

-- the heads so far
abbrev pub invariant-loop-head : goal.invariant-loop-head
invariant-loop-head l =
    (l.from ≤ l.md_len) × HeadsBelow (λ (head : ℕ). IsSome (map.get l.metas head)) l.md_len l.bits l.from

abbrev pub decreases-loop-head : goal.decreases-loop-head
decreases-loop-head l = l.md_len - l.from
