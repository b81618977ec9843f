use Rattle.std.proofs.Common.{◌≡◌, ℕ, None, take}
use Rattle.std.specs.Prelude.{if◌then◌else◌}
use Rattle.std.specs.FinMap as map
use Rattle.blob_meta.proofs.HeadsListed.{among}
use Rattle.blob_meta.proofs.recovery.take_out.Given as goal

abbrev pub invariant-loop-head : goal.invariant-loop-head
invariant-loop-head l = (h : ℕ)
    → (map.get l.metas h ≡ (if among h (take l.head-index l.heads) then None else map.get l.fn.metas h))
    × (map.get l.taken h ≡ (if among h (take l.head-index l.heads) then map.get l.fn.metas h else None))
