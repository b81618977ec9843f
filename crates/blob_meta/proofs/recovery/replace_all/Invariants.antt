use Rattle.std.proofs.Common.{◌≡◌, ℕ, take}
use Rattle.std.specs.FinMap as map
use Rattle.blob_meta.specs.Repairs.{after}
use Rattle.blob_meta.proofs.recovery.replace_all.Given as goal

abbrev pub invariant-loop-replacement : goal.invariant-loop-replacement
invariant-loop-replacement l = (h : ℕ)
    → map.get l.metas h ≡ after (map.get l.fn.metas) (take l.replacement-index l.list) h
