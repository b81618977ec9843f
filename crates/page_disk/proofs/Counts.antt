-- A count that has risen by one, or stands at its last number.
use Rattle.std.proofs.Common.{◌≤◌, ℕ, inl, inr, arith}
use Rattle.page_disk.specs.Disk.{Rose, RoseByOne}

-- it is no lower than before
pub not_below : (before after : ℕ) → RoseByOne before after → before ≤ after
not_below before after (inl one) = omega arith
not_below before after (inr last) = omega (arith, last.0, last.1)

-- it has risen
pub risen : (before after : ℕ) → RoseByOne before after → Rose before after
risen before after (inl one) = inl (omega arith)
risen before after (inr last) = inr last.1
