-- Maps whose slots are all empty.
use Rattle.std.proofs.Common.{◌≡◌, ℕ, zero, suc, [], Option, None, refl}
use Rattle.std.specs.Prelude.{replicate, slice_get}
use Rattle.std.specs.Option.{option_and_then}
use Rattle.blob_meta.specs.Faults.{clusters_held}

pub none_in : (n : ℕ) → clusters_held (replicate n None) ≡ []
none_in zero = refl
none_in (suc n) = none_in n

pub empty_slot : (n i : ℕ) → option_and_then (λ (s : Option ℕ). s) (slice_get (replicate n None) i) ≡ None
empty_slot zero i = refl
empty_slot (suc n) zero = refl
empty_slot (suc n) (suc i) = empty_slot n i
