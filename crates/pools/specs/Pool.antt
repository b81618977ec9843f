-- A pool of places as contracts see it, and what each of its calls makes of it.
use Rattle.std.specs.Prelude.{◌≡◌, ◌≢◌, ℕ, ◌==◌, Bool, true, false, not, List, ◌∷◌, All, AllPairs, filter, count_by}
use Rattle.std.specs.Prelude.{slice_set}
use Rattle.bit_array.specs.Bits.{is_in}

-- the set of the places in use, and the list of the open claims, the newest first
pub record PoolState : Type 0 where
  pub bits : List Bool
  pub claims : List ℕ

-- how many places are clear
abbrev pub clear_in : List Bool → ℕ
clear_in bits = count_by not bits

-- the claims but for one
abbrev pub claims_without : List ℕ → ℕ → List ℕ
claims_without claims at = filter (λ c. not (c == at)) claims

-- a clear place is claimed
abbrev pub claimed : PoolState → ℕ → PoolState
claimed p at = record { bits = slice_set p.bits at true; claims = at ∷ p.claims }

-- an open claim is given back: its place is clear again
abbrev pub claim_given_back : PoolState → ℕ → PoolState
claim_given_back p at = record { bits = slice_set p.bits at false; claims = claims_without p.claims at }

-- an open claim ends, and its place stays in use
abbrev pub kept : PoolState → ℕ → PoolState
kept p at = record { bits = p.bits; claims = claims_without p.claims at }

-- a place in use that isn't claimed is clear again
abbrev pub freed : PoolState → ℕ → PoolState
freed p at = record { bits = slice_set p.bits at false; claims = p.claims }

-- what holds of every pool: no two open claims are equal, and the place of each is in use
pub record IsBacked (p : PoolState) : Type 0 where
  pub differ : AllPairs (λ a b. a ≢ b) p.claims
  pub in_use : All (λ at. is_in p.bits at ≡ true) p.claims
