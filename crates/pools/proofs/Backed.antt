-- What the ends of claims leave of a pool whose open claims differ and are in use.
use Rattle.std.proofs.Common.{◌≡◌, ◌≢◌, ℕ, ◌-◌, ◌<◌, Bool, true, false, cond, eqb, not, List, [], ◌∷◌, length, refl}
use Rattle.std.proofs.Common.{sym, ap, ◌∙◌, arith, inl, inr}
use Rattle.std.specs.Prelude.{All, Contains, slice_set}
use Rattle.std.proofs.lemmas.Bool.{cases_eq, both_ways, eq-eqb, ne_eqb}
use Rattle.std.proofs.lemmas.List.{ext_get_or, get_or-set_same, get_or-set_other, length-set, get_or_default}
use Rattle.std.proofs.lemmas.List.Elements.{All-filter, All-head, All-tail, All-weaker, filter_passes}
use Rattle.std.proofs.lemmas.List.Kept.{AllPairs-filter}
use Rattle.std.proofs.lemmas.List.Filters.{length-filter_both}
use Rattle.std.proofs.lemmas.List.Sums.{length-filter}
use Rattle.bit_array.specs.Bits.{is_in, member_count, IsLeastClear}
use Rattle.pools.specs.Pool.{PoolState, IsBacked, claimed, clear_in, freed, claim_given_back, kept, claims_without}

passes_apart : (c at : ℕ) → not (eqb c at) ≡ true → c ≢ at
passes_apart c at passed same = both_ways (not (eqb c at)) (ap not (eq-eqb c at same)) passed

-- the claims that are left aren't the one that ended
without-apart : (claims : List ℕ) (at : ℕ) → All (λ c. c ≢ at) (claims_without claims at)
without-apart claims at =
    All-weaker (λ c. not (eqb c at) ≡ true) (λ c. c ≢ at) (λ c. passes_apart c at) (claims_without claims at)
    (filter_passes (λ c. not (eqb c at)) claims)

-- claims of which none is the one that ended stay
without-none : (claims : List ℕ) (at : ℕ) → All (λ c. c ≢ at) claims → claims_without claims at ≡ claims
without-none [] at none = refl
without-none (c ∷ claims) at none =
    let other : eqb c at ≡ false = ne_eqb c at (All-head (λ c. c ≢ at) c claims none) in
    ap (λ (b : Bool). cond (not b) (c ∷ claims_without claims at) (claims_without claims at)) other
    ∙ ap (λ (rest : List ℕ). c ∷ rest) (without-none claims at (All-tail (λ c. c ≢ at) c claims none))

-- after a claim was kept
pub kept-IsBacked : (p : PoolState) (at : ℕ) → IsBacked p → IsBacked (kept p at)
kept-IsBacked p at was = record {
  differ = AllPairs-filter (λ a b. a ≢ b) (λ c. not (eqb c at)) p.claims was.differ;
  in_use = All-filter (λ c. not (eqb c at)) (λ c. is_in p.bits c ≡ true) p.claims was.in_use;
}

-- after a claim was given back
pub given_back-IsBacked : (p : PoolState) (at : ℕ) → IsBacked p → IsBacked (claim_given_back p at)
given_back-IsBacked p at was =
    let left = kept-IsBacked p at was in
    record {
      differ = left.differ;
      in_use = λ k d h. get_or-set_other p.bits at _ false false (without-apart p.claims at k d h) ∙ left.in_use k d h;
    }

-- after a place was freed that was not claimed
pub freed-IsBacked : (p : PoolState) (at : ℕ) → (Contains p.claims at → ⊥) → IsBacked p → IsBacked (freed p at)
freed-IsBacked p at unclaimed was = record {
  differ = was.differ;
  in_use = λ k d h.
      get_or-set_other p.bits at _ false false (λ same. unclaimed (k, h, get_or_default p.claims k at d h ∙ same))
      ∙ was.in_use k d h;
}

set_back : (bits : List Bool) (at : ℕ) → at < length bits → is_in bits at ≡ false
    → slice_set (slice_set bits at true) at false ≡ bits
set_back bits at within clear =
    let twice = slice_set (slice_set bits at true) at false in
    let long : length twice ≡ length bits = length-set (slice_set bits at true) at false ∙ length-set bits at true in
    ext_get_or false twice bits long (λ k h.
    elim (cases_eq k at) [
      | inl same ↦
          rw same (get_or-set_same (slice_set bits at true) at false false (rw (length-set bits at true) within)
          ∙ sym clear)
      | inr apart ↦
          get_or-set_other (slice_set bits at true) at k false false apart ∙ get_or-set_other bits at k true false apart
    ])

-- a claim that is given back at once leaves the pool as it was
pub given_back-claimed : (p : PoolState) (at : ℕ) → IsBacked p → IsLeastClear p.bits at
    → claim_given_back (claimed p at) at ≡ p
given_back-claimed p at was least =
    let bits : slice_set (slice_set p.bits at true) at false ≡ p.bits = set_back p.bits at least.within least.clear in
    let none : All (λ c. c ≢ at) p.claims = λ k d h same.
    both_ways (is_in p.bits at) least.clear (ap (is_in p.bits) (sym same) ∙ was.in_use k d h) in
    let claims : claims_without (at ∷ p.claims) at ≡ p.claims =
    ap (λ (b : Bool). cond (not b) (at ∷ claims_without p.claims at) (claims_without p.claims at)) (eq-eqb at at refl)
    ∙ without-none p.claims at none in
    λ i. record { bits = bits i; claims = claims i }

-- the clear places are those that are not in use
pub clear_in-rest : (bits : List Bool) → length bits - member_count bits ≡ clear_in bits
clear_in-rest bits =
    omega (arith, length-filter_both (λ b. b) not (λ b. refl) bits, length-filter (λ b. b) bits, length-filter not bits)
