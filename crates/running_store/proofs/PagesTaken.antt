-- How far places are taken, one after another.
use Rattle.std.proofs.Common.{◌≡◌, ℕ, suc, ◌+◌, ◌<◌, ◌≤◌, Bool, true, not, List, [], ◌∷◌, ◌++◌, length, cond, refl, sym}
use Rattle.std.proofs.Common.{◌∙◌, ap, subst, arith}
use Rattle.std.proofs.lemmas.List.{append-nil}
use Rattle.std.proofs.lemmas.List.Sums.{sum_by-cons}
use Rattle.bit_array.specs.Bits.{IsFull}
use Rattle.pools.specs.Pool.{PoolState, clear_in}
use Rattle.store_model.specs.Places.{all_set, AreLeastClear}

-- ---- how many places are clear

abbrev one_if_clear : Bool → ℕ
one_if_clear bit = cond (not bit) 1 0

pub none_clear : (bits : List Bool) → IsFull bits → clear_in bits ≡ 0
none_clear [] full = refl
none_clear (b ∷ bs) full =
    let more : clear_in (b ∷ bs) ≡ one_if_clear b + clear_in bs = sum_by-cons one_if_clear b bs in
    let here : one_if_clear b ≡ 0 = ap one_if_clear (full 0 (omega arith)) in
    let rest = none_clear bs (λ k lt. full (suc k) (omega (arith, lt))) in
    omega (arith, more, here, rest)

-- ---- so many are taken

pub record Takes (old : List Bool) (count i : ℕ) (p : PoolState) (places : List ℕ) : Type 0 where
  pub unclaimed : p.claims ≡ []
  pub least : (rest : List ℕ) → AreLeastClear p.bits rest → AreLeastClear old (places ++ rest)
  pub bits : (rest : List ℕ) → all_set old (places ++ rest) true ≡ all_set p.bits rest true
  pub long : length places ≡ i
  pub left : count ≤ clear_in p.bits + i

module _ (old : List Bool) (count i : ℕ) (p : PoolState) (places : List ℕ) (t : Takes old count i p places) where
  -- one more is clear where fewer are taken than were clear
  pub not_full : i < count → IsFull p.bits → ⊥
  not_full low full = let none = none_clear p.bits full in let left = t.left in omega (arith, none, left, low)

  pub all_taken : AreLeastClear old places
  all_taken = subst (AreLeastClear old) (append-nil places) (t.least [] tt)

  pub bits_taken : p.bits ≡ all_set old places true
  bits_taken = sym (t.bits []) ∙ ap (λ l. all_set old l true) (append-nil places)
