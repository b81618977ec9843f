-- How far places are cleared, one after another.
use Rattle.std.proofs.Common.{◌≡◌, ◌≢◌, ℕ, zero, suc, ◌+◌, ◌<◌, Bool, true, false, List, [], ◌∷◌, length, get_or, drop}
use Rattle.std.proofs.Common.{All, sym, ◌∙◌, ap, subst, arith, drop-cons, add-one}
use Rattle.std.specs.Prelude.{slice_set}
use Rattle.std.proofs.lemmas.List.{get_or-set_other}
use Rattle.bit_array.specs.Bits.{is_in}
use Rattle.md_chain.specs.Chain.{is_among}
use Rattle.pools.specs.Pool.{PoolState, freed}
use Rattle.store_model.specs.Places.{all_set, AreDistinct}
use Rattle.store_model.proofs.Sets.{among_first, among_later}

pub record Clears (old : List Bool) (places : List ℕ) (i : ℕ) (p : PoolState) : Type 0 where
  pub unclaimed : p.claims ≡ []
  pub so_far : all_set p.bits (drop i places) false ≡ all_set old places false
  pub distinct : AreDistinct (drop i places)
  pub in_use : All (λ q. is_in p.bits q ≡ true) (drop i places)

pub among_get : (ps : List ℕ) (k d : ℕ) → k < length ps → is_among (get_or ps k d) ps ≡ true
among_get [] k d lt = absurd (omega (arith, lt))
among_get (p ∷ ps) zero d lt = among_first p ps
among_get (p ∷ ps) (suc k) d lt = among_later (get_or ps k d) p ps (among_get ps k d (omega (arith, lt)))

later_in_use : (bits : List Bool) (x : ℕ) (rest : List ℕ) → is_among x rest ≡ false
    → All (λ q. is_in bits q ≡ true) (x ∷ rest) → All (λ q. is_in (slice_set bits x false) q ≡ true) rest
later_in_use bits x rest apart in_use k d lt =
    let ne : get_or rest k d ≢ x = λ e.
    let bad = sym (ap (λ y. is_among y rest) e) ∙ among_get rest k d lt in
    absurd (let worse = sym apart ∙ bad in cc worse) in
    get_or-set_other bits x (get_or rest k d) false false ne ∙ in_use (suc k) d (omega (arith, lt))

module _ (old : List Bool) (places : List ℕ) (i : ℕ) (p : PoolState) (c : Clears old places i p)
    (low : i < length places) where
  abbrev x : ℕ
  x = get_or places i 0

  rest : drop i places ≡ x ∷ drop (i + 1) places
  rest = drop-cons places i 0 low ∙ ap (λ k. x ∷ drop k places) (sym (add-one i))

  pub next_in_use : is_in p.bits x ≡ true
  next_in_use = let all = subst (All (λ q. is_in p.bits q ≡ true)) rest c.in_use in all 0 0 (omega arith)

  pub clears_more : Clears old places (i + 1) (freed p x)
  clears_more =
      let apart = subst AreDistinct rest c.distinct in
      record {
        unclaimed = c.unclaimed;
        so_far = sym (ap (λ l. all_set p.bits l false) rest) ∙ c.so_far;
        distinct = apart.1;
        in_use = later_in_use p.bits x (drop (i + 1) places) apart.0
            (subst (All (λ q. is_in p.bits q ≡ true)) rest c.in_use);
      }
