-- Sets of places of which some are set or cleared.
use Rattle.std.proofs.Common.{◌≡◌, ◌≢◌, ◌⊎◌, ℕ, ◌<◌, Bool, true, false, eqb, List, [], ◌∷◌, length, refl, sym, ◌∙◌, ap}
use Rattle.std.proofs.Common.{subst, inl, inr}
use Rattle.std.specs.Prelude.{slice_set, ◌||◌}
use Rattle.std.proofs.lemmas.Bool.{cases_Bool, both_ways, eq-eqb, eqb-true}
use Rattle.std.proofs.lemmas.List.{get_or-set_same, get_or-set_other, length-set}
use Rattle.bit_array.specs.Bits.{is_in}
use Rattle.md_chain.specs.Chain.{is_among}
use Rattle.store_model.specs.Places.{all_set, AreLeastClear, AreDistinct}

pub among_later : (x p : ℕ) (ps : List ℕ) → is_among x ps ≡ true → is_among x (p ∷ ps) ≡ true
among_later x p ps is = elim (cases_Bool (eqb p x)) [ inl e ↦ rw e refl | inr ne ↦ rw ne is ]

pub among_first : (x : ℕ) (ps : List ℕ) → is_among x (x ∷ ps) ≡ true
among_first x ps = rw (eq-eqb x x refl) refl

-- the first place, or a later one
pub among_either : (x p : ℕ) (ps : List ℕ) → is_among x (p ∷ ps) ≡ true → (x ≡ p) ⊎ (is_among x ps ≡ true)
among_either x p ps is = elim (cases_Bool (eqb p x)) [
  | inl e ↦ inl (sym (eqb-true p x e))
  | inr ne ↦ inr (subst (λ (b : Bool). (b || is_among x ps) ≡ true) ne is)
]

pub not_first : (x p : ℕ) (ps : List ℕ) → is_among x (p ∷ ps) ≡ false → (x ≢ p) × (is_among x ps ≡ false)
not_first x p ps is = elim (cases_Bool (is_among x ps)) [
  | inl later ↦ absurd (both_ways (is_among x (p ∷ ps)) is (among_later x p ps later))
  | inr no_later ↦ (
    λ e. both_ways (is_among x (p ∷ ps)) is (subst (λ y. is_among y (p ∷ ps) ≡ true) (sym e) (among_first p ps)),
    no_later,
  )
]

pub length_all_set : (bits : List Bool) (ps : List ℕ) (to : Bool) → length (all_set bits ps to) ≡ length bits
length_all_set bits [] to = refl
length_all_set bits (p ∷ ps) to = length_all_set (slice_set bits p to) ps to ∙ length-set bits p to

pub all_set_out : (bits : List Bool) (ps : List ℕ) (to : Bool) (x : ℕ) → is_among x ps ≡ false
    → is_in (all_set bits ps to) x ≡ is_in bits x
all_set_out bits [] to x out = refl
all_set_out bits (p ∷ ps) to x out =
    let apart = not_first x p ps out in
    all_set_out (slice_set bits p to) ps to x apart.1 ∙ get_or-set_other bits p x to false apart.0

abbrev pub AllBelow : ℕ → List ℕ → Type 0
AllBelow n ps = (x : ℕ) → is_among x ps ≡ true → x < n

pub all_set_in : (bits : List Bool) (ps : List ℕ) (to : Bool) (x : ℕ) → AllBelow (length bits) ps → is_among x ps ≡ true
    → is_in (all_set bits ps to) x ≡ to
all_set_in bits [] to x low is = absurd (cc is)
all_set_in bits (p ∷ ps) to x low is = elim (cases_Bool (is_among x ps)) [
  | inl later ↦ all_set_in (slice_set bits p to) ps to x
      (λ y among. subst (λ n. y < n) (sym (length-set bits p to)) (low y (among_later y p ps among))) later
  | inr not_later ↦ elim (among_either x p ps is) [
    | inl e ↦
        all_set_out (slice_set bits p to) ps to x not_later ∙ ap (is_in (slice_set bits p to)) e
        ∙ get_or-set_same bits p to false (low p (among_first p ps))
    | inr later ↦ absurd (both_ways (is_among x ps) not_later later)
  ]
]

-- ---- places that were the least clear ones

pub record WasClear (bits : List Bool) (x : ℕ) : Type 0 where
  pub below : x < length bits
  pub clear : is_in bits x ≡ false

clear_before : (bits : List Bool) (p x : ℕ) → p < length bits → is_in (slice_set bits p true) x ≡ false
    → (x ≢ p) × (is_in bits x ≡ false)
clear_before bits p x below clear =
    let apart : x ≢ p = λ e. both_ways (is_in (slice_set bits p true) x) clear
    (ap (is_in (slice_set bits p true)) e ∙ get_or-set_same bits p true false below) in
    (apart, sym (get_or-set_other bits p x true false apart) ∙ clear)

pub were_clear : (bits : List Bool) (ps : List ℕ) → AreLeastClear bits ps → (x : ℕ) → is_among x ps ≡ true
    → WasClear bits x
were_clear bits [] least x is = absurd (cc is)
were_clear bits (p ∷ ps) least x is = elim (among_either x p ps is) [
  | inl e ↦ subst (WasClear bits) (sym e) (record { below = least.0.within; clear = least.0.clear })
  | inr later ↦
      let rest = were_clear (slice_set bits p true) ps least.1 x later in
      record {
        below = subst (λ n. x < n) (length-set bits p true) rest.below;
        clear = (clear_before bits p x least.0.within rest.clear).1;
      }
]

pub are_distinct : (bits : List Bool) (ps : List ℕ) → AreLeastClear bits ps → AreDistinct ps
are_distinct bits [] least = tt
are_distinct bits (p ∷ ps) least =
    let first : is_among p ps ≡ false = elim (cases_Bool (is_among p ps)) [
      | inl among ↦ absurd
          ((clear_before bits p p least.0.within (were_clear (slice_set bits p true) ps least.1 p among).clear).0 refl)
      | inr apart ↦ apart
    ] in
    (first, are_distinct (slice_set bits p true) ps least.1)
