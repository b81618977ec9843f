-- The clusters of a map that a set doesn't have, as they are found slot by slot.
use Rattle.std.proofs.Common.{◌≡◌, ◌↔◌, ◌⊎◌, ℕ, zero, suc, ◌+◌, ◌<◌, Bool, true, false, List, [], ◌∷◌, ◌++◌}
use Rattle.std.proofs.Common.{length}
use Rattle.std.proofs.Common.{Option, Some, None, refl, sym, ap, ◌∙◌, subst, inl, inr, arith, add-one, get_or, take}
use Rattle.std.specs.Prelude.{slice_set}
use Rattle.std.proofs.lemmas.Bool.{both_ways, cases_Bool, cases_eq}
use Rattle.std.proofs.lemmas.List.{get_or-set_other, get_or-set_same, length-set}
use Rattle.bit_array.specs.Bits.{is_in}
use Rattle.blob_meta.specs.Faults.{clusters_held}
use Rattle.md_chain.specs.Chain.{is_among}
use Rattle.store_model.specs.Places.{AreDistinct}
use Rattle.store_model.proofs.Sets.{among_either, among_first, among_later, not_first}
use Rattle.job_begins.specs.Alone.{IsMissing}

-- ---- one place more at the end

among_push : (places : List ℕ) (k c : ℕ)
    → (is_among c (places ++ k ∷ []) ≡ true) ↔ ((is_among c places ≡ true) ⊎ (c ≡ k))
among_push [] k c = (
  λ among. elim (among_either c k [] among) [ inl e ↦ inr e | inr bad ↦ absurd (cc bad) ],
  λ o. elim o [
    | inl bad ↦ absurd (cc bad)
    | inr e ↦ subst (λ x. is_among x (k ∷ []) ≡ true) (sym e) (among_first k [])
  ],
)
among_push (p ∷ places) k c =
    let rest = among_push places k c in (
      λ among. elim (among_either c p (places ++ k ∷ []) among) [
        | inl e ↦ inl (subst (λ x. is_among x (p ∷ places) ≡ true) (sym e) (among_first p places))
        | inr later ↦ elim (rest.0 later) [ inl was ↦ inl (among_later c p places was) | inr e ↦ inr e ]
      ],
      λ o. elim o [
        | inl was ↦ elim (among_either c p places was) [
          | inl e ↦
              subst (λ x. is_among x (p ∷ places ++ k ∷ []) ≡ true) (sym e) (among_first p (places ++ k ∷ []))
          | inr later ↦ among_later c p (places ++ k ∷ []) (rest.1 (inl later))
        ]
        | inr e ↦ among_later c p (places ++ k ∷ []) (rest.1 (inr e))
      ],
    )

distinct_push : (places : List ℕ) (k : ℕ) → AreDistinct places → is_among k places ≡ false
    → AreDistinct (places ++ k ∷ [])
distinct_push [] k distinct out = (refl, tt)
distinct_push (p ∷ places) k distinct out =
    let apart = not_first k p places out in (
      elim (cases_Bool (is_among p (places ++ k ∷ []))) [
        | inl among ↦ elim ((among_push places k p).0 among) [
          | inl was ↦ absurd (both_ways (is_among p places) distinct.0 was)
          | inr e ↦ absurd (apart.0 (sym e))
        ]
        | inr none ↦ none
      ],
      distinct_push places k distinct.1 apart.1,
    )

-- ---- one slot more

next_suc : (slots : List (Option ℕ)) (i : ℕ) (d : Option ℕ) (c : ℕ) → i < length slots
    → (is_among c (clusters_held (take (suc i) slots)) ≡ true)
    ↔ ((is_among c (clusters_held (take i slots)) ≡ true) ⊎ (get_or slots i d ≡ Some c))
next_suc [] i d c low = absurd (omega (arith, low))
next_suc (None ∷ slots) zero d c low =
    (λ bad. absurd (cc bad), λ o. elim o [ inl bad ↦ absurd (cc bad) | inr bad ↦ absurd (cc bad) ])
next_suc (Some y ∷ slots) zero d c low = (
  λ among. elim (among_either c y [] among) [ inl e ↦ inr (ap Some (sym e)) | inr bad ↦ absurd (cc bad) ],
  λ o. elim o [
    | inl bad ↦ absurd (cc bad)
    | inr is ↦ let e : y ≡ c = cc is in subst (λ x. is_among x (y ∷ []) ≡ true) e (among_first y [])
  ],
)
next_suc (None ∷ slots) (suc i) d c low = next_suc slots i d c (omega (arith, low))
next_suc (Some y ∷ slots) (suc i) d c low =
    let rest = next_suc slots i d c (omega (arith, low)) in
    let before = clusters_held (take i slots) in
    let after = clusters_held (take (suc i) slots) in (
      λ among. elim (among_either c y after among) [
        | inl e ↦ inl (subst (λ x. is_among x (y ∷ before) ≡ true) (sym e) (among_first y before))
        | inr later ↦ elim (rest.0 later) [ inl was ↦ inl (among_later c y before was) | inr is ↦ inr is ]
      ],
      λ o. elim o [
        | inl was ↦ elim (among_either c y before was) [
          | inl e ↦ subst (λ x. is_among x (y ∷ after) ≡ true) (sym e) (among_first y after)
          | inr later ↦ among_later c y after (rest.1 (inl later))
        ]
        | inr is ↦ among_later c y after (rest.1 (inr is))
      ],
    )

-- ---- the loop

-- so many slots are looked at: these places are those of their clusters that the set didn't have, and now it has them
pub record Finds (old : List Bool) (slots : List (Option ℕ)) (i : ℕ) (now : List Bool) (places : List ℕ) : Type 0 where
  pub count : length now ≡ length old
  pub once : AreDistinct places
  pub are : (c : ℕ) → (is_among c places ≡ true) ↔ IsMissing old (take i slots) c
  pub has : (c : ℕ) → (is_in now c ≡ true) ↔ ((is_in old c ≡ true) ⊎ (is_among c places ≡ true))

module _ (old : List Bool) (slots : List (Option ℕ)) (i : ℕ) (d : Option ℕ) (now : List Bool) (places : List ℕ)
    (low : i < length slots) (f : Finds old slots i now places) where
  next : (c : ℕ) → (is_among c (clusters_held (take (i + 1) slots)) ≡ true)
      ↔ ((is_among c (clusters_held (take i slots)) ≡ true) ⊎ (get_or slots i d ≡ Some c))
  next c = subst (λ n. (is_among c (clusters_held (take n slots)) ≡ true)
      ↔ ((is_among c (clusters_held (take i slots)) ≡ true) ⊎ (get_or slots i d ≡ Some c))) (sym (add-one i))
      (next_suc slots i d c low)

  -- a slot whose cluster isn't missing, or an empty one, leaves the places as they are
  same : ((c : ℕ) → get_or slots i d ≡ Some c → is_in now c ≡ true) → Finds old slots (i + 1) now places
  same had = record {
    count = f.count;
    once = f.once;
    are = λ c. (
      λ among. let m = (f.are c).0 among in ((next c).1 (inl m.0), m.1),
      λ m. elim ((next c).0 m.0) [
        | inl was ↦ (f.are c).1 (was, m.1)
        | inr here ↦ elim ((f.has c).0 (had c here)) [
          | inl set ↦ absurd (both_ways (is_in old c) m.1 set)
          | inr among ↦ among
        ]
      ],
    );
    has = f.has;
  }

  pub finds_none : get_or slots i d ≡ None → Finds old slots (i + 1) now places
  finds_none none = same (λ c is. absurd (let bad = sym none ∙ is in cc bad))

  pub finds_had : (k : ℕ) → get_or slots i d ≡ Some k → is_in now k ≡ true → Finds old slots (i + 1) now places
  finds_had k here set = same (λ c is.
      let both = sym here ∙ is in let e : k ≡ c = cc both in subst (λ n. is_in now n ≡ true) e set)

  -- one that is missing is one place more
  pub finds_one : (k : ℕ) → get_or slots i d ≡ Some k → is_in now k ≡ false → k < length now
      → Finds old slots (i + 1) (slice_set now k true) (places ++ k ∷ [])
  finds_one k here clear below =
      let out : is_among k places ≡ false = elim (cases_Bool (is_among k places)) [
        | inl among ↦ absurd (both_ways (is_in now k) clear ((f.has k).1 (inr among)))
        | inr none ↦ none
      ] in
      let was_clear : is_in old k ≡ false = elim (cases_Bool (is_in old k)) [
        | inl set ↦ absurd (both_ways (is_in now k) clear ((f.has k).1 (inl set)))
        | inr none ↦ none
      ] in
      record {
        count = length-set now k true ∙ f.count;
        once = distinct_push places k f.once out;
        are = λ c. (
          λ among. elim ((among_push places k c).0 among) [
            | inl was ↦ let m = (f.are c).0 was in ((next c).1 (inl m.0), m.1)
            | inr e ↦ ((next c).1 (inr (here ∙ ap Some (sym e))), ap (is_in old) e ∙ was_clear)
          ],
          λ m. (among_push places k c).1 (elim ((next c).0 m.0) [
            | inl was ↦ inl ((f.are c).1 (was, m.1))
            | inr is ↦ let both = sym here ∙ is in let e : k ≡ c = cc both in inr (sym e)
          ]),
        );
        has = λ c. elim (cases_eq c k) [
          | inl e ↦ (
            λ _. inr ((among_push places k c).1 (inr e)),
            λ _. ap (is_in (slice_set now k true)) e ∙ get_or-set_same now k true false below,
          )
          | inr ne ↦
              let at : is_in (slice_set now k true) c ≡ is_in now c = get_or-set_other now k c true false ne in (
                λ set. elim ((f.has c).0 (sym at ∙ set)) [
                  | inl was ↦ inl was
                  | inr among ↦ inr ((among_push places k c).1 (inl among))
                ],
                λ o. at ∙ (f.has c).1 (elim o [
                  | inl was ↦ inl was
                  | inr among ↦ elim ((among_push places k c).0 among) [
                    | inl was ↦ inr was
                    | inr e ↦ absurd (ne e)
                  ]
                ]),
              )
        ];
      }
