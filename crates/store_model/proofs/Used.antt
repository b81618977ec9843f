-- Which pages are in use when a job begins, commits and ends.
use Rattle.std.proofs.Common.{◌≡◌, ℕ, ◌<◌, Bool, true, false, List, [], length, sym, ◌∙◌}
use Rattle.std.proofs.Common.{inl, inr, ◌++◌}
use Rattle.std.proofs.lemmas.Bool.{cases_Bool, cases_lt, both_ways}
use Rattle.std.proofs.Math.ListN.{get_or-eq_default}
use Rattle.bit_array.specs.Bits.{is_in}
use Rattle.md_chain.specs.Chain.{is_among}
use Rattle.store_model.specs.Maps.{Chains}
use Rattle.store_model.specs.Places.{all_set, AreLeastClear, AreDistinct, IsLinked, UsedPages}
use Rattle.store_model.proofs.Sets.{all_set_in, all_set_out, length_all_set}
use Rattle.store_model.proofs.Sets.{were_clear, AllBelow}
use Rattle.store_model.proofs.LeftToDo.{among_left, among_right, among_split, distinct_apart}

pub within : (bits : List Bool) (x : ℕ) → is_in bits x ≡ true → x < length bits
within bits x is = elim (cases_lt x (length bits)) [
  | inl lt ↦ lt
  | inr ge ↦ absurd (both_ways (is_in bits x) (get_or-eq_default bits false ge) is)
]

not_among_none : (x : ℕ) → is_among x [] ≡ true → ⊥
not_among_none x is = cc is

module _ (md_len : ℕ) (bits : List Bool) (chains : Chains) where
  -- the least clear pages are taken
  pub used_begun : (fresh : List ℕ) → UsedPages md_len bits chains [] → AreLeastClear bits fresh
      → UsedPages md_len (all_set bits fresh true) chains fresh
  used_begun fresh u least =
      let low : AllBelow (length bits) fresh = λ x is. (were_clear bits fresh least x is).below in
      let keeps : (x : ℕ) → is_in bits x ≡ true → is_in (all_set bits fresh true) x ≡ true =
      λ x is. elim (cases_Bool (is_among x fresh)) [
        | inl among ↦ all_set_in bits fresh true x low among
        | inr out ↦ all_set_out bits fresh true x out ∙ is
      ] in
      record {
        count = length_all_set bits fresh true ∙ u.count;
        linked = λ x l. keeps x (u.linked x l);
        held_too = λ x among. all_set_in bits fresh true x low among;
        no_other = λ x is. elim (cases_Bool (is_among x fresh)) [
          | inl among ↦ inr among
          | inr out ↦ elim (u.no_other x (sym (all_set_out bits fresh true x out) ∙ is)) [
            | inl l ↦ inl l
            | inr none ↦ absurd (not_among_none x none)
          ]
        ];
        apart = λ x among l. both_ways (is_in bits x) (were_clear bits fresh least x among).clear (u.linked x l);
      }

  -- some of the pages that are held are clear again
  pub used_freed : (old later : List ℕ) → AreDistinct (old ++ later) → UsedPages md_len bits chains (old ++ later)
      → UsedPages md_len (all_set bits old false) chains later
  used_freed old later differ u =
      let low : AllBelow (length bits) old = λ x is. within bits x (u.held_too x (among_left x old later is)) in
      let out : (x : ℕ) → IsLinked chains x → is_among x old ≡ false = λ x l.
      elim (cases_Bool (is_among x old)) [
        | inl among ↦ absurd (u.apart x (among_left x old later among) l)
        | inr apart ↦ apart
      ] in
      let out_later : (x : ℕ) → is_among x later ≡ true → is_among x old ≡ false = λ x is.
      elim (cases_Bool (is_among x old)) [
        | inl among ↦ absurd (distinct_apart old later differ x among is)
        | inr apart ↦ apart
      ] in
      record {
        count = length_all_set bits old false ∙ u.count;
        linked = λ x l. all_set_out bits old false x (out x l) ∙ u.linked x l;
        held_too = λ x is. all_set_out bits old false x (out_later x is) ∙ u.held_too x (among_right x old later is);
        no_other = λ x is. elim (cases_Bool (is_among x old)) [
          | inl among ↦ absurd (both_ways (is_in (all_set bits old false) x) (all_set_in bits old false x low among) is)
          | inr apart ↦ elim (u.no_other x (sym (all_set_out bits old false x apart) ∙ is)) [
            | inl l ↦ inl l
            | inr among ↦ elim (among_split x old later among) [
              | inl early ↦ absurd (both_ways (is_among x old) apart early)
              | inr late ↦ inr late
            ]
          ]
        ];
        apart = λ x is l. u.apart x (among_right x old later is) l;
      }
