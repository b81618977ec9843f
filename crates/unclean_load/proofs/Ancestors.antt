-- Following parents step by step: where it ends it never comes back, and the steps to its end are ranks.
use Rattle.std.proofs.Common.{◌≡◌, ℕ, zero, suc, ◌+◌, ◌-◌, ◌<◌, ◌≤◌, Option, Some, None, refl, sym, ap, ◌∙◌}
use Rattle.std.proofs.Common.{inl, inr, arith}
use Rattle.std.specs.Option.{option_and_then}
use Rattle.std.proofs.lemmas.Bool.{cases_lt}
use Rattle.blob_meta.specs.declared.meta.Meta.{Meta}
use Rattle.blob_meta.specs.Parents.{parent_of}
use Rattle.store_model.specs.Maps.{Metas}
use Rattle.unclean_load.specs.Parents.{ancestor, parent_at, ComesBack, HasRightParent, HaveRightParents}
use Rattle.unclean_load.specs.Walks.{ParentsEnd}

module _ (metas : Metas) where
  -- from a place on the way it goes on as it does from there
  pub onward : (head place i j : ℕ) → ancestor metas head i ≡ Some place
      → ancestor metas head (i + j) ≡ ancestor metas place j
  onward head place i zero at = let e : i + zero ≡ i = omega arith in ap (ancestor metas head) e ∙ at
  onward head place i (suc j) at =
      let e : i + suc j ≡ suc (i + j) = omega arith in
      ap (ancestor metas head) e ∙ ap (option_and_then (parent_at metas)) (onward head place i j at)

  -- one step leads to the parent
  pub one_step : (h p : ℕ) (m : Meta) → metas h ≡ Some m → parent_of m ≡ Some p → ancestor metas h (suc zero) ≡ Some p
  one_step h p m there is = ap (option_and_then parent_of) there ∙ is

  -- where no blob is it goes no further
  pub no_blob_ends : (place : ℕ) → metas place ≡ None → parent_at metas place ≡ None
  no_blob_ends place none = ap (option_and_then parent_of) none

  -- ---- ranks

  module _ (rank : ℕ → ℕ) (falls : (h p : ℕ) (m : Meta) → metas h ≡ Some m → parent_of m ≡ Some p → rank p < rank h)
    where
      step_falls : (q p : ℕ) (o : Option Meta) → metas q ≡ o → option_and_then parent_of o ≡ Some p → rank p < rank q
      step_falls q p None there is = absurd (cc is)
      step_falls q p (Some m) there is = falls q p m there is

      along : (head j p : ℕ) → ancestor metas head j ≡ Some p → rank p + j ≤ rank head
      along head zero p at = let e : head ≡ p = cc at in let same = ap rank e in omega (arith, same)
      along head (suc j) p at = by (along head j) (ancestor metas head j) refl at
        where
          by : ((q : ℕ) → ancestor metas head j ≡ Some q → rank q + j ≤ rank head) → (o : Option ℕ)
              → ancestor metas head j ≡ o → option_and_then (parent_at metas) o ≡ Some p → rank p + suc j ≤ rank head
          by before None is on = absurd (cc on)
          by before (Some q) is on =
              let most = before q is in
              let lt = step_falls q p (metas q) refl on in
              omega (arith, most, lt)

      -- where ranks fall it never comes back
      pub never_back : (head : ℕ) → ComesBack metas head → ⊥
      never_back head x =
          let j = x.second - x.first in
          let later = x.later in
          let e : x.first + j ≡ x.second = omega (arith, later) in
          let round : ancestor metas x.place j ≡ Some x.place =
          sym (onward head x.place x.first j x.at_first) ∙ ap (ancestor metas head) e ∙ x.at_second in
          let falls_to = along x.place j x.place round in
          absurd (omega (arith, later, falls_to))

  -- ---- where it ends

  later_none : (last : ℕ) → parent_at metas last ≡ None → (j : ℕ) → ancestor metas last (suc j) ≡ None
  later_none last none zero = none
  later_none last none (suc j) = ap (option_and_then (parent_at metas)) (later_none last none j)

  within : (p n last m q : ℕ) → ancestor metas p n ≡ Some last → parent_at metas last ≡ None
      → ancestor metas p m ≡ Some q → m ≤ n
  within p n last m q at none on = elim (cases_lt n m) [
    | inl lt ↦
        let j = m - (n + 1) in
        let e : m ≡ n + suc j = omega (arith, lt) in
        let end : ancestor metas p m ≡ None =
        ap (ancestor metas p) e ∙ onward p last n (suc j) at ∙ later_none last none j in
        let bad = sym end ∙ on in absurd (cc bad)
    | inr le ↦ le
  ]

  -- what goes on to a place where it ends, ends
  pub ends_before : (head place i : ℕ) → ancestor metas head i ≡ Some place → ParentsEnd metas place
      → ParentsEnd metas head
  ends_before head place i at x = record {
    steps = i + x.steps;
    last = x.last;
    comes = onward head place i x.steps at ∙ x.comes;
    no_further = x.no_further;
  }

  -- and so does what comes behind
  ends_behind : (head place i : ℕ) → ancestor metas head i ≡ Some place → ParentsEnd metas head → ParentsEnd metas place
  ends_behind head place i at x =
      let few = within head x.steps x.last i place x.comes x.no_further at in
      let e : i + (x.steps - i) ≡ x.steps = omega (arith, few) in
      record {
        steps = x.steps - i;
        last = x.last;
        comes = sym (onward head place i (x.steps - i) at) ∙ ap (ancestor metas head) e ∙ x.comes;
        no_further = x.no_further;
      }

  steps_behind : (head place i : ℕ) → ancestor metas head i ≡ Some place
      → (x : ParentsEnd metas head) (y : ParentsEnd metas place)
      → i + y.steps ≡ x.steps
  steps_behind head place i at x y =
      let through : ancestor metas head (i + y.steps) ≡ Some y.last = onward head place i y.steps at ∙ y.comes in
      let a = within head x.steps x.last (i + y.steps) y.last x.comes x.no_further through in
      let b = within head (i + y.steps) y.last x.steps x.last through y.no_further x.comes in
      omega (arith, a, b)

  -- where it ends it never comes back
  pub ends_never_back : (head : ℕ) → ParentsEnd metas head → ComesBack metas head → ⊥
  ends_never_back head x back =
      let y = ends_behind head back.place back.first back.at_first x in
      let a = steps_behind head back.place back.first back.at_first x y in
      let b = steps_behind head back.place back.second back.at_second x y in
      let later = back.later in
      absurd (omega (arith, a, b, later))

  -- a place from which it goes no further ends it, and so does one whose parent isn't there
  pub ends_here : (place : ℕ) → ((p : ℕ) → parent_at metas place ≡ Some p → metas p ≡ None) → ParentsEnd metas place
  ends_here place none = by (parent_at metas place) refl
    where
      by : (o : Option ℕ) → parent_at metas place ≡ o → ParentsEnd metas place
      by None is = record { steps = zero; last = place; comes = refl; no_further = is }
      by (Some p) is =
          record { steps = suc zero; last = p; comes = is; no_further = no_blob_ends p (none p is) }

  module _ (right : (head : ℕ) (m : Meta) → metas head ≡ Some m → HasRightParent metas m)
      (ends : (head : ℕ) (m : Meta) → metas head ≡ Some m → ParentsEnd metas head) where
    ends_all : (head : ℕ) → ParentsEnd metas head
    ends_all head = by (metas head) refl
      where
        by : (o : Option Meta) → metas head ≡ o → ParentsEnd metas head
        by None there =
            record { steps = zero; last = head; comes = refl; no_further = no_blob_ends head there }
        by (Some m) there = ends head m there

    -- where it ends from every blob, the steps to the end are ranks
    pub right_parents : HaveRightParents metas
    right_parents = record {
      right = right;
      rank = λ h. (ends_all h).steps;
      falls = λ h p m there is.
          let e = steps_behind h p (suc zero) (one_step h p m there is) (ends_all h) (ends_all p) in omega (arith, e);
    }
