-- With a blob deleted, from which its one clone took over, metadata is lawful.
use Rattle.std.proofs.Common.{◌≡◌, ◌≢◌, ◌⊎◌, ℕ, ◌<◌, true, false, Option, Some, None, [], ◌∷◌, length, refl}
use Rattle.std.proofs.Common.{sym, ap, ◌∙◌, subst, inl, inr, arith}
use Rattle.std.specs.Option.{option_or}
use Rattle.std.proofs.lemmas.Bool.{cases_eq}
use Rattle.volume_model.specs.Volumes.{Fixed}
use Rattle.blob_meta.specs.declared.meta.Meta.{Meta}
use Rattle.blob_meta.specs.Parents.{is_locked, is_read_only, parent_of, slot}
use Rattle.blob_meta.specs.Resolving.{IsLawful}
use Rattle.inflate_delete.specs.Clones.{clones_below}
use Rattle.shown_volumes.specs.Maps.{Metas, with_entry}
use Rattle.shown_volumes.specs.ShowsStep.{IsAtRest}
use Rattle.shown_volumes.proofs.DeleteParts as parts
use Rattle.shown_volumes.proofs.HeirMaps.{filled_within, long_over, slot_over}
use Rattle.shown_volumes.proofs.SlotSums.{slots_given, slots_gone, slots_in}
use Rattle.shown_volumes.proofs.WithEntry.{given_elsewhere, given_here, gone_elsewhere, gone_here}

module _ (f : Fixed) (base : Metas) (rest : IsAtRest f base) (of clone : ℕ) (old heir : Meta)
    (there : base of ≡ Some old) (there_too : base clone ≡ Some heir)
    (one : clones_below f.md_len base of ≡ clone ∷ []) (unlocked : is_locked old.flags ≡ false) where
  abbrev law : IsLawful f.md_len base
  law = rest.lawful

  abbrev taking : Meta
  taking = parts.taking f base rest of clone old heir there there_too one unlocked

  abbrev next : Metas
  next = parts.next f base rest of clone old heir there there_too one unlocked

  apart : clone ≢ of
  apart = parts.apart f base rest of clone old heir there there_too one unlocked

  not_self : (p : ℕ) → parent_of old ≡ Some p → p ≢ of
  not_self = parts.not_self f base rest of clone old heir there there_too one unlocked

  only : (h : ℕ) (m : Meta) → base h ≡ Some m → parent_of m ≡ Some of → h ≡ clone
  only = parts.only f base rest of clone old heir there there_too one unlocked

  parent_taking : parent_of taking ≡ parent_of old
  parent_taking = parts.parent_taking f base rest of clone old heir there there_too one unlocked

  child : parent_of heir ≡ Some of
  child = parts.child f base rest of clone old heir there there_too one unlocked

  pub is_gone : next of ≡ None
  is_gone = gone_here (with_entry base clone taking) of of refl

  pub is_taking : next clone ≡ Some taking
  is_taking = gone_elsewhere (with_entry base clone taking) of clone apart ∙ given_here base clone taking clone refl

  pub is_other : (h : ℕ) → h ≢ of → h ≢ clone → next h ≡ base h
  is_other h ne other = gone_elsewhere (with_entry base clone taking) of h ne
      ∙ given_elsewhere base clone taking h other

  -- what holds of the clone and of all others but the blob holds of each that is there
  pub each : (m : Meta) (P : ℕ → Type 0) (h : ℕ) → (taking ≡ m → P clone)
      → (h ≢ of → h ≢ clone → base h ≡ Some m → P h) → next h ≡ Some m → P h
  each m P h at_clone others is = elim (cases_eq h of) [
    | inl e ↦ let bad : None ≡ Some m = sym is_gone ∙ ap next (sym e) ∙ is in absurd (cc bad)
    | inr ne ↦ elim (cases_eq h clone) [
      | inl e ↦
          let both : Some taking ≡ Some m = sym is_taking ∙ ap next (sym e) ∙ is in
          subst P (sym e) (at_clone (cc both))
      | inr other ↦ others ne other (sym (is_other h ne other) ∙ is)
    ]
  ]

  pub long_taking : length taking.map ≡ length heir.map
  long_taking = long_over heir old

  -- ---- slots: the clone's were its own, or the blob's

  abbrev From : ℕ → ℕ → ℕ → Type 0
  From h i cluster = (h ≢ of) × (((m : Meta) × (base h ≡ Some m) × (slot m i ≡ Some cluster))
      ⊎ ((h ≡ clone) × (slot old i ≡ Some cluster)))

  of_two : (i cluster : ℕ) → (o : Option ℕ) → slot heir i ≡ o → option_or o (slot old i) ≡ Some cluster
      → ((m : Meta) × (base clone ≡ Some m) × (slot m i ≡ Some cluster))
      ⊎ ((clone ≡ clone) × (slot old i ≡ Some cluster))
  of_two i cluster None is got = inr (refl, got)
  of_two i cluster (Some x) is got = inl (heir, there_too, is ∙ got)

  from : (h i cluster : ℕ) (m : Meta) → next h ≡ Some m → slot m i ≡ Some cluster → From h i cluster
  from h i cluster m is at = each m (λ q. From q i cluster) h
      (λ same.
      let here : slot taking i ≡ Some cluster = ap (λ (x : Meta). slot x i) same ∙ at in
      let lt = filled_within taking i cluster here in
      let long = long_taking in
      (apart, of_two i cluster (slot heir i) refl (sym (slot_over heir old i (omega (arith, lt, long))) ∙ here)))
      (λ ne other was. (ne, inl (m, was, at))) is

  alone : (h k i j cluster : ℕ) (m n : Meta) → next h ≡ Some m → next k ≡ Some n → slot m i ≡ Some cluster
      → slot n j ≡ Some cluster → (h ≡ k) × (i ≡ j)
  alone h k i j cluster m n hm kn si sj = by (from h i cluster m hm si) (from k j cluster n kn sj)
    where
      by : From h i cluster → From k j cluster → (h ≡ k) × (i ≡ j)
      by (a, inl x) (b, inl y) = law.alone h k i j cluster x.0 y.0 x.1 y.1 x.2 y.2
      by (a, inl x) (b, inr y) = absurd (a (law.alone h of i j cluster x.0 old x.1 there x.2 y.1).0)
      by (a, inr x) (b, inl y) = absurd (b (law.alone k of j i cluster y.0 old y.1 there y.2 x.1).0)
      by (a, inr x) (b, inr y) = (x.0 ∙ sym y.0, (law.alone of of i j cluster old old there there x.1 y.1).1)

  -- ---- parents

  abbrev IsParent : ℕ → Type 0
  IsParent p = (m : Meta) × (next p ≡ Some m) × (is_read_only m.flags ≡ true)

  still : (p : ℕ) (m : Meta) → p ≢ of → base p ≡ Some m → is_read_only m.flags ≡ true → IsParent p
  still p m ne is on = elim (cases_eq p clone) [
    | inl e ↦
        let both : Some m ≡ Some heir = sym is ∙ ap base e ∙ there_too in
        let same : m ≡ heir = cc both in
        (taking, ap next e ∙ is_taking, ap (λ (x : Meta). is_read_only x.flags) (sym same) ∙ on)
    | inr other ↦ (m, is_other p ne other ∙ is, on)
  ]

  parents : (h p : ℕ) (m : Meta) → next h ≡ Some m → parent_of m ≡ Some p → IsParent p
  parents h p m is parent = each m (λ q. IsParent p) h
      (λ same.
      let above : parent_of old ≡ Some p = sym parent_taking ∙ ap parent_of same ∙ parent in
      let up = law.parents of p old there above in
      still p up.0 (not_self p above) up.1 up.2)
      (λ ne other was.
      let up = law.parents h p m was parent in
      still p up.0 (λ e. other (only h m was (parent ∙ ap (λ n. Some n) e))) up.1 up.2) is

  falls : (h p : ℕ) (m : Meta) → next h ≡ Some m → parent_of m ≡ Some p → law.rank p < law.rank h
  falls h p m is parent = each m (λ q. law.rank p < law.rank q) h
      (λ same.
      let above : parent_of old ≡ Some p = sym parent_taking ∙ ap parent_of same ∙ parent in
      let first = law.falls of p old there above in
      let second = law.falls clone of heir there_too child in
      omega (arith, first, second))
      (λ ne other was. law.falls h p m was parent) is

  pub lawful_next : IsLawful f.md_len next
  lawful_next = record {
    alone = alone;
    parents = parents;
    rank = law.rank;
    falls = falls;
    few =
        let given = slots_given f.md_len base clone taking (rest.heads_below clone (rw there_too refl)) in
        let gone = slots_gone f.md_len (with_entry base clone taking) of (rest.heads_below of (rw there refl)) in
        let was : slots_in (base clone) ≡ length heir.map = ap slots_in there_too in
        let long = long_taking in
        let few = law.few in
        omega (arith, given, gone, was, long, few);
  }
