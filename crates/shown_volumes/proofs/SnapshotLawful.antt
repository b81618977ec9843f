-- With a snapshot that is made metadata is lawful.
use Rattle.std.proofs.Common.{◌≡◌, ◌≢◌, ◌⊎◌, ℕ, ◌+◌, ◌*◌, ◌^◌, ◌<◌, ◌≤◌, true, Option, Some, None, length, refl, sym}
use Rattle.std.proofs.Common.{ap, ◌∙◌, subst, inl, inr, arith}
use Rattle.std.specs.Prelude.{◌==◌, if◌then◌else◌}
use Rattle.std.proofs.lemmas.Bool.{cases_eq, eq-eqb, ne_eqb}
use Rattle.std.proofs.lemmas.List.{length-replicate}
use Rattle.volume_model.specs.Volumes.{Fixed}
use Rattle.volume_model.specs.Xattrs.{Xattrs}
use Rattle.blob_meta.specs.declared.meta.Meta.{Meta}
use Rattle.blob_meta.specs.Parents.{is_read_only, parent_of, slot}
use Rattle.blob_meta.specs.Resolving.{IsLawful, slots_together}
use Rattle.shown_volumes.specs.JobLaws.{IsClear}
use Rattle.shown_volumes.specs.Maps.{Metas, with_entry}
use Rattle.shown_volumes.specs.ShowsStep.{IsAtRest}
use Rattle.shown_volumes.proofs.EmptyMaps.{empty_slot}
use Rattle.shown_volumes.proofs.SlotSums.{slots_given, slots_in}
use Rattle.shown_volumes.proofs.SnapshotParts as parts
use Rattle.shown_volumes.proofs.WithEntry.{given_cases, given_elsewhere, given_here}

module _ (f : Fixed) (base : Metas) (rest : IsAtRest f base) (of head : ℕ) (old : Meta) (xattrs : Xattrs)
    (there : base of ≡ Some old) (clear : IsClear f base head) where
  abbrev law : IsLawful f.md_len base
  law = rest.lawful

  abbrev made : Meta
  made = parts.made f base rest of head old xattrs there clear

  abbrev emptied : Meta
  emptied = parts.emptied f base rest of head old xattrs there clear

  abbrev next : Metas
  next = parts.next f base rest of head old xattrs there clear

  apart : of ≢ head
  apart = parts.apart f base rest of head old xattrs there clear

  parent_made : parent_of made ≡ parent_of old
  parent_made = parts.parent_made f base rest of head old xattrs there clear

  parent_emptied : parent_of emptied ≡ Some head
  parent_emptied = parts.parent_emptied f base rest of head old xattrs there clear

  pub is_made : next head ≡ Some made
  is_made = given_here (with_entry base of emptied) head made head refl

  pub is_emptied : next of ≡ Some emptied
  is_emptied = given_elsewhere (with_entry base of emptied) head made of apart ∙ given_here base of emptied of refl

  pub is_other : (h : ℕ) → h ≢ head → h ≢ of → next h ≡ base h
  is_other h ne other = given_elsewhere (with_entry base of emptied) head made h ne
      ∙ given_elsewhere base of emptied h other

  -- what holds of the snapshot, of the volume and of all other blobs holds of each
  pub each : (P : ℕ → Option Meta → Type 0) (h : ℕ) → P head (Some made) → P of (Some emptied)
      → (h ≢ head → h ≢ of → P h (base h)) → P h (next h)
  each P h at_head at_of others = given_cases (with_entry base of emptied) head made P h at_head
      (λ ne. given_cases base of emptied P h at_of (λ other. others ne other))

  pub long_emptied : length emptied.map ≡ length old.map
  long_emptied = length-replicate (length old.map) None

  -- ---- slots: the snapshot's are the volume's, which has none

  abbrev From : ℕ → ℕ → ℕ → Type 0
  From h i cluster = (h ≢ of) × (((h ≡ head) × (slot old i ≡ Some cluster))
      ⊎ ((m : Meta) × (base h ≡ Some m) × (slot m i ≡ Some cluster)))

  from : (h i cluster : ℕ) (m : Meta) → next h ≡ Some m → slot m i ≡ Some cluster → From h i cluster
  from h i cluster m = each (λ q o. o ≡ Some m → slot m i ≡ Some cluster → From q i cluster) h
      (λ is at. let one : made ≡ m = cc is in
      ((λ e. apart (sym e)), inl (refl, ap (λ (x : Meta). slot x i) one ∙ at)))
      (λ is at. let one : emptied ≡ m = cc is in
      let none = empty_slot (length old.map) i in
      let some : slot emptied i ≡ Some cluster = ap (λ (x : Meta). slot x i) one ∙ at in
      let bad : None ≡ Some cluster = sym none ∙ some in
      absurd (cc bad))
      (λ ne other is at. (other, inr (m, is, at)))

  alone : (h k i j cluster : ℕ) (m n : Meta) → next h ≡ Some m → next k ≡ Some n → slot m i ≡ Some cluster
      → slot n j ≡ Some cluster → (h ≡ k) × (i ≡ j)
  alone h k i j cluster m n hm kn si sj = by (from h i cluster m hm si) (from k j cluster n kn sj)
    where
      by : From h i cluster → From k j cluster → (h ≡ k) × (i ≡ j)
      by (a, inr x) (b, inr y) = law.alone h k i j cluster x.0 y.0 x.1 y.1 x.2 y.2
      by (a, inr x) (b, inl y) = absurd (a (law.alone h of i j cluster x.0 old x.1 there x.2 y.1).0)
      by (a, inl x) (b, inr y) = absurd (b (law.alone k of j i cluster y.0 old y.1 there y.2 x.1).0)
      by (a, inl x) (b, inl y) = (x.0 ∙ sym y.0, (law.alone of of i j cluster old old there there x.1 y.1).1)

  -- ---- parents

  abbrev IsParent : ℕ → Type 0
  IsParent p = (m : Meta) × (next p ≡ Some m) × (is_read_only m.flags ≡ true)

  still : (p : ℕ) (m : Meta) → base p ≡ Some m → is_read_only m.flags ≡ true → IsParent p
  still p m is on = elim (cases_eq p of) [
    | inl e ↦
        let both : Some m ≡ Some old = sym is ∙ ap base e ∙ there in
        let one : m ≡ old = cc both in
        (emptied, ap next e ∙ is_emptied, ap (λ (x : Meta). is_read_only x.flags) (sym one) ∙ on)
    | inr ne ↦ (
      m,
      is_other p (λ e. let bad : None ≡ Some m = sym clear.none ∙ ap base (sym e) ∙ is in absurd (cc bad)) ne ∙ is,
      on,
    )
  ]

  read_only_made : is_read_only made.flags ≡ true
  read_only_made = refl

  parents : (h p : ℕ) (m : Meta) → next h ≡ Some m → parent_of m ≡ Some p → IsParent p
  parents h p m = each (λ q o. o ≡ Some m → parent_of m ≡ Some p → IsParent p) h
      (λ is parent. let one : made ≡ m = cc is in
      let up = law.parents of p old there (sym parent_made ∙ ap parent_of one ∙ parent) in
      still p up.0 up.1 up.2)
      (λ is parent. let one : emptied ≡ m = cc is in
      let both : Some head ≡ Some p = sym parent_emptied ∙ ap parent_of one ∙ parent in
      let e : head ≡ p = cc both in
      (made, ap next (sym e) ∙ is_made, read_only_made))
      (λ ne other is parent. let up = law.parents h p m is parent in still p up.0 up.1 up.2)

  -- ---- ranks: the snapshot comes in right below the volume

  abbrev rank : ℕ → ℕ
  rank h = if h == head then 2 * law.rank of else 2 * law.rank h + 1

  rank_head : (h : ℕ) → h ≡ head → rank h ≡ 2 * law.rank of
  rank_head h e = rw (eq-eqb h head e) refl

  rank_else : (h : ℕ) → h ≢ head → rank h ≡ 2 * law.rank h + 1
  rank_else h ne = rw (ne_eqb h head ne) refl

  pub not_new : (h p : ℕ) (m : Meta) → base h ≡ Some m → parent_of m ≡ Some p → p ≢ head
  not_new = parts.orphan f base rest head clear.none

  falls : (h p : ℕ) (m : Meta) → next h ≡ Some m → parent_of m ≡ Some p → rank p < rank h
  falls h p m = each (λ q o. o ≡ Some m → parent_of m ≡ Some p → rank p < rank q) h
      (λ is parent. let one : made ≡ m = cc is in
      let up : parent_of old ≡ Some p = sym parent_made ∙ ap parent_of one ∙ parent in
      let less = law.falls of p old there up in
      let left = rank_else p (not_new of p old there up) in
      let right = rank_head head refl in
      omega (arith, less, left, right))
      (λ is parent. let one : emptied ≡ m = cc is in
      let both : Some head ≡ Some p = sym parent_emptied ∙ ap parent_of one ∙ parent in
      let e : head ≡ p = cc both in
      let left = rank_head p (sym e) in
      let right = rank_else of apart in
      omega (arith, left, right))
      (λ ne other is parent.
      let less = law.falls h p m is parent in
      let left = rank_else p (not_new h p m is parent) in
      let right = rank_else h ne in
      omega (arith, less, left, right))

  -- ---- slots in all

  pub together : slots_together f.md_len next ≡ slots_together f.md_len base + length old.map
  together =
      let of_low = rest.heads_below of (rw there refl) in
      let first = slots_given f.md_len base of emptied of_low in
      let second = slots_given f.md_len (with_entry base of emptied) head made clear.low in
      let none : slots_in (with_entry base of emptied head) ≡ 0 =
      ap slots_in (given_elsewhere base of emptied head (λ e. apart (sym e)) ∙ clear.none) in
      let was : slots_in (base of) ≡ length old.map = ap slots_in there in
      let long = long_emptied in
      omega (arith, first, second, none, was, long)

  pub lawful_next : slots_together f.md_len base + length old.map ≤ 2 ^ 24 → IsLawful f.md_len next
  lawful_next room = record {
    alone = alone;
    parents = parents;
    rank = rank;
    falls = falls;
    few = subst (λ n. n ≤ 2 ^ 24) (sym together) room;
  }
