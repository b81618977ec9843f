-- Metadata stays lawful where one blob has other metadata, or is new: with no cluster and no parent that it hadn't.
use Rattle.std.proofs.Common.{◌≡◌, ℕ, ◌≤◌, ◌^◌, true, Some, sym, ◌∙◌, ap, subst, inl, inr}
use Rattle.std.proofs.lemmas.Bool.{cases_eq}
use Rattle.blob_meta.specs.declared.meta.Meta.{Meta}
use Rattle.blob_meta.specs.Parents.{is_read_only, parent_of, slot}
use Rattle.blob_meta.specs.Resolving.{IsLawful, slots_together}
use Rattle.store_model.specs.Maps.{Metas, with_entry}
use Rattle.shown_volumes.proofs.WithEntry.{given_here, given_elsewhere}

-- the blob is there with this
abbrev pub Had : Metas → ℕ → (Meta → Type 0) → Type 0
Had metas head P = (old : Meta) × (metas head ≡ Some old) × P old

-- Each cluster was in the same slot, and a parent was the parent; a blob that was read-only is.
pub record TakesNone (metas : Metas) (head : ℕ) (new : Meta) : Type 0 where
  pub slots : (i cluster : ℕ) → slot new i ≡ Some cluster → Had metas head (λ old. slot old i ≡ Some cluster)
  pub parent : (p : ℕ) → parent_of new ≡ Some p → Had metas head (λ old. parent_of old ≡ Some p)
  pub read_only : (old : Meta) → metas head ≡ Some old → is_read_only old.flags ≡ true → is_read_only new.flags ≡ true

module _ (md_len : ℕ) (metas : Metas) (head : ℕ) (new : Meta) (takes : TakesNone metas head new) where
  abbrev others : Metas
  others = with_entry metas head new

  -- what every blob has now it had
  had : (P : Meta → Type 0) → (P new → Had metas head P) → (h : ℕ) (m : Meta) → others h ≡ Some m → P m
      → Had metas h P
  had P given h m is holds = elim (cases_eq h head) [
    | inl e ↦
        let one : m ≡ new = let both = sym is ∙ given_here metas head new h e in cc both in
        let old = given (subst P one holds) in
        (old.0, ap metas e ∙ old.1, old.2)
    | inr ne ↦ (m, sym (given_elsewhere metas head new h ne) ∙ is, holds)
  ]

  slot_was : (h i cluster : ℕ) (m : Meta) → others h ≡ Some m → slot m i ≡ Some cluster
      → Had metas h (λ old. slot old i ≡ Some cluster)
  slot_was h i cluster m is at = had (λ old. slot old i ≡ Some cluster) (takes.slots i cluster) h m is at

  parent_was : (h p : ℕ) (m : Meta) → others h ≡ Some m → parent_of m ≡ Some p
      → Had metas h (λ old. parent_of old ≡ Some p)
  parent_was h p m is of = had (λ old. parent_of old ≡ Some p) (takes.parent p) h m is of

  -- a parent is there still
  still_read_only : (p : ℕ) → Had metas p (λ m. is_read_only m.flags ≡ true)
      → Had others p (λ m. is_read_only m.flags ≡ true)
  still_read_only p up = elim (cases_eq p head) [
    | inl e ↦ (new, given_here metas head new p e, takes.read_only up.0 (sym (ap metas e) ∙ up.1) up.2)
    | inr ne ↦ (up.0, given_elsewhere metas head new p ne ∙ up.1, up.2)
  ]

  pub lawful_given : IsLawful md_len metas → slots_together md_len others ≤ 2 ^ 24 → IsLawful md_len others
  lawful_given law few = record {
    alone = λ h k i j cluster m n hm kn si sj.
        let a = slot_was h i cluster m hm si in
        let b = slot_was k j cluster n kn sj in
        law.alone h k i j cluster a.0 b.0 a.1 b.1 a.2 b.2;
    parents = λ h p m hm of. let a = parent_was h p m hm of in still_read_only p (law.parents h p a.0 a.1 a.2);
    rank = law.rank;
    falls = λ h p m hm of. let a = parent_was h p m hm of in law.falls h p a.0 a.1 a.2;
    few = few;
  }
