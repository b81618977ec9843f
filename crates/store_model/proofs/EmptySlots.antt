-- Empty slots with other metadata: of which blobs each that is empty then was empty, and shows what it showed.
use Rattle.std.proofs.Common.{
  ◌≡◌,
  ◌≢◌,
  ℕ,
  suc,
  ◌/◌,
  ◌≤◌,
  Option,
  Some,
  None,
  List,
  length,
  refl,
  sym,
  ap,
  ◌∙◌,
  subst,
  inl,
}
use Rattle.std.proofs.Common.{inr, arith}
use Rattle.std.specs.Option.{option_and_then, option_map_or}
use Rattle.std.specs.Prelude.{slice_get}
use Rattle.std.proofs.lemmas.Bool.{cases_lt}
use Rattle.page_disk.specs.Disk.{Image}
use Rattle.super_block.specs.declared.page.Super.{Super}
use Rattle.super_block.specs.Numbers.{cluster_pages_of}
use Rattle.volume_model.specs.Volumes.{zero_page}
use Rattle.blob_meta.specs.declared.meta.Meta.{Meta}
use Rattle.blob_meta.specs.Jobs.{resized_meta}
use Rattle.blob_meta.specs.Parents.{parent_of, slot}
use Rattle.blob_meta.specs.Resolving.{resolved}
use Rattle.store_model.specs.Maps.{Metas, with_entry}
use Rattle.store_model.specs.Copying.{LeavesSlotsEmpty}
use Rattle.store_model.specs.Steady.{AreSteady}
use Rattle.store_model.specs.Shown.{content, content_by}
use Rattle.store_model.proofs.Cut.{slot_kept, slot_past}
use Rattle.store_model.proofs.Elsewhere.{IsChildless, same_elsewhere, through}
use Rattle.store_model.proofs.SameMaps.{content_alike, IsPlacedAlike}
use Rattle.store_model.proofs.Resolved.{steady_resolved}
use Rattle.shown_volumes.proofs.WithEntry.{given_elsewhere, given_here}
pub use Rattle.shown_volumes.specs.EmptySlots.{Anything}

-- with the same maps and parents
module _ (s : Super) (metas others : Metas) (alike : (h : ℕ) → IsPlacedAlike (others h) (metas h)) where
  record HasAlike (h page : ℕ) : Type 0 where
    old : Meta
    there : metas h ≡ Some old
    empty : slot old (page / cluster_pages_of s) ≡ None

  was : (h page : ℕ) (m : Meta) (o q : Option Meta) → IsPlacedAlike o q → o ≡ Some m → metas h ≡ q
      → slot m (page / cluster_pages_of s) ≡ None → HasAlike h page
  was h page m (Some n) (Some old) is same there empty =
      let one : n ≡ m = cc same in
      record {
        old = old;
        there = there;
        empty =
            ap (λ (map : List (Option ℕ)). option_and_then (λ x. x) (slice_get map (page / cluster_pages_of s)))
            (sym is.0 ∙ ap (λ (x : Meta). x.map) one) ∙ empty;
      }
  was h page m (Some n) None is same there empty = absurd is
  was h page m None q is same there empty = absurd (cc same)

  pub leaves_alike : (h : ℕ) → LeavesSlotsEmpty s metas others Anything h
  leaves_alike h page m is empty =
      let x = was h page m (others h) (metas h) (alike h) is refl empty in
      record {
        old = x.old;
        there = x.there;
        empty = x.empty;
        same = λ image _. content_alike (cluster_pages_of s) image metas others alike (suc s.md_len) h page;
      }

-- of other blobs than one that is nobody's parent
pub leaves_elsewhere : (s : Super) (metas : Metas) (head : ℕ) (new : Meta) → IsChildless metas head → (h : ℕ) → h ≢ head
    → LeavesSlotsEmpty s metas (with_entry metas head new) Anything h
leaves_elsewhere s metas head new childless h ne page m is empty = record {
  old = m;
  there = sym (given_elsewhere metas head new h ne) ∙ is;
  empty = empty;
  same = λ image _. same_elsewhere (cluster_pages_of s) metas (with_entry metas head new) head
      (λ q other. given_elsewhere metas head new q other) childless image image (λ _ _ _ _ _ _ _. refl) (suc s.md_len)
      page h ne;
}

-- where slots are added an empty one was empty
pub resized_empty : (old : Meta) (slots : ℕ) → length old.map ≤ slots → (i : ℕ) → slot (resized_meta old slots) i ≡ None
    → slot old i ≡ None
resized_empty old slots grows i none = elim (cases_lt i slots) [
  | inl lt ↦ sym (slot_kept old.map slots i lt) ∙ none
  | inr ge ↦ slot_past old.map i (omega (arith, ge, grows))
]

-- of that one, where it has its parent still and no slot is emptied
module _ (s : Super) (metas : Metas) (head : ℕ) (old : Meta) (there : metas head ≡ Some old)
    (childless : IsChildless metas head) (next : Meta) (parent : parent_of next ≡ parent_of old)
    (was_empty : (i : ℕ) → slot next i ≡ None → slot old i ≡ None) where
  abbrev k : ℕ
  k = cluster_pages_of s

  abbrev nexts : Metas
  nexts = with_entry metas head next

  shows_same : (image : Image) (page : ℕ) → slot next (page / k) ≡ None → slot old (page / k) ≡ None
      → content k image nexts (suc s.md_len) head page ≡ content k image metas (suc s.md_len) head page
  shows_same image page none before =
      ap (λ o. option_map_or (content_by k image nexts (λ p r. content k image nexts s.md_len p r) page) o zero_page)
      (given_here metas head next head refl)
      ∙ inside
      ∙ sym (ap
      (λ o. option_map_or (content_by k image metas (λ p r. content k image metas s.md_len p r) page) o zero_page)
      there)
    where
      inside : content_by k image nexts (λ p r. content k image nexts s.md_len p r) page next
          ≡ content_by k image metas (λ p r. content k image metas s.md_len p r) page old
      inside = rw (none, before, parent)
          (through k metas nexts head (λ q other. given_elsewhere metas head next q other) childless image image
          (λ _ _ _ _ _ _ _. refl) s.md_len head page old
          (same_elsewhere k metas nexts head (λ q other. given_elsewhere metas head next q other) childless image image
          (λ _ _ _ _ _ _ _. refl) s.md_len page) there (parent_of old) refl)

  pub leaves_given : LeavesSlotsEmpty s metas nexts Anything head
  leaves_given page m is empty =
      let one : next ≡ m = let both = sym (given_here metas head next head refl) ∙ is in cc both in
      let none : slot next (page / k) ≡ None = ap (λ (x : Meta). slot x (page / k)) one ∙ empty in
      let before = was_empty (page / k) none in
      record { old = old; there = there; empty = before; same = λ image _. shows_same image page none before }

-- metadata without marks is resolved
pub leaves_resolved : (s : Super) (base later : Metas) (Held : Image → Type 0) (h : ℕ) → AreSteady s base
    → AreSteady s later → LeavesSlotsEmpty s base later Held h
    → LeavesSlotsEmpty s (resolved base) (resolved later) Held h
leaves_resolved s base later Held h steady steady_too leaves =
    subst (λ (m : Metas). LeavesSlotsEmpty s m (resolved later) Held h) (sym (steady_resolved s base steady))
    (subst (λ (m : Metas). LeavesSlotsEmpty s base m Held h) (sym (steady_resolved s later steady_too)) leaves)
