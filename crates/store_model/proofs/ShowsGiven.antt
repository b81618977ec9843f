-- What is shown where one blob that is nobody's parent has other metadata, or is new: all other volumes as they were.
use Rattle.std.proofs.Common.{◌≡◌, ◌≢◌, ℕ, false, Option, Some, None, refl, sym, ap, ◌∙◌, subst, inl, inr}
use Rattle.std.specs.Option.{option_map}
use Rattle.std.proofs.lemmas.Bool.{cases_eq, false≢true}
use Rattle.std.proofs.Math.Path.{fun_ext}
use Rattle.volume_model.specs.Volumes.{Fixed, Volume, Volumes}
use Rattle.volume_model.specs.Xattrs.{Xattrs}
use Rattle.blob_meta.specs.declared.meta.Meta.{Meta}
use Rattle.blob_meta.specs.Parents.{is_read_only, parent_of}
use Rattle.store_model.specs.Maps.{Metas, with_entry}
use Rattle.store_model.specs.Shown.{fixed_of, shown_by, volume_of}
use Rattle.store_model.specs.StoreState.{live_of, shown, StoreState}
use Rattle.store_model.specs.Jobs.{shown_of}
use Rattle.store_model.specs.Steady.{AreSteady}
use Rattle.store_model.proofs.Contents.{HasParents}
use Rattle.store_model.proofs.Elsewhere.{IsChildless, volume_elsewhere}
use Rattle.store_model.proofs.Resolved.{steady_resolved}
use Rattle.store_model.proofs.Shows.{or_empty}
use Rattle.store_model.proofs.WithEntry.{given_here, given_elsewhere}

-- a blob that isn't there is nobody's parent
pub none_childless : (metas : Metas) (head : ℕ) → HasParents metas → metas head ≡ None → IsChildless metas head
none_childless metas head parents none h p m there of e =
    let up = parents h p m there of in let bad = sym none ∙ ap metas (sym e) ∙ up.1 in cc bad

-- nor is one that can be written
pub writable_childless : (metas : Metas) (head : ℕ) (m : Meta) → HasParents metas → metas head ≡ Some m
    → is_read_only m.flags ≡ false → IsChildless metas head
writable_childless metas head m parents there writable h p n is of e =
    let up = parents h p n is of in
    let same : up.0 ≡ m = let both = sym up.1 ∙ ap metas e ∙ there in cc both in
    false≢true (sym writable ∙ ap (λ (x : Meta). is_read_only x.flags) (sym same) ∙ up.2)

-- nor is it with other metadata of its own, whose parent is another blob
pub childless_given : (metas : Metas) (head : ℕ) (new : Meta) → IsChildless metas head
    → ((p : ℕ) → parent_of new ≡ Some p → p ≢ head) → IsChildless (with_entry metas head new) head
childless_given metas head new childless other h p m there of = elim (cases_eq h head) [
  | inl e ↦
      let one : m ≡ new = let both = sym there ∙ given_here metas head new h e in cc both in
      other p (ap (λ (x : Meta). parent_of x) (sym one) ∙ of)
  | inr ne ↦ childless h p m (sym (given_elsewhere metas head new h ne) ∙ there) of
]

module _ (p : StoreState) (steady : AreSteady p.super p.base) where
  abbrev f : Fixed
  f = fixed_of p.super

  -- a blob as a volume, over this metadata
  abbrev pub by : Metas → Xattrs → ℕ → Meta → Volume
  by metas live h m = volume_of f.cluster_pages p.device.reads metas f.md_len live h m

  pub shown_is : (h : ℕ) → shown p h ≡ option_map (by p.base (or_empty (p.live h)) h) (p.base h)
  shown_is h = ap (λ (m : Metas). shown_by f p.device.reads m p.live h) (steady_resolved p.super p.base steady)

  module _ (head : ℕ) (new : Meta) (childless : IsChildless p.base head)
      (all_steady : AreSteady p.super (with_entry p.base head new)) (w : Volumes)
      (others : (h : ℕ) → h ≢ head → w h ≡ shown p h) where
    abbrev all : Metas
    all = with_entry p.base head new

    elsewhere : (h : ℕ) → h ≢ head → (o : Option Meta) → p.base h ≡ o
        → option_map (by all (or_empty (live_of w h)) h) o ≡ w h
    elsewhere h ne None is =
        sym (others h ne ∙ shown_is h ∙ ap (λ o. option_map (by p.base (or_empty (p.live h)) h) o) is)
    elsewhere h ne (Some m) is =
        let shows : w h ≡ Some (by p.base (or_empty (p.live h)) h m) =
        others h ne ∙ shown_is h ∙ ap (λ o. option_map (by p.base (or_empty (p.live h)) h) o) is in
        let live : or_empty (live_of w h) ≡ or_empty (p.live h) =
        ap (λ o. or_empty (option_map (λ (y : Volume). y.live) o)) shows in
        ap (λ (xs : Xattrs). Some (by all xs h m)) live
        ∙ ap (λ (v : Volume). Some v) (volume_elsewhere f.cluster_pages p.base all head
        (λ q other. given_elsewhere p.base head new q other) childless p.device.reads p.device.reads
        (λ _ _ _ _ _ _ _. refl) f.md_len (or_empty (p.live h)) h m ne)
        ∙ sym shows

    -- with the blob's own volume
    pub shown_given : Some (by all (or_empty (live_of w head)) head new) ≡ w head
        → shown_of p.super all (live_of w) p.device.reads ≡ w
    shown_given here = fun_ext (λ h. ap (λ (m : Metas). shown_by f p.device.reads m (live_of w) h)
        (steady_resolved p.super all all_steady) ∙ at h)
      where
        at : (h : ℕ) → option_map (by all (or_empty (live_of w h)) h) (all h) ≡ w h
        at h = elim (cases_eq h head) [
          | inl e ↦ subst (λ n. option_map (by all (or_empty (live_of w n)) n) (all n) ≡ w n) (sym e)
              (ap (λ o. option_map (by all (or_empty (live_of w head)) head) o) (given_here p.base head new head refl)
              ∙ here)
          | inr ne ↦ ap (λ o. option_map (by all (or_empty (live_of w h)) h) o) (given_elsewhere p.base head new h ne)
              ∙ elsewhere h ne (p.base h) refl
        ]
