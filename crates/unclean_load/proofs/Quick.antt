-- Clean stores, and the heads by which they are loaded.
use Rattle.std.proofs.Common.{◌≡◌, ℕ, ◌^◌, ◌<◌, ◌≤◌, Bool, true, false, List, inl, inr}
use Rattle.std.proofs.Common.{refl, sym, ap, subst, ◌∙◌, arith}
use Rattle.std.specs.Prelude.{◌↔◌}
use Rattle.std.proofs.lemmas.Bool.{and_parts, both_ways, cases_Bool, cases_lt, ltb-true}
use Rattle.std.proofs.lemmas.List.{get_or_past}
use Rattle.bit_array.specs.Bits.{is_in}
use Rattle.blob_meta.specs.Resolving.{slots_together}
use Rattle.clean_stop.specs.Masks.{MasksFit, SaysMasks}
use Rattle.page_disk.specs.Disk.{Image}
use Rattle.running_store.specs.LoadedWhole.{AreMasks}
use Rattle.store_model.specs.Maps.{Metas, Chains}
use Rattle.store_model.specs.Regions.{look_of, region_of}
use Rattle.store_model.specs.Scans.{Says, head_at}
use Rattle.store_model.proofs.Scanning.{is_at}
use Rattle.super_block.specs.declared.masks.Masks.{Masks}
use Rattle.super_block.specs.declared.page.Super.{Super}
use Rattle.unclean_load.specs.Heads.{AreWhole, is_listed}
use Rattle.unclean_load.specs.Quick.{AreHeads, AreListed, HasNoHeadBesideMask, HasNoOtherHead, IsQuick, IsReadBy}
use Rattle.unclean_load.specs.declared.heads.Heads.{Heads}
use Rattle.unclean_load.specs.declared.heads.Heads.TheVariants.{ByScan, Listed}
use Rattle.unclean_load.proofs.MaskClaims.{none_of, some_of}
use Rattle.unclean_load.proofs.PlaceSays.{scan_of, scan_of_set, set_of_scan}

-- ---- the heads of a store

-- what `unloaded_masks_are_read` says
module _ (one : (s : Super) (a b : Masks) (image : Image) → SaysMasks s a image → SaysMasks s b image → a ≡ b)
    (s : Super) (image : Image) where
  -- a store has one set of heads
  pub one_heads : (a b : Heads) → AreHeads s image a → AreHeads s image b → a ≡ b
  one_heads ByScan ByScan x y = refl
  one_heads ByScan (Listed places) x y = absurd (x y.0 y.1)
  one_heads (Listed places) ByScan x y = absurd (y x.0 x.1)
  one_heads (Listed places) (Listed others) x y =
      let same = one s x.0 y.0 image x.1.says y.1.says in
      ap (λ (l : List Bool). Listed l) (x.2 ∙ ap (λ (m : Masks). m.blobs) same ∙ sym y.2)

module _ (s : Super) (image : Image) (quick : Bool) (metas : Metas) (chains : Chains)
    (x : IsReadBy quick s image metas chains) where
  -- where the masks are trusted a load goes by them
  pub goes_by_masks : (quick ≡ true) ↔ ((masks : Masks) × IsQuick s masks image)
  goes_by_masks = (
    λ is. to x.heads x.are (sym x.quick_is ∙ is),
    λ masks. x.quick_is ∙ from x.heads x.are masks.0 masks.1,
  )
    where
      to : (heads : Heads) → AreHeads s image heads → is_listed heads ≡ true
          → (masks : Masks) × IsQuick s masks image
      to ByScan are is = absurd (cc is)
      to (Listed places) are is = (are.0, are.1)

      from : (heads : Heads) → AreHeads s image heads → (masks : Masks) → IsQuick s masks image
          → is_listed heads ≡ true
      from ByScan are masks trusted = absurd (are masks trusted)
      from (Listed places) are masks trusted = refl

  -- where no head stands beside the mask, what is loaded is what a scan says
  pub said_by_scan : HasNoHeadBesideMask s image → Says (region_of s) metas chains image
  said_by_scan none = by x.heads x.are x.whole
    where
      by : (heads : Heads) → AreHeads s image heads
          → AreWhole (look_of (region_of s) image) (region_of s) heads metas chains
          → Says (region_of s) metas chains image
      by ByScan are whole = scan_of (look_of (region_of s) image) (region_of s) metas chains whole
      by (Listed places) are whole =
          scan_of_set (look_of (region_of s) image) (region_of s) metas chains places whole
          (subst (λ (l : List Bool). HasNoOtherHead (look_of (region_of s) image) (region_of s) l) (sym are.2)
          (none are.0 are.1))

-- ---- a store whose masks are what its metadata claims

module _ (s : Super) (masks : Masks) (image : Image) (metas : Metas) (chains : Chains)
    (says : Says (region_of s) metas chains image) (few : slots_together s.md_len metas ≤ 2 ^ 24)
    (claims : AreMasks s metas chains masks) where
  -- a head by a scan is in the region, and in the set
  pub scanned_in : HasNoOtherHead (look_of (region_of s) image) (region_of s) masks.blobs
  scanned_in place is =
      let low : place < s.md_len = ltb-true _ _ (and_parts _ _ is).0 in
      elim (says place) [
        | inl blob ↦ (claims.blobs place low).1 (some_of blob.meta_is)
        | inr none ↦ absurd (both_ways (head_at (look_of (region_of s) image) s.md_len place) none.no_head is)
      ]

  -- the places of the set are in the region
  inside : (place : ℕ) → is_in masks.blobs place ≡ true → place < s.md_len
  inside place listed = elim (cases_lt place s.md_len) [
    | inl lt ↦ lt
    | inr le ↦
        absurd (both_ways (is_in masks.blobs place)
        (get_or_past masks.blobs place false (omega (arith, le, claims.count))) listed)
  ]

  -- and each is a head by a scan
  is_scanned : (place : ℕ) → is_in masks.blobs place ≡ true
      → head_at (look_of (region_of s) image) s.md_len place ≡ true
  is_scanned place listed = elim (says place) [
    | inl blob ↦ is_at (look_of (region_of s) image) (region_of s) place blob.meta blob.pages blob.says
    | inr none ↦ absurd (none_of none.no_meta ((claims.blobs place (inside place listed)).0 listed))
  ]

  same_heads : (place : ℕ) → is_in masks.blobs place ≡ head_at (look_of (region_of s) image) s.md_len place
  same_heads place = elim (cases_Bool (is_in masks.blobs place)) [
    | inl is ↦ is ∙ sym (is_scanned place is)
    | inr out ↦ elim (cases_Bool (head_at (look_of (region_of s) image) s.md_len place)) [
      | inl is ↦ absurd (both_ways (is_in masks.blobs place) out (scanned_in place is))
      | inr quiet ↦ out ∙ sym quiet
    ]
  ]

  -- so they have the blobs of the scan
  pub are_listed : AreListed (look_of (region_of s) image) (region_of s) masks.blobs metas chains
  are_listed = set_of_scan (look_of (region_of s) image) (region_of s) metas chains masks.blobs says few same_heads

  pub masks_fit : MasksFit s masks
  masks_fit = record { pages = claims.pages.count; clusters = claims.clusters.count; blobs = claims.count }

  module _ (clean : s.clean ≡ 1) (read : SaysMasks s masks image) where
    -- and are trusted
    pub is_quick : IsQuick s masks image
    is_quick = record {
      clean = clean;
      says = read;
      trusted = inl (record { metas = metas; chains = chains; blobs = are_listed; claims = claims });
    }

    pub no_head_beside : ((other : Masks) → SaysMasks s other image → other ≡ masks) → HasNoHeadBesideMask s image
    no_head_beside one other quick =
        subst (λ (m : Masks). HasNoOtherHead (look_of (region_of s) image) (region_of s) m.blobs)
        (sym (one other quick.says)) scanned_in
