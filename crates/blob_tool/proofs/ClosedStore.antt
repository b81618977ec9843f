-- What an image says that a store may leave while it is closed: what the one said from which it comes.
use Rattle.std.proofs.Common.{◌≡◌, ⊎_elim, ℕ, ◌+◌, ◌<◌, ◌≤◌, ◌*◌, Bool, refl, sym, ap, ◌∙◌, subst}
use Rattle.std.proofs.Common.{arith}
use Rattle.std.proofs.Math.Nat.{mul-le-mul_right}
use Rattle.clean_stop.specs.Masks.{IsMaskPage, MasksFit, StandsApart}
use Rattle.clean_stop.specs.Stopping.{with_clean, IsSuperPage}
use Rattle.page_disk.specs.Disk.{Image}
use Rattle.page_runs.specs.Writing.{SameBut}
use Rattle.super_block.specs.Faults.{super_fault}
use Rattle.super_block.specs.Numbers.{cluster_pages_of, clusters_of, fixed_clusters_of}
use Rattle.super_block.specs.Page.{super_of}
use Rattle.super_block.specs.Placed.{IsPlaced}
use Rattle.super_block.specs.declared.masks.Masks.{Masks}
use Rattle.super_block.specs.declared.page.Super.{Super}
use Rattle.store_model.specs.Recovers.{HasStore, IsSameStore}
use Rattle.store_model.specs.StateLaws.{IsSameBehind}
use Rattle.store_model.proofs.StandsKept.{super_outside}
use Rattle.store_model.specs.Maps.{Chains, Metas}
use Rattle.running_store.specs.LoadedWhole.{AreMasks}
use Rattle.running_store.specs.Running.{super_left}
use Rattle.blob_tool.specs.Closing.{as_before, Becomes, clean, in_use, IsOfClosing, kept}

-- the masks of a store have the lengths that an unload asks of them
pub masks_fit : (left : Bool) (s : Super) (metas : Metas) (chains : Chains) (masks : Masks)
    → AreMasks s metas chains masks → MasksFit (super_left left s) masks
unfolding clusters_of
masks_fit left s metas chains masks are =
    record { pages = are.pages.count; clusters = are.clusters.count; blobs = are.count }

-- One image has this store where another has it, and the metadata region and all behind the fixed clusters are the
-- same.
pub record HasSameStore (s : Super) (image other : Image) : Type 0 where
  pub store : HasStore s image → HasStore s other
  pub region : (q : ℕ) → q < s.md_len → other (s.md_start + q) ≡ image (s.md_start + q)
  pub behind : IsSameBehind s image other

-- a store is there where its super block is, clean or not
store_of : (s : Super) (left : Bool) (mark : ℕ) (image : Image)
    → IsSuperPage (with_clean mark (super_left left s)) (image 0)
    → HasStore s image
store_of s left mark image x = record {
  faultless = x.faultless;
  same = subst (IsSameStore s) (sym x.reads) refl;
}

-- and where the page of another image is there
store_kept : (s : Super) (image other : Image) → other 0 ≡ image 0 → HasStore s image → HasStore s other
store_kept s image other same x = record {
  faultless = ap (λ page. super_fault page s.device_pages) same ∙ x.faultless;
  same = subst (λ page. IsSameStore s (super_of page s.device_pages)) (sym same) x.same;
}

-- the fixed clusters have a page, at least
pub some_fixed_page : (s : Super) → IsPlaced s → 0 < fixed_clusters_of s * cluster_pages_of s
some_fixed_page s placed =
    let one = placed.some_fixed in
    let m : 1 * cluster_pages_of s ≤ fixed_clusters_of s * cluster_pages_of s =
    mul-le-mul_right (cluster_pages_of s) (omega (arith, one)) in
    let some = placed.some_pages in
    omega (arith, m, some)

module _ (s : Super) (placed : IsPlaced s) (apart : (page : ℕ) → IsMaskPage s page → StandsApart s page) where
  module _ (left : Bool) (masks : Masks) (image other : Image)
      (others : SameBut (IsOfClosing (super_left left s)) image other) where
    becomes_store : Becomes (super_left left s) masks image other → HasStore s image → HasStore s other
    becomes_store (as_before same) = store_kept s image other (same 0)
    becomes_store (kept dirty same) = store_kept s image other same
    becomes_store (in_use is) = λ _. store_of s left 0 other is
    becomes_store (clean is) = λ _. store_of s left 1 other is.super

    stays : (page : ℕ) → 0 < page → (IsMaskPage s page → ⊥) → other page ≡ image page
    unfolding clusters_of
    stays page lt out = others page (⊎_elim (λ zero. omega (arith, lt, zero)) out)

    -- all else that a store has is as before, once its super block is there
    pub stays_same : (HasStore s image → HasStore s other) → HasSameStore s image other
    stays_same store = record {
      store = store;
      region = λ q low. stays (s.md_start + q) (let ne = super_outside s placed q low in omega (arith, ne))
          (λ mask. (apart (s.md_start + q) mask).no_metadata q low refl);
      behind = λ page le. stays page (let fixed = some_fixed_page s placed in omega (arith, le, fixed))
          (λ mask. let lt = (apart page mask).fixed in omega (arith, le, lt));
    }

    -- the store is closed, or may be
    pub becomes_same : Becomes (super_left left s) masks image other → HasSameStore s image other
    becomes_same becomes = stays_same (becomes_store becomes)
