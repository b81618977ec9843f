-- What the blobs that recovery removes have in use until each is erased.
use Rattle.std.specs.Prelude.{◌≡◌, ◌↔◌, ◌⊎◌, ℕ, ◌<◌, nat_lt, if◌then◌else◌, true, length, List}
use Rattle.std.specs.Prelude.{slice_set, Some, None, IsSome}
use Rattle.bit_array.specs.Bits.{is_in}
use Rattle.super_block.specs.declared.masks.Masks.{Masks}
use Rattle.blob_meta.specs.declared.meta.Meta.{Meta}
use Rattle.blob_meta.specs.Faults.{clusters_held}
use Rattle.md_chain.specs.Chain.{is_among}
use Rattle.running_store.specs.Recovered.{chains_of}
use Rattle.store_model.specs.Maps.{Metas, Chains}
use Rattle.store_model.specs.Places.{all_set, IsLinked, IsMapped}

-- the blobs whose heads are below this
abbrev pub those_below : Metas → ℕ → Metas
those_below metas end h = if nat_lt h end then metas h else None

-- the masks with what one blob has in use besides: its head, the pages of its chain and its clusters
abbrev pub masks_with : Masks → ℕ → Meta → List ℕ → Masks
masks_with masks head m chain = record {
  pages = all_set masks.pages chain true;
  clusters = all_set masks.clusters (clusters_held m.map) true;
  blobs = slice_set masks.blobs head true;
}

-- Each blob has a chain; its head, the pages of that and its clusters are among those that the masks are of.
pub record FitMasks (blobs : Metas) (chains : Chains) (masks : Masks) : Type 0 where
  pub chain : (h : ℕ) → IsSome (blobs h) → IsSome (chains h)
  pub head : (h : ℕ) → IsSome (blobs h) → h < length masks.blobs
  pub pages : (place : ℕ) → IsLinked (chains_of blobs chains) place → place < length masks.pages
  pub clusters : (h : ℕ) (m : Meta) (c : ℕ) → blobs h ≡ Some m → is_among c (clusters_held m.map) ≡ true
      → c < length masks.clusters

-- In use is what was before, and beside that the heads of these blobs, the pages of their chains and their clusters.
pub record AreWith (blobs : Metas) (chains : Chains) (old new : Masks) : Type 0 where
  pub page_count : length new.pages ≡ length old.pages
  pub cluster_count : length new.clusters ≡ length old.clusters
  pub head_count : length new.blobs ≡ length old.blobs
  pub pages : (place : ℕ)
      → (is_in new.pages place ≡ true) ↔ ((is_in old.pages place ≡ true) ⊎ IsLinked (chains_of blobs chains) place)
  pub clusters : (cluster : ℕ)
      → (is_in new.clusters cluster ≡ true) ↔ ((is_in old.clusters cluster ≡ true) ⊎ IsMapped blobs cluster)
  pub heads : (head : ℕ)
      → (is_in new.blobs head ≡ true) ↔ ((is_in old.blobs head ≡ true) ⊎ IsSome (blobs head))
