-- The masks of a loaded store, what is clear in them, and the head of the next blob.
use Rattle.std.specs.Prelude.{◌≡◌, ◌↔◌, ◌⊎◌, ◌<◌, ℕ, zero, suc, List, [], length, Bool, true, IsSome}
use Rattle.bit_array.specs.Bits.{is_in, IsFull, IsLeastClear}
use Rattle.super_block.specs.declared.page.Super.{Super}
use Rattle.super_block.specs.declared.masks.Masks.{Masks}
use Rattle.store_model.specs.Maps.{Metas, Chains}
use Rattle.store_model.specs.Places.{Unclaimed, UsedClusters, UsedPages, without_claim}
use Rattle.store_model.specs.Rows.{Rows}

-- The masks are what the chains and the maps claim: pages, clusters and heads.
pub record AreMasks (s : Super) (metas : Metas) (chains : Chains) (masks : Masks) : Type 0 where
  pub pages : UsedPages s.md_len masks.pages chains []
  pub clusters : UsedClusters s masks.clusters metas Unclaimed
  pub count : length masks.blobs ≡ s.md_len
  pub blobs : (head : ℕ) → head < s.md_len → (is_in masks.blobs head ≡ true) ↔ IsSome (metas head)

-- the clusters in use once the claims of the first so many rows are given back
abbrev pub without_first : List Bool → Rows → ℕ → List Bool
without_first bits rows zero = bits
without_first bits rows (suc count) = without_claim (without_first bits rows count) (rows count).claim

-- the least place that is clear, or, where none is, how many there are
abbrev pub IsNextHead : ℕ → List Bool → ℕ → Type 0
IsNextHead md_len pages head = IsLeastClear pages head ⊎ (IsFull pages × (head ≡ md_len))
