-- The clusters that a job claims for slots that are to read as zeros.
use Rattle.std.specs.Prelude.{◌≡◌, ◌⊎◌, ℕ, ◌*◌, ◌/◌, ◌<◌, Bool, true, false, List, [], ◌∷◌, length, map}
use Rattle.std.specs.List.{flat_map, range_with_len}
use Rattle.std.specs.Option.{option_map}
use Rattle.page_disk.specs.Disk.{Image}
use Rattle.pools.specs.Pool.{clear_in}
use Rattle.super_block.specs.declared.page.Super.{Super}
use Rattle.super_block.specs.Numbers.{cluster_pages_of}
use Rattle.volume_model.specs.Volumes.{zero_page}
use Rattle.blob_meta.specs.declared.meta.Meta.{Meta}
use Rattle.blob_meta.specs.declared.job.Replacement.{Replacement}
use Rattle.md_chain.specs.Chain.{is_among}
use Rattle.store_model.specs.Inserting.{with_slot}
use Rattle.store_model.specs.Places.{AreLeastClear}
use Rattle.store_model.specs.Phases.{Phase, Zeros, Replaces}

-- the metadata with these clusters in these slots
abbrev pub with_clusters : Meta → List ℕ → List ℕ → Meta
with_clusters m (place ∷ slots) (cluster ∷ clusters) = with_clusters (with_slot m place cluster) slots clusters
with_clusters m _ _ = m

-- the first replacement's metadata with them
abbrev pub with_zeroed : List Replacement → List ℕ → List ℕ → List Replacement
with_zeroed [] slots clusters = []
with_zeroed (x ∷ xs) slots clusters = record x { new = option_map (λ m. with_clusters m slots clusters) x.new } ∷ xs

-- The clusters that slots of zeros get: the least clear ones, one each; or none at all, where fewer are clear.
pub record AreForZeros (bits : List Bool) (slots claimed : List ℕ) : Type 0 where
  pub least : AreLeastClear bits claimed
  pub count : (length claimed ≡ length slots) ⊎ ((claimed ≡ []) × (clear_in bits < length slots))

-- the pages of these clusters
abbrev pub pages_in : Super → List ℕ → List ℕ
pages_in s clusters =
    flat_map (λ cluster. range_with_len (cluster * cluster_pages_of s) (cluster_pages_of s)) clusters

-- each of them is overwritten with zeros
abbrev pub zeroing : Super → List ℕ → List Phase
zeroing s clusters = map Zeros (pages_in s clusters)

-- an image reads zeros at each page of these clusters
abbrev pub ReadsZeros : Super → List ℕ → Image → Type 0
ReadsZeros s clusters image =
    (page : ℕ) → is_among (page / cluster_pages_of s) clusters ≡ true → image page ≡ zero_page

-- the pages that are still to be overwritten with zeros, before the next replacement
abbrev pub zeros_in : List Phase → List ℕ
zeros_in [] = []
zeros_in (Zeros page ∷ rest) = page ∷ zeros_in rest
zeros_in (Replaces r commit ∷ rest) = []
zeros_in (_ ∷ rest) = zeros_in rest

-- an image reads zeros in these clusters, but for pages that are still to be overwritten
abbrev pub AreZeroed : Super → List ℕ → List ℕ → Image → Type 0
AreZeroed s clusters zeros image =
    (page : ℕ) → is_among (page / cluster_pages_of s) clusters ≡ true → is_among page zeros ≡ false
    → image page ≡ zero_page
