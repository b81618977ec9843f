-- How many slots have a cluster, and the least cluster that stands in two.
use Rattle.std.specs.Prelude.{◌≡◌, ◌⊎◌, ℕ, ◌+◌, ◌<◌, ◌≤◌, ◌==◌, Bool, true, false, List, length, count_by, Option, Some}
use Rattle.std.specs.Prelude.{None}
use Rattle.std.specs.List.{range_with_len, sum_by}
use Rattle.std.specs.Option.{option_map_or}
use Rattle.bit_array.specs.Bits.{is_in}
use Rattle.super_block.specs.declared.page.Super.{Super}
use Rattle.super_block.specs.Numbers.{clusters_of, fixed_clusters_of}
use Rattle.blob_meta.specs.declared.meta.Meta.{Meta}
use Rattle.store_model.specs.Maps.{Metas}

-- the slot has the cluster
abbrev pub has_cluster : ℕ → Option ℕ → Bool
has_cluster cluster slot = option_map_or (λ c. c == cluster) slot false

-- how many slots of a map have it
abbrev pub copies_in : ℕ → List (Option ℕ) → ℕ
copies_in cluster map = count_by (has_cluster cluster) map

-- how many slots of the maps of the heads below a place have it
abbrev pub copies : ℕ → Metas → ℕ → ℕ
copies end metas cluster =
    sum_by (λ head. option_map_or (λ (m : Meta). copies_in cluster m.map) (metas head) 0) (range_with_len 0 end)

-- The nth slot that has the cluster, by heads upwards, is of this head's map.
pub record IsHolder (md_len : ℕ) (metas : Metas) (cluster n head : ℕ) : Type 0 where
  pub low : head < md_len
  pub before : copies head metas cluster < n
  pub here : n ≤ copies (head + 1) metas cluster

-- The least cluster that stands in two slots, and the heads of its first two.
pub record IsShared (md_len : ℕ) (metas : Metas) (cluster a b : ℕ) : Type 0 where
  pub least : (c : ℕ) → c < cluster → copies md_len metas c ≤ 1
  pub first : IsHolder md_len metas cluster 1 a
  pub second : IsHolder md_len metas cluster 2 b

-- ---- while they are counted

-- the least of these clusters that has two slots, where there is one
abbrev pub IsLeastTwice : (ℕ → ℕ) → Option ℕ → Type 0
IsLeastTwice count None = (c : ℕ) → count c ≤ 1
IsLeastTwice count (Some cluster) = (2 ≤ count cluster) × ((c : ℕ) → c < cluster → count c ≤ 1)

-- Behind the fixed clusters a set has just the clusters that some slots have, so many each.
pub record AreCounted (fixed : ℕ) (count : ℕ → ℕ) (bits : List Bool) (twice : Option ℕ) : Type 0 where
  pub first : (c : ℕ) → c < fixed → c < length bits → is_in bits c ≡ true
  pub claimed : (c : ℕ) → 0 < count c → is_in bits c ≡ true
  pub no_other : (c : ℕ) → is_in bits c ≡ true → (c < fixed) ⊎ (0 < count c)
  pub least : IsLeastTwice count twice

-- the clusters of a map are behind the fixed ones, and below a length
abbrev pub AreInside : ℕ → ℕ → List (Option ℕ) → Type 0
AreInside fixed clusters map = (c : ℕ) → 0 < copies_in c map → (fixed ≤ c) × (c < clusters)

-- the clusters of all maps are inside of the device
abbrev pub AreAllInside : Super → Metas → Type 0
AreAllInside s metas =
    (head : ℕ) (m : Meta) → metas head ≡ Some m → AreInside (fixed_clusters_of s) (clusters_of s) m.map
