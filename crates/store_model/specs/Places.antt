-- Which metadata pages and which clusters are in use, and which places a job takes.
use Rattle.std.specs.Prelude.{◌≡◌, ◌⊎◌, ℕ, ◌<◌, ◌≤◌, Bool, true, false, List, [], ◌∷◌, length, slice_set, Option, Some}
use Rattle.std.specs.Prelude.{None}
use Rattle.std.specs.Option.{option_map_or}
use Rattle.bit_array.specs.Bits.{is_in, IsLeastClear}
use Rattle.super_block.specs.declared.page.Super.{Super}
use Rattle.super_block.specs.Numbers.{clusters_of, fixed_clusters_of}
use Rattle.blob_meta.specs.declared.meta.Meta.{Meta}
use Rattle.blob_meta.specs.Parents.{slot}
use Rattle.md_chain.specs.Chain.{is_among}
use Rattle.store_model.specs.Maps.{Metas, Chains}
use Rattle.store_model.specs.Rows.{OpenClaim, Rows}
use Rattle.store_model.specs.Phases.{held_in}
use Rattle.store_model.specs.StoreState.{JobState}

-- these places are set, or cleared, one after another
abbrev pub all_set : List Bool → List ℕ → Bool → List Bool
all_set bits [] to = bits
all_set bits (p ∷ ps) to = all_set (slice_set bits p to) ps to

-- the clusters in use once a claim is given back
abbrev pub without_claim : List Bool → Option OpenClaim → List Bool
without_claim bits None = bits
without_claim bits (Some claim) = slice_set bits claim.cluster false

-- no place stands twice
abbrev pub AreDistinct : List ℕ → Type 0
AreDistinct [] = Unit {0}
AreDistinct (p ∷ ps) = (is_among p ps ≡ false) × AreDistinct ps

-- Each is the least clear one after those before it are taken.
abbrev pub AreLeastClear : List Bool → List ℕ → Type 0
AreLeastClear bits [] = Unit {0}
AreLeastClear bits (p ∷ ps) = IsLeastClear bits p × AreLeastClear (slice_set bits p true) ps

-- the places that a job holds
abbrev pub held_by : Option JobState → List ℕ
held_by o = option_map_or (λ j. held_in j.todo) o []

-- some chain has the place
pub record IsLinked (chains : Chains) (place : ℕ) : Type 0 where
  pub head : ℕ
  pub pages : List ℕ
  pub chain : chains head ≡ Some pages
  pub among : is_among place pages ≡ true

-- The pages in use, of so many, are those of the chains and those that a job holds, which no chain has.
pub record UsedPages (md_len : ℕ) (bits : List Bool) (chains : Chains) (held : List ℕ) : Type 0 where
  pub count : length bits ≡ md_len
  pub linked : (place : ℕ) → IsLinked chains place → is_in bits place ≡ true
  pub held_too : (place : ℕ) → is_among place held ≡ true → is_in bits place ≡ true
  pub no_other : (place : ℕ) → is_in bits place ≡ true → IsLinked chains place ⊎ (is_among place held ≡ true)
  pub apart : (place : ℕ) → is_among place held ≡ true → IsLinked chains place → ⊥

-- some slot of some map has the cluster
pub record IsMapped (metas : Metas) (cluster : ℕ) : Type 0 where
  pub head : ℕ
  pub meta : Meta
  pub there : metas head ≡ Some meta
  pub place : ℕ
  pub in_slot : slot meta place ≡ Some cluster

-- a row has an open claim of the cluster
pub record IsClaimed (rows : Rows) (cluster : ℕ) : Type 0 where
  pub channel : ℕ
  pub claim : OpenClaim
  pub held : (rows channel).claim ≡ Some claim
  pub is : claim.cluster ≡ cluster

-- the clusters that a job has claimed and no map has yet
abbrev pub claimed_by : Option JobState → List ℕ
claimed_by o = option_map_or (λ j. j.claimed) o []

-- a row or the job has an open claim of the cluster
abbrev pub HasClaim : Rows → Option JobState → ℕ → Type 0
HasClaim rows job cluster = IsClaimed rows cluster ⊎ (is_among cluster (claimed_by job) ≡ true)

-- no cluster is claimed
abbrev pub Unclaimed : ℕ → Type 0
Unclaimed cluster = ⊥

-- no two rows have claimed one cluster, nor a row and the job
pub record ClaimsDiffer (all : Rows) (running : Option JobState) : Type 0 where
  pub rows : (channel other : ℕ) (x y : OpenClaim) → (all channel).claim ≡ Some x → (all other).claim ≡ Some y
      → x.cluster ≡ y.cluster → channel ≡ other
  pub job : (channel : ℕ) (x : OpenClaim) → (all channel).claim ≡ Some x
      → is_among x.cluster (claimed_by running) ≡ false

-- The clusters in use are the fixed ones, those of the maps, and those of open claims, which are others.
pub record UsedClusters (s : Super) (bits : List Bool) (metas : Metas) (claimed : ℕ → Type 0) : Type 0 where
  pub count : length bits ≡ clusters_of s
  pub fixed : (cluster : ℕ) → cluster < fixed_clusters_of s → cluster < clusters_of s → is_in bits cluster ≡ true
  pub mapped : (cluster : ℕ) → IsMapped metas cluster → is_in bits cluster ≡ true
  pub claimed_too : (cluster : ℕ) → claimed cluster → is_in bits cluster ≡ true
  pub no_other : (cluster : ℕ) → is_in bits cluster ≡ true
      → (cluster < fixed_clusters_of s) ⊎ (IsMapped metas cluster ⊎ claimed cluster)
  pub apart : (cluster : ℕ) → claimed cluster → (fixed_clusters_of s ≤ cluster) × ¬ IsMapped metas cluster
