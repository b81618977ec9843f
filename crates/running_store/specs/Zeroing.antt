-- How far a job has overwritten its claimed clusters with zeros.
use Rattle.std.specs.Prelude.{ℕ, ◌+◌, ◌-◌, ◌*◌, ◌<◌, List, [], ◌∷◌, ◌++◌, drop, length, map, slice_index_or}
use Rattle.std.specs.List.{flat_map, range_with_len}
use Rattle.store_model.specs.Phases.{Phase, Zeros}
use Rattle.running_store.specs.declared.job.Zeroed.{Zeroed}

-- all pages of clusters of so many pages each
abbrev pub pages_of : ℕ → List ℕ → List ℕ
pages_of cluster_pages clusters =
    flat_map (λ cluster. range_with_len (cluster * cluster_pages) cluster_pages) clusters

-- those of them that come from so many pages of the first cluster on
abbrev pub zeroed_from : ℕ → List ℕ → ℕ → List ℕ
zeroed_from cluster_pages [] done = []
zeroed_from cluster_pages (cluster ∷ clusters) done =
    range_with_len (cluster * cluster_pages + done) (cluster_pages - done) ++ pages_of cluster_pages clusters

-- what is left to be overwritten of the claimed clusters
abbrev pub zeros_from : List ℕ → Zeroed → List Phase
zeros_from claimed z = map Zeros (zeroed_from z.cluster_pages (drop z.clusters claimed) z.pages)

-- the page that comes next
abbrev pub next_zeroed : List ℕ → Zeroed → ℕ
next_zeroed claimed z = slice_index_or claimed z.clusters 0 * z.cluster_pages + z.pages

-- a page is left
pub record IsLeft (claimed : List ℕ) (z : Zeroed) : Type 0 where
  pub clusters : z.clusters < length claimed
  pub pages : z.pages < z.cluster_pages
