-- The parts of a request for pages, one for each cluster.
use Rattle.std.specs.Prelude.{◌≡◌, ℕ, zero, suc, ◌+◌, ◌-◌, ◌*◌, ◌/◌, ◌%◌, ◌<◌, ◌≤◌, ◌==◌, if◌then◌else◌, min, List, []}
use Rattle.std.specs.Prelude.{◌∷◌, ◌++◌, length, map}
use Rattle.std.specs.List.{AllByRecursion, range_with_len}
use Rattle.data_path.specs.declared.splitting.Part.{Part}

-- with so many pages in a cluster
module _ (cluster_pages : ℕ) where
  -- how many pages of a request for so many lie in the first one's cluster
  abbrev pub in_cluster : ℕ → ℕ → ℕ
  in_cluster page count = min count (cluster_pages - page % cluster_pages)

  -- what lies in it
  abbrev pub first_part : ℕ → ℕ → Part
  first_part page count =
      record { slot = page / cluster_pages; first = page % cluster_pages; count = in_cluster page count }

  -- so many parts at most, one behind the other
  abbrev pub parts_of : ℕ → ℕ → ℕ → List Part
  parts_of zero page count = []
  parts_of (suc times) page count =
      if count == 0 then []
      else first_part page count
      ∷ parts_of times (page + in_cluster page count) (count - in_cluster page count)

  -- the pages of parts, in order
  abbrev pub pages_of : List Part → List ℕ
  pages_of [] = []
  pages_of (part ∷ parts) = range_with_len (part.slot * cluster_pages + part.first) part.count ++ pages_of parts

  -- some pages, all of one cluster
  pub record IsWithin (part : Part) : Type 0 where
    pub some : 0 < part.count
    pub inside : part.first + part.count ≤ cluster_pages

  -- The parts of a request for so many pages: the pages of the request, in order, each once; each part lies within one
  -- cluster; and the clusters follow one another, a part for each.
  pub record IsSplit (page count : ℕ) (parts : List Part) : Type 0 where
    pub pages : pages_of parts ≡ range_with_len page count
    pub within : AllByRecursion IsWithin parts
    pub clusters : map (λ part. part.slot) parts ≡ range_with_len (page / cluster_pages) (length parts)
