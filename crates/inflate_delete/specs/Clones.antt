-- The clones of a blob, by metadata.
use Rattle.std.specs.Prelude.{◌≡◌, ℕ, ◌≤◌, ◌<◌, ◌^◌, Bool, false, IsSome, List, [], ◌∷◌, Option, None}
use Rattle.std.specs.List.{filter, range_with_len}
use Rattle.std.specs.Option.{option_map_or}
use Rattle.std.specs.Ordering.{nat_cmp}
use Rattle.std.specs.FinMap as map
use Rattle.volume_model.specs.Volumes.{is_given_head}
use Rattle.blob_meta.specs.declared.meta.Meta.{Meta}
use Rattle.blob_meta.specs.Parents.{parent_of}

-- the parent of the blob at one head is the one at another
abbrev pub is_clone : (ℕ → Option Meta) → ℕ → ℕ → Bool
is_clone metas head k = option_map_or (λ m. is_given_head head (parent_of m)) (metas k) false

-- the heads of all clones of a blob, in a store with so many metadata pages
abbrev pub clones_below : ℕ → (ℕ → Option Meta) → ℕ → List ℕ
clones_below md_len metas head = filter (is_clone metas head) (range_with_len 0 md_len)

module _ (metas : map.FinMap nat_cmp Meta) where
  -- the same whatever the number of metadata pages, of at most 2^32, below which all heads are
  abbrev pub AreClones : ℕ → List ℕ → Type 0
  AreClones head clones = (md_len : ℕ) → md_len ≤ 2 ^ 32 → ((h : ℕ) → IsSome (map.get metas h) → h < md_len)
      → clones_below md_len (map.get metas) head ≡ clones

  -- the metadata of the one clone, if there is one alone
  abbrev pub only_blob : List ℕ → Option Meta
  only_blob (k ∷ []) = map.get metas k
  only_blob _ = None
