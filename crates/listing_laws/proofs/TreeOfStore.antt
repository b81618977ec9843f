-- The volumes of a store, as a tree has them.
use Rattle.std.proofs.Common.{◌≡◌, ℕ, zero, suc, ◌+◌, ◌≤◌, Bool, true, false, if◌then◌else◌, List, [], ◌∷◌, ◌++◌}
use Rattle.std.proofs.Common.{Option, Some, None, map as each, refl, arith}
use Rattle.std.specs.List.{AllByRecursion, flat_map, range_with_len}
use Rattle.std.specs.Option.{option_map_or}
use Rattle.std.specs.FinMap as map
use Rattle.super_block.specs.declared.masks.Masks.{Masks}
use Rattle.super_block.specs.declared.page.Super.{Super}
use Rattle.volume_model.specs.Volumes.{is_given_head}
use Rattle.blob_meta.specs.Parents.{head_of_id}
use Rattle.blob_meta.specs.Resolving.{IsLawful}
use Rattle.blob_meta.specs.declared.meta.Meta.{Meta}
use Rattle.blob_report.specs.StoreText.{MetasByHead}
use Rattle.listing_text.specs.Forest.{forest_of, Node}
use Rattle.listing_text.specs.Listing.{listing_in, volume_at, volume_facts, VolumeFacts}
use Rattle.listing_text.specs.Tree.{node_by}
use Rattle.listing_laws.specs.Trees.{IsForestOf, RiseFrom}
use Rattle.listing_laws.proofs.BelowParents.{Falls, is_forest}

rise_from_lower : (low high : ℕ) → low ≤ high → (ns : List Node) → RiseFrom high ns → RiseFrom low ns
rise_from_lower low high le [] rise = tt
rise_from_lower low high le (n ∷ ns) rise = let at = rise.0 in (omega (arith, le, at), rise.1)

-- the volume at a head, by whether it is the super blob, and by its metadata
abbrev volume_by : ℕ → Bool → Option Meta → List VolumeFacts
volume_by head is_super o = if is_super then [] else option_map_or (λ m. volume_facts head m ∷ []) o []

rise_by : (head : ℕ) (is_super : Bool) (o : Option Meta) (rest : List VolumeFacts)
    → RiseFrom (head + 1) (each node_by rest) → RiseFrom head (each node_by (volume_by head is_super o ++ rest))
rise_by head true o rest rise = rise_from_lower head (head + 1) (omega arith) (each node_by rest) rise
rise_by head false None rest rise = rise_from_lower head (head + 1) (omega arith) (each node_by rest) rise
rise_by head false (Some m) rest rise = (omega arith, rise)

module _ (sup : Super) (metas : MetasByHead) (lawful : IsLawful sup.md_len (map.get metas)) where
  rise : (head count : ℕ) → RiseFrom head (each node_by (flat_map (volume_at sup metas) (range_with_len head count)))
  rise head zero = tt
  rise head (suc count) =
      rise_by head (is_given_head head (head_of_id sup.super_blob)) (map.get metas head)
      (flat_map (volume_at sup metas) (range_with_len (head + 1) count)) (rise (head + 1) count)

  falls_by : (head : ℕ) (is_super : Bool) (o : Option Meta) → map.get metas head ≡ o → (rest : List VolumeFacts)
      → AllByRecursion (Falls lawful.rank) (each node_by rest)
      → AllByRecursion (Falls lawful.rank) (each node_by (volume_by head is_super o ++ rest))
  falls_by head true o is rest all = all
  falls_by head false None is rest all = all
  falls_by head false (Some m) is rest all = (λ p parent. lawful.falls head p m is parent, all)

  falls : (head count : ℕ)
      → AllByRecursion (Falls lawful.rank) (each node_by (flat_map (volume_at sup metas) (range_with_len head count)))
  falls head zero = tt
  falls head (suc count) =
      falls_by head (is_given_head head (head_of_id sup.super_blob)) (map.get metas head) refl
      (flat_map (volume_at sup metas) (range_with_len (head + 1) count)) (falls (head + 1) count)

-- each volume once, below its parent
pub tree_of_store : (sup : Super) (metas : MetasByHead) (masks : Masks) → IsLawful sup.md_len (map.get metas)
    → let nodes = each node_by (listing_in sup metas masks).volumes in IsForestOf nodes (forest_of nodes)
tree_of_store sup metas masks lawful =
    is_forest lawful.rank (each node_by (listing_in sup metas masks).volumes) (falls sup metas lawful 0 sup.md_len)
    (rise sup metas lawful 0 sup.md_len)
