-- Which metadata a store can have: the first test that fails.
use Rattle.std.specs.Prelude.{◌≡◌, ℕ, ◌-◌, ◌*◌, ◌/◌, ◌%◌, ◌^◌, ◌==◌, nat_lt, nat_le, Bool, ◌&&◌, ◌||◌, not, is_none}
use Rattle.std.specs.Prelude.{if◌then◌else◌, List, [], ◌∷◌, length, find, position, codes, Option, Some, None}
use Rattle.std.specs.List.{filter_map}
use Rattle.std.specs.Option.{option_map}
use Rattle.std.specs.Str.{bytes_eq}
use Rattle.volume_model.specs.declared.text.Xattr.{Xattr}
use Rattle.descriptors.specs.Runs.{at_most}
use Rattle.blob_meta.specs.declared.meta.Flags.{Flags}
use Rattle.blob_meta.specs.declared.meta.Meta.{Meta}
use Rattle.blob_meta.specs.declared.fault.MetaFault.{MetaFault}
use Rattle.blob_meta.specs.declared.fault.MetaFault.TheVariants as faults

-- the first of some answers that there is
abbrev pub first_some : {X : Type 0} → List (Option X) → Option X
first_some [] = None
first_some (None ∷ rest) = first_some rest
first_some (Some x ∷ rest) = Some x

-- all bits but 0 and 1 of `invalid` are unknown
abbrev pub unknown_flag : Flags → Option MetaFault
unknown_flag f = if f.invalid / 4 == 0 then None else Some (faults.UnknownFlag (f.invalid / 4 * 4))

-- at most 2^20 slots
abbrev pub too_large : List (Option ℕ) → Option MetaFault
too_large map = if nat_le (length map) (2 ^ 20) then None else Some
    (faults.TooLarge (at_most (2 ^ 64 - 1) (length map)))

-- each cluster lies from `fixed` on and below `clusters`
abbrev pub is_outside : ℕ → ℕ → ℕ → Bool
is_outside fixed clusters cluster = nat_lt cluster fixed || nat_le clusters cluster

-- the clusters that slots hold
abbrev pub clusters_held : List (Option ℕ) → List ℕ
clusters_held map = filter_map (λ slot. slot) map

-- the first cluster that a blob may not have
abbrev pub cluster_outside : ℕ → ℕ → List (Option ℕ) → Option MetaFault
cluster_outside fixed clusters map = option_map faults.ClusterOutside
    (find (is_outside fixed clusters) (clusters_held map))

-- a blob that isn't thin has no empty slot
abbrev pub is_thin : Flags → Bool
is_thin f = f.invalid % 2 == 1

-- the first empty slot of a thick blob
abbrev pub hole_in_thick : Flags → List (Option ℕ) → Option MetaFault
hole_in_thick f map = if is_thin f then None else option_map faults.HoleInThick (position is_none map)

-- the marks name a blob by 8 bytes
abbrev pub is_mark : List ℕ → Bool
is_mark key = bytes_eq key (codes "SNAP") || bytes_eq key (codes "SNAPTMP") || bytes_eq key (codes "SNAPRM")

-- a mark whose value isn't 8 bytes long
abbrev pub is_bad_mark : Xattr → Bool
is_bad_mark x = is_mark x.key && not (length x.value == 8)

-- the first such mark
abbrev pub bad_mark : List Xattr → Option MetaFault
bad_mark internal = option_map (λ x. faults.BadMark x.key (at_most (2 ^ 32 - 1) (length x.value)))
    (find is_bad_mark internal)

-- the two faults of a map alone
abbrev pub map_fault : ℕ → ℕ → List (Option ℕ) → Option MetaFault
map_fault fixed clusters map = first_some (too_large map ∷ cluster_outside fixed clusters map ∷ [])

-- The fault of metadata in a store with so many fixed clusters and clusters in all, if it has one.
abbrev pub meta_fault : ℕ → ℕ → Meta → Option MetaFault
meta_fault fixed clusters m = first_some (unknown_flag m.flags ∷ map_fault fixed clusters m.map
    ∷ hole_in_thick m.flags m.map ∷ bad_mark m.internal ∷ [])

-- a fault that is answered is the first one; want of memory may come anywhere
abbrev pub IsMetaFaultOf : MetaFault → Option MetaFault → Type 0
IsMetaFaultOf faults.Memory first = Unit {0}
IsMetaFaultOf fault first = first ≡ Some fault
