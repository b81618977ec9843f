-- The marks of the metadata that jobs of several replacements write, and what a store between jobs has in memory.
use Rattle.std.proofs.Common.{◌≡◌, ◌∙◌, ℕ, Some, None, [], sym, ap}
use Rattle.std.specs.Prelude.{codes}
use Rattle.std.specs.Option.{option_map_or}
use Rattle.std.specs.Ordering.{nat_cmp}
use Rattle.std.specs.FinMap as map
use Rattle.volume_model.specs.Xattrs.{value_of, Text, Xattrs}
use Rattle.blob_meta.specs.declared.meta.Meta.{Meta}
use Rattle.blob_meta.specs.Repairs.{HasNoMarks}
use Rattle.blob_meta.specs.Resolving.{mark_of}
use Rattle.snapshots.specs.Marks.{id_bytes, with_named}
use Rattle.snapshots.specs.SnapshotJobs.{emptied_volume, filled_snapshot}
use Rattle.inflate_delete.specs.DeleteJobs.{going_blob, heir_of}
use Rattle.volume_model.proofs.Told.{value_set}
use Rattle.shown_volumes.proofs.Valued.{mark_given, mark_named}
use Rattle.store_model.proofs.Resolved.{unmarked_resolved}
use Rattle.running_store.specs.StoreView.{base_of, AreResolved}

-- a snapshot with its volume's map is still marked,
pub filled_mark : (of : ℕ) (old : Meta) (head : ℕ) (xattrs : Xattrs)
    → mark_of (filled_snapshot of old head xattrs) ≡ Some (id_bytes of)
filled_mark of old head xattrs = mark_given (with_named [] (codes "SNAPTMP") of) old

-- and the volume has no mark where it had none
pub emptied_mark : (old : Meta) (head : ℕ) → mark_of old ≡ None → mark_of (emptied_volume old head) ≡ None
emptied_mark old head none = mark_named old.internal head ∙ none

-- a blob that is being removed is marked,
pub going_mark : (old : Meta) (clone : ℕ) → mark_of (going_blob old clone) ≡ Some (id_bytes clone)
going_mark old clone = ap (λ o. option_map_or (λ (bytes : Text). Some bytes) o
    (value_of (with_named old.internal (codes "SNAPRM") clone) (codes "SNAPTMP")))
    (value_set old.internal (codes "SNAPRM") (id_bytes clone))

-- and its clone has no mark where it had none
pub taking_mark : (heir old : Meta) → mark_of heir ≡ None → mark_of (heir_of heir old) ≡ None
taking_mark heir old none = mark_given heir.internal old ∙ none

-- Where no blob has a mark the store has in memory what the device says.
pub in_memory : (metas marked : map.FinMap nat_cmp Meta) → AreResolved metas marked
    → HasNoMarks (base_of metas marked) → map.get metas ≡ base_of metas marked
in_memory metas marked are none = sym are.resolves ∙ unmarked_resolved (base_of metas marked) none
