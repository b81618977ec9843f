-- A replacement whose commit, if it is one, shows no other blob otherwise can be kept in memory.
use Rattle.std.proofs.Common.{◌≡◌, ◌≢◌, ◌∙◌, ℕ, Bool, Option, None, IfSome, IsSome, sym, ap, subst}
use Rattle.std.specs.Prelude.{if◌then◌else◌, is_some}
use Rattle.std.specs.FinMap as map
use Rattle.blob_meta.specs.declared.meta.Meta.{Meta}
use Rattle.blob_meta.specs.Repairs.{HasNoMarks}
use Rattle.blob_meta.specs.Resolving.{mark_of, resolved}
use Rattle.store_model.specs.Maps.{with_entry, without_entry}
use Rattle.running_store.specs.Blobs.{metas_given, marked_given, shows_of, Blobs, CanBeKept, HasPlaces}
use Rattle.running_store.specs.Blobs.{HasPlacesFor}
use Rattle.running_store.specs.Places.{with_changes}
use Rattle.running_store.specs.StoreView.{base_of, AreResolved}
use Rattle.running_store.specs.declared.entries.EntryChange.{EntryChange}
use Rattle.running_store.specs.declared.replacements.Change.TheVariants as change
use Rattle.running_store.specs.declared.replacements.Erasure.{Erasure}
use Rattle.running_store.specs.declared.replacements.Planned.{Planned}
use Rattle.running_store.proofs.Resolved.{resolved_behind, still_marked, will_resolve}
use Rattle.running_store.proofs.Without.{base_gone}

abbrev ShowsAnother : Blobs → ℕ → Option (EntryChange Meta) → Type 0
ShowsAnother b head o = IfSome o (λ other. (other.head ≢ head) × IsSome (map.get b.marked other.head))

-- new metadata without a mark, with which the device's metadata resolves to what the store has in memory then
pub kept_given : (b : Blobs) (p : Planned) → AreResolved b.metas b.marked → mark_of p.new ≡ None
    → resolved (with_entry (base_of b.metas b.marked) p.head p.new) ≡ map.get (map.insert b.metas p.head p.new)
    → shows_of p.effects.commit ≡ None → HasPlaces b p.head p.new p.effects → CanBeKept b (change.Writes p)
kept_given b p are unmarked will none places = record {
  places = places;
  shows = subst (ShowsAnother b p.head) (sym none) tt;
  resolved = subst (λ (o : Option (EntryChange Meta)). AreResolved (with_changes (metas_given b.metas p.head p.new) o)
      (marked_given b.marked p.head p.new)) (sym none)
      (subst (λ (m : Bool). AreResolved (if m then b.metas else map.insert b.metas p.head p.new)
      (if m then map.insert b.marked p.head p.new else map.remove b.marked p.head)) (sym (ap is_some unmarked))
      (resolved_behind b.metas b.marked p.head p.new are will));
}

-- so it is where no blob has a mark
pub kept_unmarked : (b : Blobs) (p : Planned) → AreResolved b.metas b.marked
    → HasNoMarks (base_of b.metas b.marked) → mark_of p.new ≡ None → shows_of p.effects.commit ≡ None
    → HasPlaces b p.head p.new p.effects → CanBeKept b (change.Writes p)
kept_unmarked b p are clean unmarked none places = kept_given b p are unmarked
    (will_resolve b.metas b.marked p.head p.new are clean unmarked) none places

-- a blob that is erased
pub kept_without : (b : Blobs) (e : Erasure) → AreResolved b.metas b.marked
    → resolved (without_entry (base_of b.metas b.marked) e.head) ≡ map.get (map.remove b.metas e.head)
    → shows_of e.commit ≡ None → HasPlacesFor b (change.Erases e) → CanBeKept b (change.Erases e)
kept_without b e are will none places = record {
  places = places;
  shows = subst (ShowsAnother b e.head) (sym none) tt;
  resolved = subst (λ (o : Option (EntryChange Meta)). AreResolved (with_changes (map.remove b.metas e.head) o)
      (map.remove b.marked e.head)) (sym none) (record {
        marks = still_marked b.metas b.marked e.head are;
        resolves = ap resolved (base_gone b.metas b.marked e.head) ∙ will;
      });
}
