-- The metadata that the end of an inflate or a decouple makes can be stored.
use Rattle.std.proofs.Common.{◌≡◌, ℕ, ◌<◌, Option, Some, None, length, refl, sym, ap, subst}
use Rattle.std.specs.Prelude.{codes, is_some, IsSome}
use Rattle.std.specs.Option.{option_and_then}
use Rattle.super_block.specs.declared.page.Super.{Super}
use Rattle.blob_meta.specs.declared.meta.Meta.{Meta}
use Rattle.blob_meta.specs.Parents.{parent_of, slot}
use Rattle.inflate_delete.specs.FillJobs.{decoupled_blob, fill_job, inflated_blob}
use Rattle.inflate_delete.specs.Fills.{IsFilled, parent_blob}
use Rattle.inflate_delete.specs.declared.filling.FillKind.{FillKind}
use Rattle.inflate_delete.specs.declared.filling.FillKind.TheVariants.{Inflate, Decouple}
use Rattle.shown_volumes.specs.Maps.{Metas}
use Rattle.shown_volumes.specs.StoredLaws.{AreStoredWell, IsStoredWell}
use Rattle.shown_volumes.proofs.GoodMarks.{given_good, without_good}
use Rattle.shown_volumes.proofs.MapTests.{all_filled}
use Rattle.shown_volumes.proofs.SlotsFilled.{none_empty}
use Rattle.shown_volumes.proofs.WellStored.{
  MeetsTests,
  meets_tests,
  named_given,
  named_none,
  new_is,
  no_hole,
  thick_clear,
  thick_known,
}

module _ (s : Super) (of : ℕ) (old : Meta) (was : MeetsTests s of old) where
  -- thick, where no slot is empty
  inflated : ((i : ℕ) → i < length old.map → IsSome (slot old i)) → MeetsTests s of (inflated_blob old)
  inflated filled = record {
    low = was.low;
    id = was.id;
    clear = thick_clear old.flags was.flags was.clear;
    xattrs = was.xattrs;
    internal = without_good old.internal (codes "SNAP") was.internal;
    flags = thick_known old.flags was.flags was.clear;
    few = was.few;
    inside = was.inside;
    full = no_hole (inflated_blob old).flags old.map (all_filled old.map filled);
    named = named_none old.internal (inflated_blob old) refl;
  }

  -- with the parent's parent
  decoupled : (p : ℕ) (parent : Meta) → MeetsTests s p parent → MeetsTests s of (decoupled_blob old (Some parent))
  decoupled p parent its = record {
    low = was.low;
    id = was.id;
    clear = was.clear;
    xattrs = was.xattrs;
    internal = given_good old.internal parent was.internal its.internal;
    flags = was.flags;
    few = was.few;
    inside = was.inside;
    full = was.full;
    named = named_given old.internal parent (decoupled_blob old (Some parent)) refl its.named;
  }

  -- with none
  orphaned : MeetsTests s of (decoupled_blob old None)
  orphaned = record {
    low = was.low;
    id = was.id;
    clear = was.clear;
    xattrs = was.xattrs;
    internal = without_good old.internal (codes "SNAP") was.internal;
    flags = was.flags;
    few = was.few;
    inside = was.inside;
    full = was.full;
    named = named_none old.internal (decoupled_blob old None) refl;
  }

-- the job of a decouple, over its direct parent
abbrev IsDecoupleStored : Super → ℕ → Meta → Option Meta → Type 0
IsDecoupleStored s of old o = AreStoredWell s (fill_job Decouple of old o)

-- that of each kind
pub fill_stored : (s : Super) (kind : FillKind) (base : Metas) (of : ℕ) (old : Meta) → base of ≡ Some old
    → IsStoredWell s of old
    → ((p : ℕ) (m : Meta) → parent_of old ≡ Some p → base p ≡ Some m → IsStoredWell s p m) → IsFilled base of kind
    → AreStoredWell s (fill_job kind of old (parent_blob base old))
fill_stored s Inflate base of old there is above filled =
    (new_is s of _ (inflated s of old (meets_tests s of old is) (λ i lt. some_in i lt (slot old i) refl)), tt)
  where
    some_in : (i : ℕ) → i < length old.map → (o : Option ℕ) → slot old i ≡ o → IsSome (slot old i)
    some_in i lt None empty = absurd (none_empty base of old there i lt empty filled)
    some_in i lt (Some cluster) at = ap (λ o. is_some o) at
fill_stored s Decouple base of old there is above filled = by (parent_of old) refl
  where
    was : MeetsTests s of old
    was = meets_tests s of old is

    alone : IsDecoupleStored s of old None
    alone = (new_is s of _ (orphaned s of old was), tt)

    found : (p : ℕ) → parent_of old ≡ Some p → (o : Option Meta) → base p ≡ o → IsDecoupleStored s of old o
    found p parent None none = alone
    found p parent (Some m) there_too =
        (new_is s of _ (decoupled s of old was p m (meets_tests s p m (above p m parent there_too))), tt)

    by : (o : Option ℕ) → parent_of old ≡ o → IsDecoupleStored s of old (parent_blob base old)
    by None none = subst (IsDecoupleStored s of old) (sym (ap (option_and_then base) none)) alone
    by (Some p) parent = subst (IsDecoupleStored s of old) (sym (ap (option_and_then base) parent))
        (found p parent (base p) refl)
