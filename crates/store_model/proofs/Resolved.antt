-- The metadata that is shown, by that which the device says: each blob is one that is there, as it is or without its
-- marks, so that the store can hold it where it can hold all that is there.
use Rattle.std.proofs.Common.{◌≡◌, ◌⊎◌, ℕ, Bool, true, false, List, Option, Some}
use Rattle.std.proofs.Common.{None, refl}
use Rattle.std.proofs.Common.{sym, ◌∙◌, ap, subst, inl, inr}
use Rattle.std.specs.Prelude.{codes, if◌then◌else◌}
use Rattle.std.specs.Option.{option_and_then, option_map_or}
use Rattle.std.proofs.Math.Path.{fun_ext}
use Rattle.super_block.specs.declared.page.Super.{Super}
use Rattle.volume_model.specs.Xattrs.{without}
use Rattle.blob_meta.specs.declared.meta.Meta.{Meta}
use Rattle.blob_meta.specs.Parents.{slot}
use Rattle.blob_meta.specs.Repairs.{HasNoMarks}
use Rattle.blob_meta.specs.Resolving.{is_kept, mark_of, resolved, resolved_one, without_marks}
use Rattle.store_model.specs.Maps.{Metas}
use Rattle.shown_volumes.proofs.GoodMarks.{AreGood, good_of, none_bad, without_good}
use Rattle.shown_volumes.proofs.MapTests.{all_pass, passes}
use Rattle.store_model.specs.Places.{IsMapped}
use Rattle.store_model.specs.Regions.{region_of}
use Rattle.store_model.specs.Steady.{AreNamed, AreSteady, AreStored, IsStored}

-- ---- metadata without marks is resolved as it is

as_it_is : (metas : Metas) (head : ℕ) (o : Option Meta) → metas head ≡ o → ((m : Meta) → o ≡ Some m → mark_of m ≡ None)
    → resolved metas head ≡ o
as_it_is metas head None is none = rw is refl
as_it_is metas head (Some m) is none = rw (is, none m refl) refl

-- metadata without marks resolves to itself
pub unmarked_resolved : (metas : Metas) → HasNoMarks metas → resolved metas ≡ metas
unmarked_resolved metas none = fun_ext (λ head. as_it_is metas head (metas head) refl (none head))

-- so does metadata of steady blobs
pub steady_resolved : (s : Super) (metas : Metas) → AreSteady s metas → resolved metas ≡ metas
steady_resolved s metas steady = unmarked_resolved metas (λ head m is. (steady head m is).unmarked)

-- metadata that is stored and has no marks is steady, where each SNAP names a head
pub steady_unmarked : (s : Super) (metas : Metas) → AreStored s metas → AreNamed (resolved metas) → HasNoMarks metas
    → AreSteady s metas
steady_unmarked s metas stored named none head m is = record {
  stored = stored head m is;
  named = named head m (ap (λ (x : Metas). x head) (unmarked_resolved metas none) ∙ is);
  unmarked = none head m is;
}

-- ---- a resolved blob

-- a blob that is there, as it is or without its marks
pub record IsOf (metas : Metas) (head : ℕ) (m : Meta) : Type 0 where
  pub old : Meta
  pub there : metas head ≡ Some old
  pub is : (m ≡ old) ⊎ (m ≡ without_marks old)

-- it has the map that it had
pub map_of : (metas : Metas) (head : ℕ) (m : Meta) (o : IsOf metas head m) → m.map ≡ o.old.map
map_of metas head m o = elim o.is [
  | inl e ↦ ap (λ (n : Meta). n.map) e
  | inr e ↦ ap (λ (n : Meta). n.map) e
]

-- each resolved blob is one that is there
pub resolved_of : (metas : Metas) (head : ℕ) (m : Meta) → resolved metas head ≡ Some m → IsOf metas head m
resolved_of metas head m = by (metas head) refl
  where
    chosen : (old : Meta) (b : Bool) → (if b then Some (without_marks old) else None) ≡ Some m → m ≡ without_marks old
    chosen old true is = let e : without_marks old ≡ m = cc is in sym e
    chosen old false is = absurd (cc is)

    kept : (old : Meta) (o : Option (List ℕ))
        → option_map_or (λ mark. if is_kept metas head mark then Some (without_marks old) else None) o (Some old)
        ≡ Some m → (m ≡ old) ⊎ (m ≡ without_marks old)
    kept old None is = inl (let e : old ≡ m = cc is in sym e)
    kept old (Some mark) is = inr (chosen old (is_kept metas head mark) is)

    by : (o : Option Meta) → metas head ≡ o → option_and_then (resolved_one metas head) o ≡ Some m → IsOf metas head m
    by None there is = absurd (cc is)
    by (Some old) there is = record { old = old; there = there; is = kept old (mark_of old) is }

-- with the same map the same slots have the same clusters
pub slot_of : (m old : Meta) (i cluster : ℕ) → m.map ≡ old.map → slot m i ≡ Some cluster → slot old i ≡ Some cluster
slot_of m old i cluster same at = sym (rw same refl) ∙ at

-- a cluster that a resolved blob has is one of the blob that is there
pub resolved_mapped : (metas : Metas) (cluster : ℕ) → IsMapped (resolved metas) cluster → IsMapped metas cluster
resolved_mapped metas cluster x =
    let o = resolved_of metas x.head x.meta x.there in
    record {
      head = x.head;
      meta = o.old;
      there = o.there;
      place = x.place;
      in_slot = slot_of x.meta o.old x.place cluster (map_of metas x.head x.meta o) x.in_slot;
    }

-- ---- what the store can hold

-- without its marks a blob can be held still
pub lifted_stored : (s : Super) (head : ℕ) (m : Meta) → IsStored s head m → IsStored s head (without_marks m)
lifted_stored s head m x =
    let was = passes (region_of s).fixed (region_of s).clusters m x.faultless in
    let good : AreGood (without_marks m).internal =
    without_good (without m.internal (codes "SNAPRM")) (codes "SNAPTMP") (without_good m.internal (codes "SNAPRM")
    (record { can = x.internal; good = good_of m.internal was.marks })) in
    record {
      low = x.low;
      id = x.id;
      clear = x.clear;
      xattrs = x.xattrs;
      internal = good.can;
      faultless = all_pass _ _ _ _ was.flags (rw (was.few, was.map) refl) was.full
          (none_bad (without_marks m).internal good.good);
    }

-- so can all resolved metadata
pub resolved_stored : (s : Super) (metas : Metas) → AreStored s metas → AreStored s (resolved metas)
resolved_stored s metas stored head m is =
    let o = resolved_of metas head m is in
    let was : IsStored s head o.old = stored head o.old o.there in
    elim o.is [
      | inl e ↦ subst (IsStored s head) (sym e) was
      | inr e ↦ subst (IsStored s head) (sym e) (lifted_stored s head o.old was)
    ]
