-- Each new metadata of the jobs of snapshots, clones and deletes, and of those at the ends of fills, can be stored.
use Rattle.std.proofs.Common.{◌≡◌, ℕ, ◌+◌, ◌^◌, ◌<◌, ◌≤◌, true, false, not, Option, Some, None, List, []}
use Rattle.std.proofs.Common.{length, refl, sym, ap, ◌∙◌, subst, inl, inr, arith}
use Rattle.std.specs.Prelude.{codes, if◌then◌else◌, is_none, is_some, IsSome, replicate}
use Rattle.std.specs.List.{position}
use Rattle.std.specs.Option.{option_and_then, option_map, option_or}
use Rattle.std.proofs.lemmas.Bool.{cases_Bool}
use Rattle.std.proofs.lemmas.Bool.Decides.{nat_tests}
use Rattle.std.proofs.lemmas.List.{length-replicate}
use Rattle.super_block.specs.declared.page.Super.{Super}
use Rattle.super_block.specs.Numbers.{clusters_of as clusters_in, fixed_clusters_of}
use Rattle.volume_model.specs.Xattrs.{Xattrs, value_of}
use Rattle.blob_meta.specs.declared.fault.MetaFault.TheVariants as faults
use Rattle.blob_meta.specs.declared.meta.Meta.{Meta}
use Rattle.blob_meta.specs.Faults.{cluster_outside, hole_in_thick, is_outside, is_thin, too_large}
use Rattle.blob_meta.specs.Faults.{unknown_flag}
use Rattle.blob_meta.specs.Parents.{named_in, parent_of, slot}
use Rattle.blob_meta.specs.Says.{without_bit_1}
use Rattle.snapshots.specs.Marks.{id_bytes, with_named}
use Rattle.snapshots.specs.SnapshotJobs.{begun_snapshot, emptied_volume, filled_snapshot, new_clone}
use Rattle.inflate_delete.specs.DeleteJobs.{going_blob, heir_of}
use Rattle.shown_volumes.specs.Steady.{CanBeWritten, NamesHead}
use Rattle.shown_volumes.specs.StoredLaws.{StoreJobs, IsStoredWell}
use Rattle.shown_volumes.proofs.GoodMarks.{AreGood, given_good, named_good}
use Rattle.shown_volumes.proofs.WellStored.{
  empty_inside,
  MeetsTests,
  meets_tests,
  lifted,
  long_alike,
  named_given,
  new_is,
  no_hole,
  thin_clear,
  thin_full,
  thin_known,
}
use Rattle.shown_volumes.proofs.HeirMaps.{filled_within, long_over, slot_over}
use Rattle.shown_volumes.proofs.Inside.{inside_slot, IsInside, none_of_map}
use Rattle.shown_volumes.proofs.MapTests.{all_filled, all_inside, clear_flags, known_flags, slot_filled}
use Rattle.shown_volumes.proofs.SnapshotShows.{thin_given, thin_set}
use Rattle.shown_volumes.proofs.StoredFills.{fill_stored}
use Rattle.volume_model.proofs.Told.{value_beside, value_set}
use Rattle.shown_volumes.proofs.Valued.{parent_named}

-- no attributes
no_marks : AreGood []
no_marks = record { can = record { names = tt; short = tt }; good = tt }

-- a blob that names another
named_head : (internal : Xattrs) (head : ℕ) (m : Meta) → m.internal ≡ with_named internal (codes "SNAP") head
    → head < 2 ^ 32 → NamesHead m
named_head internal head m is low =
    ap (λ (xs : Xattrs). is_some (value_of xs (codes "SNAP"))) is
    ∙ ap is_some (value_set internal (codes "SNAP") (id_bytes head))
    ∙ ap is_some (sym (parent_named internal head low))
    ∙ ap (λ (xs : Xattrs). is_some (parent_of (record m { internal = xs }))) (sym is)

module _ (s : Super) (few_heads : s.md_len ≤ 2 ^ 32) where
  -- ---- a blob whose slots are all empty

  -- thin, with one blob named, by a key that isn't long
  empty_meets : (head slots : ℕ) (m : Meta) → head < s.md_len → m.id ≡ 2 ^ 32 + head → m.map ≡ replicate slots None
      → without_bit_1 m.flags.invalid ≡ m.flags.invalid → unknown_flag m.flags ≡ None → is_thin m.flags ≡ true
      → CanBeWritten m.xattrs → AreGood m.internal → NamesHead m → (old : List (Option ℕ)) → length old ≡ slots
      → too_large old ≡ None → MeetsTests s head m
  empty_meets head slots m low id map clear flags thin xattrs internal named old long few = record {
    low = low;
    id = id;
    clear = clear;
    xattrs = xattrs;
    internal = internal;
    flags = flags;
    few = long_alike m.map old (ap length map ∙ length-replicate slots None ∙ sym long) few;
    inside = ap (cluster_outside (fixed_clusters_of s) (clusters_in s)) map
        ∙ empty_inside (fixed_clusters_of s) (clusters_in s) slots;
    full = thin_full m.flags m.map thin;
    named = named;
  }

  module _ (of head : ℕ) (old : Meta) (xattrs : Xattrs) (was : MeetsTests s of old) (low : head < s.md_len)
      (can : CanBeWritten xattrs) where
    begun_good : AreGood (with_named [] (codes "SNAPTMP") of)
    begun_good = named_good [] (codes "SNAPTMP") of (omega arith) no_marks

    begun : MeetsTests s head (begun_snapshot of old head xattrs)
    begun = empty_meets head (length old.map) (begun_snapshot of old head xattrs) low refl refl refl refl refl can
        begun_good refl old.map refl was.few

    abbrev filled_meta : Meta
    filled_meta = filled_snapshot of old head xattrs

    -- it has the map of the volume, and is thin where that is
    filled : MeetsTests s head filled_meta
    filled = record {
      low = low;
      id = refl;
      clear = clear_flags (not (is_thin old.flags));
      xattrs = can;
      internal = given_good (with_named [] (codes "SNAPTMP") of) old begun_good was.internal;
      flags = known_flags (not (is_thin old.flags));
      few = was.few;
      inside = was.inside;
      full = ap (λ b. if b then None else option_map faults.HoleInThick (position is_none old.map))
          (thin_given (is_thin old.flags)) ∙ was.full;
      named = named_given (with_named [] (codes "SNAPTMP") of) old filled_meta refl was.named;
    }

    emptied : MeetsTests s of (emptied_volume old head)
    emptied = empty_meets of (length old.map) (emptied_volume old head) was.low was.id refl
        (thin_clear old.flags was.flags was.clear) (thin_known old.flags was.flags was.clear)
        (thin_set old.flags.invalid) was.xattrs
        (named_good old.internal (codes "SNAP") head (omega arith) was.internal)
        (named_head old.internal head (emptied_volume old head) refl (omega (arith, low, few_heads)))
        old.map refl was.few

    cloned : MeetsTests s head (new_clone of old head xattrs)
    cloned = empty_meets head (length old.map) (new_clone of old head xattrs) low refl refl refl refl refl can
        (named_good [] (codes "SNAP") of (omega arith) no_marks)
        (let low_of = was.low in
        named_head [] of (new_clone of old head xattrs) refl (omega (arith, low_of, few_heads)))
        old.map refl was.few

-- ---- deletes

module _ (s : Super) (of clone : ℕ) (old heir : Meta) (was : MeetsTests s of old) (its : MeetsTests s clone heir)
    (outside : (i cluster : ℕ) → slot old i ≡ Some cluster → IsInside (fixed_clusters_of s) (clusters_in s) cluster)
    (outside_too : (i cluster : ℕ) → slot heir i ≡ Some cluster
    → IsInside (fixed_clusters_of s) (clusters_in s) cluster) where
  abbrev fixed : ℕ
  fixed = fixed_clusters_of s

  abbrev clusters : ℕ
  clusters = clusters_in s

  going : MeetsTests s of (going_blob old clone)
  going = record {
    low = was.low;
    id = was.id;
    clear = was.clear;
    xattrs = was.xattrs;
    internal = named_good old.internal (codes "SNAPRM") clone (omega arith) was.internal;
    flags = was.flags;
    few = was.few;
    inside = was.inside;
    full = was.full;
    named =
        ap is_some (value_beside old.internal (codes "SNAPRM") (id_bytes clone) (codes "SNAP") refl) ∙ was.named
        ∙ ap (λ o. is_some (option_and_then named_in o))
        (sym (value_beside old.internal (codes "SNAPRM") (id_bytes clone) (codes "SNAP") refl));
  }

  abbrev taking : Meta
  taking = heir_of heir old

  within : (cluster : ℕ) → IsInside fixed clusters cluster → is_outside fixed clusters cluster ≡ false
  within cluster x = let behind = x.behind in let below = x.below in grind (arith, nat_tests, behind, below)

  of_two : (i cluster : ℕ) (o : Option ℕ) → slot heir i ≡ o → option_or o (slot old i) ≡ Some cluster
      → IsInside fixed clusters cluster
  of_two i cluster None is got = outside i cluster got
  of_two i cluster (Some x) is got = outside_too i cluster (is ∙ got)

  inside : cluster_outside fixed clusters taking.map ≡ None
  inside = ap (option_map faults.ClusterOutside) (all_inside fixed clusters taking.map (λ i cluster at.
      let lt = filled_within taking i cluster at in
      let long = long_over heir old in
      within cluster (of_two i cluster (slot heir i) refl
      (sym (slot_over heir old i (omega (arith, lt, long))) ∙ at))))

  own_first : (o other : Option ℕ) → IsSome o → IsSome (option_or o other)
  own_first None other some = absurd (cc some)
  own_first (Some x) other some = refl

  full : hole_in_thick heir.flags taking.map ≡ None
  full = elim (cases_Bool (is_thin heir.flags)) [
    | inl thin ↦ thin_full heir.flags taking.map thin
    | inr thick ↦
        let none : position is_none heir.map ≡ None = none_of_map faults.HoleInThick (position is_none heir.map)
        (sym (ap (λ b. if b then None else option_map faults.HoleInThick (position is_none heir.map)) thick)
        ∙ its.full) in
        let all : position is_none taking.map ≡ None = all_filled taking.map (λ i lt.
        let long = long_over heir old in
        let less : i < length heir.map = omega (arith, lt, long) in
        subst (λ o. IsSome o) (sym (slot_over heir old i less))
        (own_first (slot heir i) (slot old i) (slot_filled heir.map none i less))) in
        no_hole heir.flags taking.map all
  ]

  took : MeetsTests s clone taking
  took = record {
    low = its.low;
    id = its.id;
    clear = its.clear;
    xattrs = its.xattrs;
    internal = given_good heir.internal old its.internal was.internal;
    flags = its.flags;
    few = long_alike taking.map heir.map (long_over heir old) its.few;
    inside = inside;
    full = full;
    named = named_given heir.internal old taking refl was.named;
  }

-- a replacement that erases a blob
none_new : (s : Super) (head : ℕ) (m : Meta) → None ≡ Some m → IsStoredWell s head m
none_new s head m is = absurd (cc is)

-- a slot of a blob that is stored well
slot_inside : (s : Super) (head : ℕ) (m : Meta) → IsStoredWell s head m → (i cluster : ℕ) → slot m i ≡ Some cluster
    → IsInside (fixed_clusters_of s) (clusters_in s) cluster
slot_inside s head m x i cluster at =
    inside_slot (fixed_clusters_of s) (clusters_in s) m i cluster x.stored.faultless at

-- the laws
pub jobs_stored : (s : Super) → StoreJobs s
jobs_stored s = record {
  snapshot = λ of head old xattrs is low can few.
      let was = meets_tests s of old is in (
        new_is s head _ (begun s few of head old xattrs was low can),
        (
          new_is s head _ (filled s few of head old xattrs was low can),
          (
            new_is s of _ (emptied s few of head old xattrs was low can),
            (new_is s head _ (lifted s head _ (filled s few of head old xattrs was low can)), tt),
          ),
        ),
      );
  clone = λ of head old xattrs is low can few.
      (new_is s head _ (cloned s few of head old xattrs (meets_tests s of old is) low can), tt);
  erase = λ of. (none_new s of, tt);
  delete = λ of clone old heir is is_too.
      let was = meets_tests s of old is in
      let its = meets_tests s clone heir is_too in
      let a = slot_inside s of old is in
      let b = slot_inside s clone heir is_too in (
        new_is s of _ (going s of clone old heir was its a b),
        (new_is s clone _ (took s of clone old heir was its a b), (none_new s of, tt)),
      );
  fill = fill_stored s;
}
