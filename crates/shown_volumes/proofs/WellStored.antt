-- Metadata that the store can hold, by its tests; and the flags and names of what jobs make.
use Rattle.std.proofs.Common.{◌≡◌, ℕ, ◌+◌, ◌-◌, ◌*◌, ◌/◌, ◌^◌, ◌<◌, ◌==◌, true, Option, Some, None, List}
use Rattle.std.proofs.Common.{length, refl, sym, ap, ◌∙◌, subst, inl, inr, arith}
use Rattle.std.specs.Prelude.{codes, find, if◌then◌else◌, is_none, is_some, nat_le, replicate}
use Rattle.std.specs.List.{position}
use Rattle.std.specs.Option.{option_map}
use Rattle.std.proofs.lemmas.Bool.{cases_Bool, eqb-true}
use Rattle.super_block.specs.declared.page.Super.{Super}
use Rattle.super_block.specs.Numbers.{clusters_of as clusters_in, fixed_clusters_of}
use Rattle.descriptors.specs.Runs.{at_most}
use Rattle.volume_model.specs.Xattrs.{Xattrs, value_of, without}
use Rattle.blob_meta.specs.declared.fault.MetaFault.TheVariants as faults
use Rattle.blob_meta.specs.declared.meta.Flags.{Flags}
use Rattle.blob_meta.specs.declared.meta.Meta.{Meta}
use Rattle.blob_meta.specs.Faults.{cluster_outside, hole_in_thick, is_outside, is_thin, map_fault}
use Rattle.blob_meta.specs.Faults.{too_large, unknown_flag}
use Rattle.blob_meta.specs.Parents.{parent_of}
use Rattle.blob_meta.specs.Resolving.{without_marks}
use Rattle.blob_meta.specs.Says.{without_bit_1}
use Rattle.blob_meta.proofs.MarksLifted.{same_parent}
use Rattle.snapshots.specs.Marks.{with_parent_of}
use Rattle.shown_volumes.specs.Steady.{CanBeWritten, NamesHead}
use Rattle.shown_volumes.specs.StoredLaws.{IsStoredWell}
use Rattle.shown_volumes.proofs.EmptyMaps.{none_in}
use Rattle.shown_volumes.proofs.MapTests.{all_pass, passes}
use Rattle.shown_volumes.proofs.GoodMarks.{AreGood, good_of, none_bad, without_good}
use Rattle.volume_model.proofs.Told.{value_without}
use Rattle.shown_volumes.proofs.Valued.{none_without, parent_given, parent_without, snap_given}

-- All that is asked of metadata which the store holds.
pub record MeetsTests (s : Super) (head : ℕ) (m : Meta) : Type 0 where
  pub low : head < s.md_len
  pub id : m.id ≡ 2 ^ 32 + head
  pub clear : without_bit_1 m.flags.invalid ≡ m.flags.invalid
  pub xattrs : CanBeWritten m.xattrs
  pub internal : AreGood m.internal
  pub flags : unknown_flag m.flags ≡ None
  pub few : too_large m.map ≡ None
  pub inside : cluster_outside (fixed_clusters_of s) (clusters_in s) m.map ≡ None
  pub full : hole_in_thick m.flags m.map ≡ None
  pub named : NamesHead m

pub stored_well : (s : Super) (head : ℕ) (m : Meta) → MeetsTests s head m → IsStoredWell s head m
stored_well s head m x = record {
  stored = record {
    low = x.low;
    id = x.id;
    clear = x.clear;
    xattrs = x.xattrs;
    internal = x.internal.can;
    faultless = all_pass _ _ _ _ x.flags map x.full (none_bad m.internal x.internal.good);
  };
  named = x.named;
}
  where
    map : map_fault (fixed_clusters_of s) (clusters_in s) m.map ≡ None
    map = rw (x.few, x.inside) refl

-- so a replacement's new metadata is stored well
pub new_is : (s : Super) (head : ℕ) (new : Meta) → MeetsTests s head new → (m : Meta) → Some new ≡ Some m
    → IsStoredWell s head m
new_is s head new x m is = subst (IsStoredWell s head) (cc is) (stored_well s head new x)

pub meets_tests : (s : Super) (head : ℕ) (m : Meta) → IsStoredWell s head m → MeetsTests s head m
meets_tests s head m x =
    let was = passes (fixed_clusters_of s) (clusters_in s) m x.stored.faultless in
    record {
      low = x.stored.low;
      id = x.stored.id;
      clear = x.stored.clear;
      xattrs = x.stored.xattrs;
      internal = record { can = x.stored.internal; good = good_of m.internal was.marks };
      flags = was.flags;
      few = was.few;
      inside = was.map;
      full = was.full;
      named = x.named;
    }

-- ---- maps

-- a map that is as long as another is as few
pub long_alike : (xs ys : List (Option ℕ)) → length xs ≡ length ys → too_large ys ≡ None → too_large xs ≡ None
long_alike xs ys same none =
    ap (λ n. if nat_le n (2 ^ 20) then None else Some (faults.TooLarge (at_most (2 ^ 64 - 1) n))) same ∙ none

-- one of empty slots has no cluster outside
pub empty_inside : (fixed clusters n : ℕ) → cluster_outside fixed clusters (replicate n None) ≡ None
empty_inside fixed clusters n = ap (λ cs. option_map faults.ClusterOutside (find (is_outside fixed clusters) cs))
    (none_in n)

-- a thin blob may have holes
pub thin_full : (f : Flags) (map : List (Option ℕ)) → is_thin f ≡ true → hole_in_thick f map ≡ None
thin_full f map thin = ap (λ b. if b then None else option_map faults.HoleInThick (position is_none map)) thin

-- one without a hole needn't be thin
pub no_hole : (f : Flags) (map : List (Option ℕ)) → position is_none map ≡ None → hole_in_thick f map ≡ None
no_hole f map none = elim (cases_Bool (is_thin f)) [
  | inl thin ↦ thin_full f map thin
  | inr thick ↦ ap (λ b. if b then None else option_map faults.HoleInThick (position is_none map)) thick
      ∙ ap (option_map faults.HoleInThick) none
]

-- ---- flags

-- a blob that is made thin, or thick
module _ (f : Flags) (known : unknown_flag f ≡ None) (clear : without_bit_1 f.invalid ≡ f.invalid) where
  low : f.invalid / 4 ≡ 0
  low = elim (cases_Bool (f.invalid / 4 == 0)) [
    | inl is ↦ eqb-true (f.invalid / 4) 0 is
    | inr isnt ↦
        let bad : Some (faults.UnknownFlag (f.invalid / 4 * 4)) ≡ None = sym (rw isnt refl) ∙ known in absurd (cc bad)
  ]

  no_bit : f.invalid / 2 * 2 ≡ 0
  no_bit = omega (arith, low, clear)

  one_bit : f.invalid / 2 * 2 + 1 ≡ 1
  one_bit = omega (arith, no_bit)

  pub thin_clear : without_bit_1 (f.invalid / 2 * 2 + 1) ≡ f.invalid / 2 * 2 + 1
  thin_clear = ap without_bit_1 one_bit ∙ sym one_bit

  pub thin_known : unknown_flag (record f { invalid = f.invalid / 2 * 2 + 1 }) ≡ None
  thin_known = ap (λ n. if n / 4 == 0 then None else Some (faults.UnknownFlag (n / 4 * 4))) one_bit

  pub thick_clear : without_bit_1 (f.invalid / 2 * 2) ≡ f.invalid / 2 * 2
  thick_clear = ap without_bit_1 no_bit ∙ sym no_bit

  pub thick_known : unknown_flag (record f { invalid = f.invalid / 2 * 2 }) ≡ None
  thick_known = ap (λ n. if n / 4 == 0 then None else Some (faults.UnknownFlag (n / 4 * 4))) no_bit

-- ---- names

-- with another's parent
pub named_given : (internal : Xattrs) (m n : Meta) → n.internal ≡ with_parent_of internal m → NamesHead m → NamesHead n
named_given internal m n is named =
    ap (λ (xs : Xattrs). is_some (value_of xs (codes "SNAP"))) is
    ∙ ap is_some (snap_given internal m (value_of m.internal (codes "SNAP"))) ∙ named
    ∙ ap is_some (sym (parent_given internal m))
    ∙ ap (λ (xs : Xattrs). is_some (parent_of (record n { internal = xs }))) (sym is)

-- with no parent
pub named_none : (internal : Xattrs) (m : Meta) → m.internal ≡ without internal (codes "SNAP") → NamesHead m
named_none internal m is =
    ap (λ (xs : Xattrs). is_some (value_of xs (codes "SNAP"))) is
    ∙ ap is_some (none_without internal (codes "SNAP"))
    ∙ ap is_some (sym (parent_without internal))
    ∙ ap (λ (xs : Xattrs). is_some (parent_of (record m { internal = xs }))) (sym is)

-- ---- marks

-- without its marks a blob can be stored too
pub lifted : (s : Super) (head : ℕ) (m : Meta) → MeetsTests s head m → MeetsTests s head (without_marks m)
lifted s head m x = record {
  low = x.low;
  id = x.id;
  clear = x.clear;
  xattrs = x.xattrs;
  internal = without_good (without m.internal (codes "SNAPRM")) (codes "SNAPTMP")
      (without_good m.internal (codes "SNAPRM") x.internal);
  flags = x.flags;
  few = x.few;
  inside = x.inside;
  full = x.full;
  named =
      ap is_some (value_without (without m.internal (codes "SNAPRM")) (codes "SNAPTMP") (codes "SNAP") refl
      ∙ value_without m.internal (codes "SNAPRM") (codes "SNAP") refl)
      ∙ x.named ∙ ap is_some (sym (same_parent m));
}
