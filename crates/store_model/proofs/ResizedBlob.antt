-- The metadata of a blob with another number of slots: it is steady, and with it all metadata is lawful.
use Rattle.std.proofs.Common.{◌≡◌, ℕ, ◌≤◌, ◌^◌, true, Option, Some, None, sym, ◌∙◌}
use Rattle.std.proofs.Common.{subst, false, arith}
use Rattle.std.specs.Prelude.{if◌then◌else◌, is_none}
use Rattle.std.specs.List.{position}
use Rattle.std.specs.Option.{option_map}
use Rattle.super_block.specs.declared.page.Super.{Super}
use Rattle.blob_meta.specs.declared.meta.Meta.{Meta}
use Rattle.blob_meta.specs.declared.fault.MetaFault.TheVariants as faults
use Rattle.blob_meta.specs.Faults.{is_thin}
use Rattle.blob_meta.specs.Jobs.{resized_meta}
use Rattle.blob_meta.specs.Parents.{is_read_only}
use Rattle.store_model.specs.Maps.{Metas}
use Rattle.store_model.specs.Regions.{region_of}
use Rattle.store_model.specs.Steady.{IsSteady}
use Rattle.store_model.proofs.Cut.{length_cut, slot_was}
use Rattle.shown_volumes.proofs.Inside.{inside_slot, none_of_map}
use Rattle.shown_volumes.proofs.MapTests.{passes}
use Rattle.store_model.proofs.ZeroedBlob.{IsSteadyBut}
use Rattle.std.proofs.lemmas.Bool.Decides.{nat_tests}
use Rattle.store_model.proofs.LawfulGiven.{TakesNone}

-- a blob that isn't thin has no empty slot
pub thick_full : (m : Meta) (s : Super) (head : ℕ) → IsSteady s head m → is_thin m.flags ≡ false
    → position is_none m.map ≡ None
thick_full m s head one thick =
    let full = (passes (region_of s).fixed (region_of s).clusters m one.stored.faultless).full in
    none_of_map faults.HoleInThick (position is_none m.map) (subst (λ b.
    (if b then None else option_map faults.HoleInThick (position is_none m.map)) ≡ None) thick full)

-- so many slots: all that is asked of it, but that none of a thick blob is empty
pub resized_but : (m : Meta) (slots : ℕ) (s : Super) (head : ℕ) → slots ≤ 2 ^ 20 → IsSteady s head m
    → IsSteadyBut s head (resized_meta m slots)
resized_but m slots s head few old =
    let was = passes (region_of s).fixed (region_of s).clusters m old.stored.faultless in
    record {
      low = old.stored.low;
      id = old.stored.id;
      clear = old.stored.clear;
      xattrs = old.stored.xattrs;
      internal = old.stored.internal;
      flags = was.flags;
      few = omega (arith, few, length_cut {X = Option ℕ} m.map slots None);
      inside = λ i c at.
          let x = inside_slot (region_of s).fixed (region_of s).clusters m i c old.stored.faultless
          (slot_was m.map slots i c at) in
          let behind = x.behind in
          let below = x.below in
          grind (arith, nat_tests, behind, below);
      marks = was.marks;
      named = old.named;
      unmarked = old.unmarked;
    }

-- it takes no cluster and no parent
pub resized_takes_none : (metas : Metas) (head : ℕ) (old : Meta) (slots : ℕ) → metas head ≡ Some old
    → TakesNone metas head (resized_meta old slots)
resized_takes_none metas head old slots there = record {
  slots = λ i cluster at. (old, there, slot_was old.map slots i cluster at);
  parent = λ p of. (old, there, of);
  read_only = λ m was on. let one : m ≡ old = let both = sym was ∙ there in cc both in
      subst (λ (x : Meta). is_read_only x.flags ≡ true) one on;
}
