-- The metadata of a new blob: it is steady, and with it the metadata of all blobs is lawful.
use Rattle.std.proofs.Common.{◌≡◌, ◌⊎◌, ℕ, ◌<◌, ◌≤◌, ◌^◌, Bool, true, false, List, [], ◌∷◌}
use Rattle.std.proofs.Common.{Option, None, refl, sym, ◌∙◌, inl, inr, arith, length-append}
use Rattle.std.specs.Prelude.{if◌then◌else◌, replicate}
use Rattle.std.specs.Option.{option_map_or}
use Rattle.std.proofs.lemmas.List.{length-replicate}
use Rattle.super_block.specs.declared.page.Super.{Super}
use Rattle.volume_model.proofs.UuidTexts.{length-uuid_text}
use Rattle.volume_model.specs.Names.{IsName}
use Rattle.volume_model.specs.Uuids.{default_uuid, uuid_text}
use Rattle.volume_model.specs.Volumes.{Fixed, store_uuid, two_xattrs, Volumes}
use Rattle.volume_model.specs.Xattrs.{Text, Xattrs}
use Rattle.blob_meta.specs.declared.meta.Flags.{Flags}
use Rattle.blob_meta.specs.Faults.{hole_in_thick, map_fault}
use Rattle.blob_meta.specs.Jobs.{new_meta}
use Rattle.store_model.specs.Maps.{Metas}
use Rattle.store_model.specs.Regions.{region_of}
use Rattle.store_model.specs.Steady.{CanBeWritten, IsSteady}
use Rattle.store_model.proofs.LawfulGiven.{TakesNone}
pub use Rattle.shown_volumes.proofs.EmptyMaps.{none_in, empty_slot}
pub use Rattle.shown_volumes.proofs.MapTests.{all_pass, clear_flags, few_pass, known_flags}

-- ---- its attributes

pub two_written : (f : Fixed) (v : Volumes) (name : Text) (uuid : Option (List ℕ)) → IsName name
    → CanBeWritten (two_xattrs f v name uuid)
two_written f v name uuid named = record {
  names = ((refl, tt), (tt, tt));
  short = (
    omega (arith, length-append name (0 ∷ []), named.most),
    (omega (arith, length-append (uuid_text bytes) (0 ∷ []), length-uuid_text bytes), tt),
  );
}
  where
    bytes : List ℕ
    bytes = option_map_or (λ bytes. bytes) uuid (default_uuid (store_uuid f v) name)

-- ---- its map

new_passes : (fixed clusters slots : ℕ) → slots ≤ 2 ^ 20 → map_fault fixed clusters (replicate slots None) ≡ None
new_passes fixed clusters slots few =
    rw (few_pass slots (replicate slots None) (length-replicate slots None) few, none_in slots) refl

new_flags : Bool → Flags
new_flags thick = record { invalid = if thick then 0 else 1; data_ro = 0; md_ro = 0 }

no_hole : (thick : Bool) (slots : ℕ) → (thick ≡ false) ⊎ (slots ≡ 0)
    → hole_in_thick (new_meta 0 [] thick 0).flags (replicate slots None) ≡ None
no_hole false slots thin = refl
no_hole true slots (inl thin) = absurd (cc thin)
no_hole true slots (inr none) = rw none refl

-- a new blob that is thin, or has no slot
pub new_steady : (s : Super) (head : ℕ) (xattrs : Xattrs) (thick : Bool) (slots : ℕ) → head < s.md_len
    → CanBeWritten xattrs → slots ≤ 2 ^ 20 → (thick ≡ false) ⊎ (slots ≡ 0)
    → IsSteady s head (new_meta head xattrs thick slots)
new_steady s head xattrs thick slots low can few thin = record {
  stored = record {
    low = low;
    id = refl;
    clear = clear_flags thick;
    xattrs = can;
    internal = record { names = tt; short = tt };
    faultless = all_pass _ _ _ _ (known_flags thick)
        (new_passes (region_of s).fixed (region_of s).clusters slots few) (no_hole thick slots thin) refl;
  };
  named = refl;
  unmarked = refl;
}

-- it takes no cluster and no parent
pub new_takes_none : (metas : Metas) (head : ℕ) (xattrs : Xattrs) (thick : Bool) (slots : ℕ) → metas head ≡ None
    → TakesNone metas head (new_meta head xattrs thick slots)
new_takes_none metas head xattrs thick slots none = record {
  slots = λ i cluster at. absurd (let bad = sym (empty_slot slots i) ∙ at in cc bad);
  parent = λ p of. absurd (cc of);
  read_only = λ old was on. absurd (let bad = sym none ∙ was in cc bad);
}
