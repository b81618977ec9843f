-- What becomes of blobs, of which one is marked, where all others are as they were in metadata without marks.
use Rattle.std.proofs.Common.{◌≡◌, ◌≢◌, ℕ, ◌^◌, ◌<◌, Bool, true, false, Option, Some, None, refl, sym, ap, ◌∙◌}
use Rattle.std.specs.Prelude.{if◌then◌else◌}
use Rattle.std.specs.Option.{option_and_then, option_map_or}
use Rattle.std.proofs.lemmas.Bool.{eq-eqb, ne_eqb}
use Rattle.volume_model.specs.Volumes.{is_given_head}
use Rattle.blob_meta.specs.declared.meta.Meta.{Meta}
use Rattle.blob_meta.specs.Parents.{parent_of}
use Rattle.blob_meta.specs.Repairs.{HasNoMarks}
use Rattle.blob_meta.specs.Resolving.{is_kept, mark_of, resolved, without_marks}
use Rattle.blob_meta.proofs.Fates.{resolved_absent, resolved_marked, resolved_unmarked}
use Rattle.snapshots.specs.Marks.{id_bytes}
use Rattle.shown_volumes.specs.Maps.{Metas}
use Rattle.shown_volumes.proofs.Valued.{id_named}

-- a head is the one that is given, or it isn't
pub given_same : (h : ℕ) → is_given_head h (Some h) ≡ true
given_same h = eq-eqb h h refl

pub given_other : (h : ℕ) (o : Option ℕ) → o ≢ Some h → is_given_head h o ≡ false
given_other h None ne = refl
given_other h (Some k) ne = ne_eqb k h (λ e. ne (ap (λ n. Some n) e))

-- a blob as in metadata without marks is resolved as it is
pub as_before : (base metas : Metas) → HasNoMarks base → (h : ℕ) → metas h ≡ base h → resolved metas h ≡ base h
as_before base metas unmarked h same = at (base h) refl
  where
    at : (o : Option Meta) → base h ≡ o → resolved metas h ≡ base h
    at None is = resolved_absent metas h (same ∙ is) ∙ sym is
    at (Some m) is = resolved_unmarked metas h m (same ∙ is) (unmarked h m is) ∙ sym is

-- a marked blob is kept where the one that its mark names has it for its parent, and else is gone
pub by_mark : (metas : Metas) (h c : ℕ) (m n : Meta) (kept : Bool) → c < 2 ^ 32 → metas h ≡ Some m
    → mark_of m ≡ Some (id_bytes c) → metas c ≡ Some n → is_given_head h (parent_of n) ≡ kept
    → resolved metas h ≡ (if kept then Some (without_marks m) else None)
by_mark metas h c m n kept low there mark named is = resolved_marked metas h m (id_bytes c) kept there mark judged
  where
    judged : is_kept metas h (id_bytes c) ≡ kept
    judged =
        ap (λ o. option_map_or (λ (x : Meta). is_given_head h (parent_of x)) (option_and_then metas o) false)
        (id_named c low)
        ∙ ap (λ o. option_map_or (λ (x : Meta). is_given_head h (parent_of x)) o false) named ∙ is
