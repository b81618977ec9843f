-- What recovery does to the blob at a head.
use Rattle.std.proofs.Common.{◌≡◌, ℕ, Bool, true, false, Option, Some, None, List, refl, ap, ◌∙◌, ◌⊎◌, inl, inr}
use Rattle.std.specs.Prelude.{if◌then◌else◌, not}
use Rattle.std.specs.Option.{option_map, option_map_or, option_and_then}
use Rattle.blob_meta.specs.declared.meta.Meta.{Meta}
use Rattle.blob_meta.specs.Resolving.{mark_of, is_kept, resolved, resolved_one, without_marks}
use Rattle.blob_meta.specs.Repairs.{keeps, has_kept_mark, is_removed}

-- one blob of each kind, by its mark
module _ (metas : ℕ → Option Meta) (h : ℕ) where
  pub resolved_absent : metas h ≡ None → resolved metas h ≡ None
  resolved_absent there = ap (option_and_then (resolved_one metas h)) there

  abbrev judged : Meta → Option (List ℕ) → Option Meta
  judged m mark = option_map_or (λ k. if is_kept metas h k then Some (without_marks m) else None) mark (Some m)

  pub resolved_unmarked : (m : Meta) → metas h ≡ Some m → mark_of m ≡ None → resolved metas h ≡ Some m
  resolved_unmarked m there unmarked = ap (option_and_then (resolved_one metas h)) there ∙ ap (judged m) unmarked

  pub resolved_marked : (m : Meta) (mark : List ℕ) (b : Bool) → metas h ≡ Some m → mark_of m ≡ Some mark
      → is_kept metas h mark ≡ b → resolved metas h ≡ (if b then Some (without_marks m) else None)
  resolved_marked m mark b there marked kept =
      ap (option_and_then (resolved_one metas h)) there ∙ ap (judged m) marked
      ∙ ap (λ (t : Bool). if t then Some (without_marks m) else None) kept

  -- there is no blob
  pub record IsAbsent : Type 0 where
    pub there : metas h ≡ None
    pub gives : resolved metas h ≡ None
    pub keeps_is : keeps metas h ≡ None

  -- it has no mark
  pub record IsPlain : Type 0 where
    pub blob : Meta
    pub there : metas h ≡ Some blob
    pub unmarked : mark_of blob ≡ None
    pub gives : resolved metas h ≡ Some blob
    pub keeps_is : keeps metas h ≡ None

  -- it has a mark, by which it is kept or removed
  pub record IsMarked (kept : Bool) : Type 0 where
    pub blob : Meta
    pub there : metas h ≡ Some blob
    pub mark : List ℕ
    pub marked : mark_of blob ≡ Some mark
    pub judged : is_kept metas h mark ≡ kept
    pub gives : resolved metas h ≡ (if kept then Some (without_marks blob) else None)
    pub keeps_is : keeps metas h ≡ Some kept

  abbrev pub Fate : Type 0
  Fate = IsAbsent ⊎ (IsPlain ⊎ (IsMarked true ⊎ IsMarked false))

  of_marked : (m : Meta) → metas h ≡ Some m → (o : Option (List ℕ)) → mark_of m ≡ o → Fate
  of_marked m there None unmarked = inr (inl (record {
    blob = m;
    there = there;
    unmarked = unmarked;
    gives = resolved_unmarked m there unmarked;
    keeps_is = ap (λ o. option_map (is_kept metas h) (option_and_then mark_of o)) there
        ∙ ap (option_map (is_kept metas h)) unmarked;
  }))
  of_marked m there (Some mark) marked = by (is_kept metas h mark) refl
    where
      is_marked : (b : Bool) → is_kept metas h mark ≡ b → IsMarked b
      is_marked b is = record {
        blob = m;
        there = there;
        mark = mark;
        marked = marked;
        judged = is;
        gives = resolved_marked m mark b there marked is;
        keeps_is = ap (λ o. option_map (is_kept metas h) (option_and_then mark_of o)) there
            ∙ ap (option_map (is_kept metas h)) marked ∙ ap (λ (t : Bool). Some t) is;
      }

      by : (b : Bool) → is_kept metas h mark ≡ b → Fate
      by true is = inr (inr (inl (is_marked true is)))
      by false is = inr (inr (inr (is_marked false is)))

  of_blob : (o : Option Meta) → metas h ≡ o → Fate
  of_blob None there = inl (record {
    there = there;
    gives = resolved_absent there;
    keeps_is = ap (λ o. option_map (is_kept metas h) (option_and_then mark_of o)) there;
  })
  of_blob (Some m) there = of_marked m there (mark_of m) refl

  -- it is one of the four
  pub fate : Fate
  fate = of_blob (metas h) refl

-- no blob is marked where there is none
pub kept_absent : (metas : ℕ → Option Meta) (h : ℕ) → metas h ≡ None → has_kept_mark metas h ≡ false
kept_absent metas h there =
    ap (λ o. option_map_or (λ (b : Bool). b) (option_map (is_kept metas h) (option_and_then mark_of o)) false) there

pub removed_absent : (metas : ℕ → Option Meta) (h : ℕ) → metas h ≡ None → is_removed metas h ≡ false
removed_absent metas h there =
    ap (λ o. option_map_or not (option_map (is_kept metas h) (option_and_then mark_of o)) false) there
