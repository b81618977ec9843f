-- What the blobs of resolved metadata have in common, and what repairs give.
use Rattle.std.proofs.Common.{◌≡◌, ℕ, ◌%◌, ◌+◌, ◌*◌, ◌/◌, Option, Some, None, List, [], ◌∷◌, ◌++◌, refl, sym, ap}
use Rattle.std.proofs.Common.{◌∙◌, inl, inr, arith}
use Rattle.std.specs.Prelude.{All, codes, map}
use Rattle.std.specs.Option.{option_map_or}
use Rattle.std.proofs.lemmas.List.Elements.{All-nil, All-cons}
use Rattle.volume_model.specs.Xattrs.{value_of}
use Rattle.blob_meta.specs.declared.meta.Meta.{Meta}
use Rattle.blob_meta.specs.Resolving.{mark_of, resolved, without_marks}
use Rattle.blob_meta.specs.Repairs.{repair_at, repairs, heads_where, has_kept_mark, is_removed}
use Rattle.blob_meta.proofs.MarksLifted.{no_snaprm, no_snaptmp}
use Rattle.blob_meta.proofs.Fates.{Fate, fate}

abbrev Mark : Type 0
Mark = Option (List ℕ)

abbrev else_mark : Mark → Mark → Mark
else_mark a b = option_map_or (λ bytes. Some bytes) a b

neither : (a b : Mark) → else_mark a b ≡ None → (a ≡ None) × (b ≡ None)
neither None b e = (refl, e)
neither (Some x) b e = absurd (cc (e))

parts : (m : Meta) → mark_of m ≡ None
    → (value_of m.internal (codes "SNAPRM") ≡ None) × (value_of m.internal (codes "SNAPTMP") ≡ None)
parts m e = neither (value_of m.internal (codes "SNAPRM")) (value_of m.internal (codes "SNAPTMP")) e

-- a blob of the result has neither mark
pub no_marks : (metas : ℕ → Option Meta) (h : ℕ) (m : Meta) → resolved metas h ≡ Some m
    → (value_of m.internal (codes "SNAPRM") ≡ None) × (value_of m.internal (codes "SNAPTMP") ≡ None)
no_marks metas h m is = by (fate metas h)
  where
    by : Fate metas h → (value_of m.internal (codes "SNAPRM") ≡ None) × (value_of m.internal (codes "SNAPTMP") ≡ None)
    by (inl x) = let gives = x.gives in absurd (cc (gives, is))
    by (inr (inl x)) = let gives = x.gives in let one : m ≡ x.blob = cc (gives, is) in
        parts m (ap mark_of one ∙ x.unmarked)
    by (inr (inr (inl x))) = let gives = x.gives in let one : m ≡ without_marks x.blob = cc (gives, is) in (
      ap (λ (n : Meta). value_of n.internal (codes "SNAPRM")) one ∙ no_snaprm x.blob,
      ap (λ (n : Meta). value_of n.internal (codes "SNAPTMP")) one ∙ no_snaptmp x.blob,
    )
    by (inr (inr (inr x))) = let gives = x.gives in absurd (cc (gives, is))

pub not_removed : (metas : ℕ → Option Meta) (h : ℕ) (m : Meta) → resolved metas h ≡ Some m
    → value_of m.internal (codes "SNAPRM") ≡ None
not_removed metas h m is = (no_marks metas h m is).0

pub not_made : (metas : ℕ → Option Meta) (h : ℕ) (m : Meta) → resolved metas h ≡ Some m
    → value_of m.internal (codes "SNAPTMP") ≡ None
not_made metas h m is = (no_marks metas h m is).1

odd : (n : ℕ) → (n / 2 * 2 + 1) % 2 ≡ 1
odd n = omega arith

-- one that had a mark is read-only
pub marked_read_only : (metas : ℕ → Option Meta) (h : ℕ) (m n : Meta) (mark : List ℕ) → metas h ≡ Some m
    → mark_of m ≡ Some mark → resolved metas h ≡ Some n → n.flags.data_ro % 2 ≡ 1
marked_read_only metas h m n mark there marked is = by (fate metas h)
  where
    by : Fate metas h → n.flags.data_ro % 2 ≡ 1
    by (inl x) = let absent = x.there in absurd (cc (absent, there))
    by (inr (inl x)) = let here = x.there in let one : m ≡ x.blob = cc (here, there) in
        let bad : Some mark ≡ None = sym marked ∙ ap mark_of one ∙ x.unmarked in absurd (cc (bad))
    by (inr (inr (inl x))) = let gives = x.gives in let one : n ≡ without_marks x.blob = cc (gives, is) in
        ap (λ (k : Meta). k.flags.data_ro % 2) one ∙ odd x.blob.flags.data_ro
    by (inr (inr (inr x))) = let gives = x.gives in absurd (cc (gives, is))

each_at : (metas : ℕ → Option Meta) (hs : List ℕ) → All (λ x. x.new ≡ resolved metas x.head) (map (repair_at metas) hs)
each_at metas [] = All-nil (λ x. x.new ≡ resolved metas x.head)
each_at metas (h ∷ hs) =
    All-cons (λ x. x.new ≡ resolved metas x.head) (repair_at metas h) (map (repair_at metas) hs) refl (each_at metas hs)

-- each repair gives its head what is resolved there
pub each_repairs : (md_len : ℕ) (metas : ℕ → Option Meta)
    → All (λ x. x.new ≡ resolved metas x.head) (repairs md_len metas)
each_repairs md_len metas =
    each_at metas (heads_where md_len (has_kept_mark metas) ++ heads_where md_len (is_removed metas))
