-- The metadata after any number of replacements that can be stored can be stored; and once it is resolved it is steady.
use Rattle.std.proofs.Common.{◌≡◌, ℕ, zero, suc, Some, None, List, [], ◌∷◌, refl, sym, ◌∙◌, subst, inl, inr}
use Rattle.std.specs.Prelude.{◌<◌, ◌≤◌, ◌^◌, IsSome, Option, take}
use Rattle.std.specs.List.{AllByRecursion}
use Rattle.std.proofs.lemmas.Bool.{cases_eq, eq-eqb, ne_eqb}
use Rattle.super_block.specs.declared.page.Super.{Super}
use Rattle.super_block.specs.Numbers.{cluster_pages_of}
use Rattle.blob_meta.specs.declared.job.Job.{Job}
use Rattle.blob_meta.specs.declared.job.Replacement.{Replacement}
use Rattle.blob_meta.specs.declared.meta.Meta.{Meta}
use Rattle.blob_meta.specs.Repairs.{after, with_replacement}
use Rattle.blob_meta.specs.Resolving.{IsLawful, resolved, without_marks}
use Rattle.blob_meta.proofs.Fates.{Fate, fate}
use Rattle.blob_meta.proofs.MarksLifted.{no_mark}
use Rattle.shown_volumes.specs.Maps.{Metas}
use Rattle.shown_volumes.specs.Shown.{fixed_of}
use Rattle.shown_volumes.specs.ShowsStep.{IsAtRest, part_of}
use Rattle.shown_volumes.specs.Steady.{AreSteady, IsSteady, IsUnmarked}
use Rattle.shown_volumes.specs.StoredLaws.{AllStoredWell, AreStoredWell, IsStoredWell}
use Rattle.shown_volumes.proofs.WellStored.{stored_well, meets_tests, lifted}

module _ (s : Super) where
  abbrev IsNewStored : Replacement → Type 0
  IsNewStored x = (m : Meta) → x.new ≡ Some m → IsStoredWell s x.head m

  -- one replacement
  one_stored : (metas : Metas) (x : Replacement) → AllStoredWell s metas → IsNewStored x
      → AllStoredWell s (with_replacement metas x)
  one_stored metas x all new h m is = elim (cases_eq h x.head) [
    | inl e ↦ subst (λ n. IsStoredWell s n m) (sym e) (new m (rw (eq-eqb h x.head e) at is))
    | inr ne ↦ all h m (rw (ne_eqb h x.head ne) at is)
  ]

  -- so many of a list
  some_stored : (list : List Replacement) (metas : Metas) → AllStoredWell s metas → AllByRecursion IsNewStored list
      → (count : ℕ) → AllStoredWell s (after metas (take count list))
  some_stored list metas all news zero = all
  some_stored [] metas all news (suc count) = all
  some_stored (x ∷ list) metas all news (suc count) =
      some_stored list (with_replacement metas x) (one_stored metas x all news.0) news.1 count

  pub parts_stored : (base : Metas) (job : Job) → AllStoredWell s base → AreStoredWell s job → (count : ℕ)
      → AllStoredWell s (part_of job base count)
  parts_stored base job all news count = some_stored job.list base all news count

  steady : (h : ℕ) (m : Meta) → IsStoredWell s h m → IsUnmarked m → IsSteady s h m
  steady h m x unmarked = record { stored = x.stored; named = x.named; unmarked = unmarked }

  -- marked blobs are gone then, or without their marks
  pub resolved_steady : (metas : Metas) → AllStoredWell s metas → AreSteady s (resolved metas)
  resolved_steady metas all h m is = by (fate metas h)
    where
      by : Fate metas h → IsSteady s h m
      by (inl x) = let bad : None ≡ Some m = sym x.gives ∙ is in absurd (cc bad)
      by (inr (inl x)) =
          let both : Some x.blob ≡ Some m = sym x.gives ∙ is in
          let one : x.blob ≡ m = cc both in
          subst (IsSteady s h) one (steady h x.blob (all h x.blob x.there) x.unmarked)
      by (inr (inr (inl x))) =
          let both : Some (without_marks x.blob) ≡ Some m = sym x.gives ∙ is in
          let one : without_marks x.blob ≡ m = cc both in
          subst (IsSteady s h) one (steady h (without_marks x.blob)
          (stored_well s h (without_marks x.blob) (lifted s h x.blob (meets_tests s h x.blob (all h x.blob x.there))))
          (no_mark x.blob))
      by (inr (inr (inr x))) = let bad : None ≡ Some m = sym x.gives ∙ is in absurd (cc bad)

  -- ---- steady metadata

  -- is stored well,
  pub steady_stored : (metas : Metas) → AreSteady s metas → AllStoredWell s metas
  steady_stored metas all h m is = let x = all h m is in record { stored = x.stored; named = x.named }

  -- and a job may begin on it, if it is lawful
  pub steady_rest : (metas : Metas) → AreSteady s metas → IsLawful s.md_len metas → 0 < cluster_pages_of s
      → s.md_len ≤ 2 ^ 32 → IsAtRest (fixed_of s) metas
  steady_rest metas all lawful some few = record {
    some_pages = some;
    few_heads = few;
    lawful = lawful;
    unmarked = λ h m is. (all h m is).unmarked;
    heads_below = λ h there. below h (metas h) refl there;
  }
    where
      below : (h : ℕ) (o : Option Meta) → metas h ≡ o → IsSome (metas h) → h < s.md_len
      below h (Some m) is there = (all h m is).stored.low
      below h None is there = absurd (cc (is, there))
