-- The one replacement of a repair's job, and the blob that it mends.
use Rattle.std.proofs.Common.{◌≡◌, ℕ, Bool, true, false, Option, Some, None, List, [], ◌∷◌, ◌++◌, refl, sym, ap, ◌∙◌}
use Rattle.std.proofs.Common.{subst}
use Rattle.std.specs.Prelude.{All, is_some, not}
use Rattle.std.specs.List.{range_with_len}
use Rattle.std.specs.Option.{option_and_then, option_map, option_map_or}
use Rattle.std.proofs.lemmas.Bool.{false≢true}
use Rattle.std.proofs.lemmas.List.Elements.{All-append, All-head, All-map, All-weaker, filter_passes}
use Rattle.blob_meta.specs.declared.job.Replacement.{Replacement}
use Rattle.blob_meta.specs.Repairs.{has_kept_mark, heads_where, is_removed, repair_at, repairs}
use Rattle.blob_meta.specs.Resolving.{is_kept, mark_of}
use Rattle.store_model.specs.Maps.{Metas}
use Rattle.store_model.specs.Phases.{Committing, erasing, Phase, phases_of, Replaces, Replacing, writing}
use Rattle.repair_runs.specs.RepairRuns.{has_mark, replacements_left}

-- ---- phases

behind_pages : (fresh : List ℕ) (rest : List Phase) → replacements_left (writing fresh rest) ≡ replacements_left rest
behind_pages [] rest = refl
behind_pages (place ∷ places) rest = behind_pages places rest

none_clearing : (old places : List ℕ) → replacements_left (erasing old places []) ≡ []
none_clearing old [] = refl
none_clearing old (place ∷ []) = refl
none_clearing old (place ∷ next ∷ places) = none_clearing old (next ∷ places)

-- the phases of one replacement have it alone
pub one_replacement : (r : Replacing) (commit : Option Committing)
    → replacements_left (phases_of r commit []) ≡ r ∷ []
one_replacement r commit =
    behind_pages r.fresh (Replaces r commit ∷ erasing r.old r.old []) ∙ ap (λ l. r ∷ l) (none_clearing r.old r.old)

-- ---- repairs that are due

-- a mark that is judged is there
is_there : (judge : List ℕ → Bool) (test : Bool → Bool) (o : Option (List ℕ))
    → option_map_or test (option_map judge o) false ≡ true → is_some o ≡ true
is_there judge test None is = absurd (false≢true is)
is_there judge test (Some mark) is = refl

module _ (md_len : ℕ) (base : Metas) where
  -- heads with a mark, by whatever test of its judgement
  marked_where : (test : Bool → Bool) (passes : ℕ → Bool)
      → ((h : ℕ) → passes h
      ≡ option_map_or test (option_map (is_kept base h) (option_and_then mark_of (base h))) false)
      → All (λ h. has_mark base h ≡ true) (heads_where md_len passes)
  marked_where test passes is = All-weaker (λ h. passes h ≡ true) (λ h. has_mark base h ≡ true)
      (λ h passed. is_there (is_kept base h) test (option_and_then mark_of (base h)) (sym (is h) ∙ passed))
      (heads_where md_len passes) (filter_passes passes (range_with_len 0 md_len))

  -- each repair is of a blob with a mark
  all_marked : All (λ x. has_mark base x.head ≡ true) (repairs md_len base)
  all_marked = All-map (λ (x : Replacement). has_mark base x.head ≡ true) (repair_at base)
      (heads_where md_len (has_kept_mark base) ++ heads_where md_len (is_removed base))
      (All-append (λ h. has_mark base h ≡ true) (heads_where md_len (has_kept_mark base))
      (heads_where md_len (is_removed base))
      (marked_where (λ kept. kept) (has_kept_mark base) (λ h. refl))
      (marked_where not (is_removed base) (λ h. refl)))

  -- so the first is
  pub first_marked : (x : Replacement) (others : List Replacement) → repairs md_len base ≡ x ∷ others
      → has_mark base x.head ≡ true
  first_marked x others due = All-head (λ (y : Replacement). has_mark base y.head ≡ true) x others
      (subst (All (λ (y : Replacement). has_mark base y.head ≡ true)) due all_marked)
