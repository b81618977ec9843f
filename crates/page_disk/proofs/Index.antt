-- The index from pages to their last writes, as the record grows.
use Rattle.std.proofs.Common.{◌≡◌, ℕ, List, [], ◌∷◌, ◌++◌, length, refl, sym, ◌∙◌, ap, subst, ⊎_elim, arith, Some}
use Rattle.std.proofs.Common.{length-append}
use Rattle.std.specs.Prelude.{nat_eq}
use Rattle.std.specs.Map.{lookup, update}
use Rattle.std.proofs.lemmas.Map.{update_here, update_apart}
use Rattle.std.proofs.lemmas.Bool.{cases_eq}
use Rattle.std.proofs.lemmas.List.{get_or_push, get_or_append_left}
use Rattle.page_disk.specs.Disk.{Image}
use Rattle.page_disk.specs.Record.{read_after, IsNewest, IsIndex}
use Rattle.page_disk.specs.RecordLaws.{read_after-write, read_after-flush}
use Rattle.page_disk.proofs.Images.{with_page-here, with_page-elsewhere}
use Rattle.page_disk.specs.declared.disk.WriteKind.{WriteKind}
use Rattle.page_disk.specs.declared.record.Call.{Call}
use Rattle.page_disk.specs.declared.record.Call.TheVariants.{Write, Flush}

-- no call has no place
pub of_no_calls : IsIndex [] []
unfolding read_after
of_no_calls = record { written = λ page place is. absurd cc; unwritten = λ page is base. refl }

module _ (calls : List Call) where
  -- one call more that leaves the page as it is read
  kept : (call : Call) (page place : ℕ)
      → ((base : Image) → read_after base (calls ++ call ∷ []) page ≡ read_after base calls page)
      → IsNewest calls page place → IsNewest (calls ++ call ∷ []) page place
  kept call page place same was = record {
    within = omega (arith, was.within, length-append calls (call ∷ []));
    content = was.content;
    kind = was.kind;
    there = λ d. get_or_append_left calls (call ∷ []) d place was.within ∙ was.there d;
    last = λ base. same base ∙ was.last base;
  }

  -- a flush has no page
  pub after_flush : (newest : List (ℕ × ℕ)) → IsIndex calls newest → IsIndex (calls ++ Flush ∷ []) newest
  after_flush newest was = record {
    written = λ page place is. kept Flush page place (same page) (was.written page place is);
    unwritten = λ page is base. same page base ∙ was.unwritten page is base;
  }
    where
      same : (page : ℕ) (base : Image) → read_after base (calls ++ Flush ∷ []) page ≡ read_after base calls page
      same page base = ap (λ (i : Image). i page) (read_after-flush base calls)

  module _ (place : ℕ) (content : List ℕ) (kind : WriteKind) where
    elsewhere : (page : ℕ) → (page ≡ place → ⊥) → (base : Image)
        → read_after base (calls ++ Write place content kind ∷ []) page ≡ read_after base calls page
    elsewhere page other base =
        ap (λ (i : Image). i page) (read_after-write base calls place content kind)
        ∙ with_page-elsewhere (read_after base calls) place content page other

    here : (base : Image) → read_after base (calls ++ Write place content kind ∷ []) place ≡ content
    here base =
        ap (λ (i : Image). i place) (read_after-write base calls place content kind)
        ∙ with_page-here (read_after base calls) place content

    latest : IsNewest (calls ++ Write place content kind ∷ []) place (length calls)
    latest = record {
      within = omega (arith, length-append calls (Write place content kind ∷ []));
      content = content;
      kind = kind;
      there = λ d. get_or_push calls (Write place content kind) d (length calls) refl;
      last = here;
    }

    module _ (newest after : List (ℕ × ℕ))
        (updates : (page : ℕ)
        → lookup (nat_eq page) after ≡ update nat_eq (λ p. lookup (nat_eq p) newest) place
        (Some (length calls)) page) where
      found_here : lookup (nat_eq place) after ≡ Some (length calls)
      found_here = updates place ∙ update_here (λ p. lookup (nat_eq p) newest) place (Some (length calls))

      found_elsewhere : (page : ℕ) → (page ≡ place → ⊥) → lookup (nat_eq page) after ≡ lookup (nat_eq page) newest
      found_elsewhere page other =
          updates page ∙ update_apart (λ p. lookup (nat_eq p) newest) place (Some (length calls)) page other

      -- a write is the newest of its page
      pub after_write : IsIndex calls newest → IsIndex (calls ++ Write place content kind ∷ []) after
      after_write was = record {
        written = λ page at is. ⊎_elim
            (λ (e : page ≡ place).
            let found = found_here in
            let at_end : length calls ≡ at = cc in
            subst (λ p. IsNewest (calls ++ Write place content kind ∷ []) p at) (sym e)
            (subst (λ a. IsNewest (calls ++ Write place content kind ∷ []) place a) at_end latest))
            (λ (other : page ≡ place → ⊥). kept (Write place content kind) page at (elsewhere page other)
            (was.written page at (sym (found_elsewhere page other) ∙ is)))
            (cases_eq page place);
        unwritten = λ page is base. ⊎_elim
            (λ (e : page ≡ place). let found = found_here in absurd cc)
            (λ (other : page ≡ place → ⊥). elsewhere page other base
            ∙ was.unwritten page (sym (found_elsewhere page other) ∙ is) base)
            (cases_eq page place);
      }
