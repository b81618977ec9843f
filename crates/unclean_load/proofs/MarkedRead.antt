-- The marked blobs, gathered heads upwards.
use Rattle.std.proofs.Common.{◌≡◌, ℕ, ◌+◌, ◌<◌, ◌≤◌, List, Option, Some, None, IsSome, refl, sym, ap, subst, ◌∙◌}
use Rattle.std.proofs.Common.{inl, inr, arith}
use Rattle.std.specs.Option.{option_and_then, option_map}
use Rattle.std.specs.Ordering.{nat_cmp}
use Rattle.std.specs.FinMap as map
use Rattle.std.proofs.lemmas.Bool.{cases_eq, cases_lt}
use Rattle.blob_meta.specs.declared.meta.Meta.{Meta}
use Rattle.blob_meta.specs.Repairs.{HasHeadsBelow}
use Rattle.blob_meta.specs.Resolving.{mark_of}
use Rattle.store_model.specs.Maps.{Metas}
use Rattle.store_model.proofs.WithEntry.{given_here, given_elsewhere}
use Rattle.running_store.specs.Recovered.{marked_blobs}
use Rattle.running_store.proofs.Maps.{insert_given}

-- ---- heads upwards

-- of the heads below one a map has just the marked blobs
pub record IsMarkedBelow (metas : Metas) (found : map.FinMap nat_cmp Meta) (end : ℕ) : Type 0 where
  pub before : (k : ℕ) → k < end → map.get found k ≡ marked_blobs metas k
  pub none : (k : ℕ) → end ≤ k → map.get found k ≡ None

module _ (metas : Metas) (found : map.FinMap nat_cmp Meta) where
  -- none is found so far
  pub marked_begin : found ≡ map.empty → IsMarkedBelow metas found 0
  marked_begin is = record {
    before = λ k lt. absurd (omega (arith, lt));
    none = λ k le. ap (λ m. map.get m k) is ∙ map.get-empty nat_cmp k;
  }

  marked_at : (k : ℕ) (o : Option Meta) → metas k ≡ o
      → marked_blobs metas k ≡ option_and_then (λ (m : Meta). option_map (λ _. m) (mark_of m)) o
  marked_at k o there = ap (option_and_then (λ (m : Meta). option_map (λ _. m) (mark_of m))) there

  module _ (head : ℕ) (b : IsMarkedBelow metas found head) where
    -- no marked blob is at the head
    pub marked_same : marked_blobs metas head ≡ None → IsMarkedBelow metas found (head + 1)
    marked_same none = record {
      before = λ k lt. elim (cases_eq k head) [
        | inl e ↦ b.none k (omega (arith, e)) ∙ sym (ap (marked_blobs metas) e ∙ none)
        | inr ne ↦ b.before k (omega (arith, lt, ne))
      ];
      none = λ k le. b.none k (omega (arith, le));
    }

    pub no_blob_marked : metas head ≡ None → IsMarkedBelow metas found (head + 1)
    no_blob_marked there = marked_same (marked_at head None there)

    pub blob_unmarked : (m : Meta) → metas head ≡ Some m → mark_of m ≡ None → IsMarkedBelow metas found (head + 1)
    blob_unmarked m there none =
        marked_same (marked_at head (Some m) there ∙ ap (option_map (λ _. m)) none)

    -- the blob at the head is marked
    pub marked_more : (m : Meta) (mark : List ℕ) → metas head ≡ Some m → mark_of m ≡ Some mark
        → IsMarkedBelow metas (map.insert found head m) (head + 1)
    marked_more m mark there has = record {
      before = λ k lt. elim (cases_eq k head) [
        | inl e ↦
            ap (λ f. f k) (insert_given found head m) ∙ given_here (map.get found) head m k e
            ∙ sym (ap (marked_blobs metas) e ∙ marked_at head (Some m) there ∙ ap (option_map (λ _. m)) has)
        | inr ne ↦
            ap (λ f. f k) (insert_given found head m) ∙ given_elsewhere (map.get found) head m k ne
            ∙ b.before k (omega (arith, lt, ne))
      ];
      none = λ k le.
          ap (λ f. f k) (insert_given found head m)
          ∙ given_elsewhere (map.get found) head m k (λ e. absurd (omega (arith, e, le)))
          ∙ b.none k (omega (arith, le));
    }

  -- all heads were looked at
  pub marked_all : (md_len : ℕ) → HasHeadsBelow md_len metas → IsMarkedBelow metas found md_len → (k : ℕ)
      → map.get found k ≡ marked_blobs metas k
  marked_all md_len below b k = elim (cases_lt k md_len) [
    | inl lt ↦ b.before k lt
    | inr ge ↦ b.none k ge ∙ sym (by (metas k) refl ge)
  ]
    where
      by : (o : Option Meta) → metas k ≡ o → md_len ≤ k → marked_blobs metas k ≡ None
      by None there ge = marked_at k None there
      by (Some m) there ge =
          let lt = below k (subst IsSome (sym there) refl) in absurd (omega (arith, lt, ge))
