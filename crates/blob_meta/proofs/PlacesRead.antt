-- Where a page is read, a step through a parent at a time.
use Rattle.std.proofs.Common.{◌≡◌, ℕ, zero, suc, ◌+◌, ◌-◌, ◌<◌, Option, Some, None, refl, ap, ◌∙◌, arith}
use Rattle.blob_meta.specs.declared.meta.Meta.{Meta}
use Rattle.blob_meta.specs.Pages.{own_place, parent_with, place_read}

module _ (k : ℕ) (metas : ℕ → Option Meta) (page : ℕ) where
  -- no blob is there
  pub read_nowhere : (n head : ℕ) → metas head ≡ None → place_read k metas n head page ≡ None
  read_nowhere zero head none = refl
  read_nowhere (suc n) head none = rw none refl

  module _ (head : ℕ) (m : Meta) (there : metas head ≡ Some m) where
    -- its own slot has a cluster
    pub read_own : (times done place : ℕ) → done < times → own_place k m page ≡ Some place
        → place_read k metas (times - done) head page ≡ Some place
    read_own times done place lt own =
        let e : times - done ≡ suc (times - (done + 1)) = omega (arith, lt) in
        ap (λ n. place_read k metas n head page) e ∙ rw (there, own) refl

    -- no parent has the page
    pub read_zeros : (times done : ℕ) → done < times → own_place k m page ≡ None → parent_with k metas m page ≡ None
        → place_read k metas (times - done) head page ≡ None
    read_zeros times done lt own parent =
        let e : times - done ≡ suc (times - (done + 1)) = omega (arith, lt) in
        ap (λ n. place_read k metas n head page) e ∙ rw (there, own, parent) refl

    -- a parent has it
    pub read_through : (times done p : ℕ) → done < times → own_place k m page ≡ None
        → parent_with k metas m page ≡ Some p
        → place_read k metas (times - done) head page ≡ place_read k metas (times - (done + 1)) p page
    read_through times done p lt own parent =
        let e : times - done ≡ suc (times - (done + 1)) = omega (arith, lt) in
        ap (λ n. place_read k metas n head page) e ∙ rw (there, own, parent) refl
