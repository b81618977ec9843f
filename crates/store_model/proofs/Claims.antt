-- Open claims of rows, as rows change.
use Rattle.std.proofs.Common.{◌≡◌, ℕ, Bool, List, Option, None, Some, inl, inr, sym, subst, ap, ◌∙◌, [], true}
use Rattle.super_block.specs.declared.page.Super.{Super}
use Rattle.store_model.specs.Maps.{Metas}
use Rattle.store_model.specs.Rows.{OpenClaim, Row, Rows, with_row}
use Rattle.store_model.specs.Places.{ClaimsDiffer, Unclaimed, UsedClusters, claimed_by, HasClaim, IsClaimed}
use Rattle.store_model.proofs.RowsKept.{row_same}
use Rattle.store_model.specs.StoreState.{JobState}
use Rattle.md_chain.specs.Chain.{is_among}

-- a row is another with the same claim: each row has the claim that it had
pub with_row_same : (rows : Rows) (channel : ℕ) (row : Row) → row.claim ≡ (rows channel).claim → (c : ℕ)
    → (with_row rows channel row c).claim ≡ (rows c).claim
with_row_same rows channel row = row_same rows channel row (λ r. r.claim)

-- as of one without a claim that was without one
pub with_row_claims : (rows : Rows) (channel : ℕ) (row : Row) → (rows channel).claim ≡ None → row.claim ≡ None → (c : ℕ)
    → (with_row rows channel row c).claim ≡ (rows c).claim
with_row_claims rows channel row none given = with_row_same rows channel row (given ∙ sym none)

-- rows with the same claims have claimed the same clusters
pub claimed_still : (rows other : Rows) → ((c : ℕ) → (other c).claim ≡ (rows c).claim) → (cluster : ℕ)
    → IsClaimed rows cluster → IsClaimed other cluster
claimed_still rows other same cluster x =
    record { channel = x.channel; claim = x.claim; held = same x.channel ∙ x.held; is = x.is }

module _ (rows other : Rows) (a b : Option JobState) (same : (c : ℕ) → (other c).claim ≡ (rows c).claim)
    (job : claimed_by b ≡ claimed_by a) where
  claimed_there : (cluster : ℕ) → HasClaim rows a cluster → HasClaim other b cluster
  claimed_there cluster (inl x) = inl (claimed_still rows other same cluster x)
  claimed_there cluster (inr among) = inr (ap (is_among cluster) job ∙ among)

  claimed_back : (cluster : ℕ) → HasClaim other b cluster → HasClaim rows a cluster
  claimed_back cluster (inl x) = inl (claimed_still other rows (λ c. sym (same c)) cluster x)
  claimed_back cluster (inr among) = inr (sym (ap (is_among cluster) job) ∙ among)

  -- the same claims keep the clusters in use
  pub used_still : (s : Super) (bits : List Bool) (metas : Metas) → UsedClusters s bits metas (HasClaim rows a)
      → UsedClusters s bits metas (HasClaim other b)
  used_still s bits metas u = record {
    count = u.count;
    fixed = u.fixed;
    mapped = u.mapped;
    claimed_too = λ c x. u.claimed_too c (claimed_back c x);
    no_other = λ c is. elim (u.no_other c is) [
      | inl low ↦ inl low
      | inr rest ↦ elim rest [ inl mapped ↦ inr (inl mapped) | inr claimed ↦ inr (inr (claimed_there c claimed)) ]
    ];
    apart = λ c x. u.apart c (claimed_back c x);
  }

  -- and they differ still
  pub differ_still : ClaimsDiffer rows a → ClaimsDiffer other b
  differ_still differ = record {
    rows = λ c k x y held held_too e. differ.rows c k x y (sym (same c) ∙ held) (sym (same k) ∙ held_too) e;
    job = λ c x held. ap (is_among x.cluster) job ∙ differ.job c x (sym (same c) ∙ held);
  }

-- ---- no claim is open

module _ (rows : Rows) (job : Option JobState) (none : (c : ℕ) → (rows c).claim ≡ None)
    (empty : claimed_by job ≡ []) where
  never : (c : ℕ) (x : OpenClaim) → (rows c).claim ≡ Some x → ⊥
  never c x held = let bad = sym (none c) ∙ held in cc bad

  not_claimed : (cluster : ℕ) → HasClaim rows job cluster → ⊥
  not_claimed cluster (inl x) = never x.channel x.claim x.held
  not_claimed cluster (inr among) =
      let bad : is_among cluster [] ≡ true = subst (λ l. is_among cluster l ≡ true) empty among in cc bad

  pub used_unclaimed : (s : Super) (bits : List Bool) (metas : Metas) → UsedClusters s bits metas Unclaimed
      → UsedClusters s bits metas (HasClaim rows job)
  used_unclaimed s bits metas u = record {
    count = u.count;
    fixed = u.fixed;
    mapped = u.mapped;
    claimed_too = λ c x. absurd (not_claimed c x);
    no_other = λ c is. elim (u.no_other c is) [
      | inl low ↦ inl low
      | inr rest ↦ elim rest [ inl mapped ↦ inr (inl mapped) | inr bad ↦ absurd bad ]
    ];
    apart = λ c x. absurd (not_claimed c x);
  }

  pub differ_unclaimed : ClaimsDiffer rows job
  differ_unclaimed = record {
    rows = λ c k x y held held_too e. absurd (never c x held);
    job = λ c x held. absurd (never c x held);
  }

  pub unclaimed_used : (s : Super) (bits : List Bool) (metas : Metas) → UsedClusters s bits metas (HasClaim rows job)
      → UsedClusters s bits metas Unclaimed
  unclaimed_used s bits metas u = record {
    count = u.count;
    fixed = u.fixed;
    mapped = u.mapped;
    claimed_too = λ c bad. absurd bad;
    no_other = λ c is. elim (u.no_other c is) [
      | inl low ↦ inl low
      | inr rest ↦ elim rest [ inl mapped ↦ inr (inl mapped) | inr x ↦ absurd (not_claimed c x) ]
    ];
    apart = λ c bad. absurd bad;
  }
