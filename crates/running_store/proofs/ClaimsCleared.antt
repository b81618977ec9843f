-- The clusters in use once the rows have given their claims back, one after another.
use Rattle.std.proofs.Common.{None, ◌≡◌, ℕ, zero, suc, ◌<◌, ◌≤◌, Bool, List, [], ◌∙◌, ap, subst, arith}
use Rattle.std.proofs.Common.{inl, inr, refl}
use Rattle.std.proofs.lemmas.Bool.{cases_eq, cases_lt}
use Rattle.super_block.specs.declared.page.Super.{Super}
use Rattle.pools.specs.Pool.{PoolState}
use Rattle.store_model.specs.Claiming.{given_back}
use Rattle.store_model.specs.Maps.{Metas}
use Rattle.store_model.specs.Places.{claimed_by, Unclaimed, UsedClusters, without_claim}
use Rattle.store_model.specs.Rows.{Idle, Row, with_row}
use Rattle.store_model.specs.RunInvariant.{RunsWell}
use Rattle.store_model.specs.StoreState.{StoreState}
use Rattle.store_model.proofs.Claims.{unclaimed_used}
use Rattle.store_model.proofs.ClaimSets.{AreHeld, held_without}
use Rattle.store_model.proofs.Copies.{copied_same}
use Rattle.store_model.proofs.RowsKept.{row_here, row_other}
use Rattle.running_store.specs.LoadedWhole.{without_first}
use Rattle.running_store.specs.StoreView.{rows_of}

-- how far they are cleared
pub record ClearsClaims (old : List Bool) (rows : List Row) (i : ℕ) (p : PoolState) : Type 0 where
  pub unclaimed : p.claims ≡ []
  pub so_far : p.bits ≡ without_first old (rows_of rows) i

module _ (p : StoreState) where
  -- the state once so many have
  abbrev after : ℕ → StoreState
  after zero = p
  after (suc i) = given_back (after i) i Idle

  abbrev gone : ℕ → Row
  gone i = record { left = ((after i).rows i).left; stage = Idle; claim = None }

  held : AreHeld p p.rows p.clusters → (i : ℕ) → AreHeld (after i) (after i).rows (after i).clusters
  held h zero = h
  held h (suc i) =
      let x = held_without (after i) i (gone i) (held h i) refl in
      record {
        used = x.used;
        differ = x.differ;
        drawn = x.drawn;
        copied = copied_same (record (after i) { rows = with_row (after i).rows i (gone i) }) (after (suc i)) x.copied
            refl refl refl (λ row claim page y. y) refl;
      }

  later : (i c : ℕ) → i ≤ c → (after i).rows c ≡ p.rows c
  later zero c le = refl
  later (suc i) c le =
      row_other (after i).rows i (gone i) c (λ e. omega (arith, le, e)) ∙ later i c (omega (arith, le))

  none_held : (i c : ℕ) → c < i → ((after i).rows c).claim ≡ None
  none_held zero c lt = absurd (omega (arith, lt))
  none_held (suc i) c lt = elim (cases_eq c i) [
    | inl e ↦ ap (λ (r : Row). r.claim) (row_here (after i).rows i (gone i) c e)
    | inr ne ↦ ap (λ (r : Row). r.claim) (row_other (after i).rows i (gone i) c ne)
        ∙ none_held i c (omega (arith, lt, ne))
  ]

  cleared : (i : ℕ) → (after i).clusters ≡ without_first p.clusters p.rows i
  cleared zero = refl
  cleared (suc i) =
      ap (λ (bits : List Bool). without_claim bits ((after i).rows i).claim) (cleared i)
      ∙ ap (λ (r : Row). without_claim (without_first p.clusters p.rows i) r.claim) (later i i (omega arith))

  super_still : (i : ℕ) → (after i).super ≡ p.super
  super_still zero = refl
  super_still (suc i) = super_still i

  base_still : (i : ℕ) → (after i).base ≡ p.base
  base_still zero = refl
  base_still (suc i) = base_still i

  no_job_still : claimed_by p.job ≡ [] → (i : ℕ) → claimed_by (after i).job ≡ []
  no_job_still none zero = none
  no_job_still none (suc i) = no_job_still none i

  -- where no row behind them holds a claim, no cluster is claimed any more
  pub all_given_back : (first : _) → RunsWell first p → claimed_by p.job ≡ [] → (count : ℕ)
      → ((c : ℕ) → count ≤ c → (p.rows c).claim ≡ None)
      → UsedClusters p.super (without_first p.clusters p.rows count) p.base Unclaimed
  all_given_back first well none count past =
      let h = held (record {
        used = well.clusters;
        differ = well.claims;
        drawn = well.claims_drawn;
        copied = well.copied;
      }) count in
      let q = after count in
      let used : UsedClusters q.super q.clusters q.base Unclaimed =
      unclaimed_used q.rows q.job never (no_job_still none count) q.super q.clusters q.base h.used in
      subst (λ (s : Super). UsedClusters s (without_first p.clusters p.rows count) p.base Unclaimed)
      (super_still count)
      (subst (λ (b : Metas). UsedClusters q.super (without_first p.clusters p.rows count) b Unclaimed)
      (base_still count)
      (subst (λ (bits : List Bool). UsedClusters q.super bits q.base Unclaimed) (cleared count) used))
    where
      never : (c : ℕ) → ((after count).rows c).claim ≡ None
      never c = elim (cases_lt c count) [
        | inl lt ↦ none_held count c lt
        | inr ge ↦ ap (λ (r : Row). r.claim) (later count c ge) ∙ past c ge
      ]
