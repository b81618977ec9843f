-- What is known of an insert before its job begins: the metadata that is to be written, and the pages on which it is
-- laid.
use Rattle.std.proofs.Common.{◌≡◌, ◌⊎◌, ℕ, ◌<◌, true, false, List, [], ◌∷◌}
use Rattle.std.proofs.Common.{drop, Some, None, refl, sym, subst, arith, inl, inr, Bool}
use Rattle.std.specs.Ordering.{nat_cmp}
use Rattle.std.specs.FinMap as map
use Rattle.super_block.specs.declared.page.Super.{Super}
use Rattle.super_block.specs.Placed.{IsPlaced}
use Rattle.blob_meta.specs.Repairs.{HasNoMarks}
use Rattle.blob_meta.specs.declared.meta.Meta.{Meta}
use Rattle.md_chain.specs.Chain.{is_among}
use Rattle.store_model.specs.Claiming.{CanInsert}
use Rattle.store_model.specs.Inserting.{with_slot}
use Rattle.store_model.specs.Jobs.{MovesClusters}
use Rattle.store_model.specs.Maps.{with_entry}
use Rattle.store_model.specs.Places.{HasClaim, IsMapped}
use Rattle.store_model.specs.Regions.{region_of}
use Rattle.store_model.specs.Rows.{OpenClaim}
use Rattle.store_model.specs.RunInvariant.{IsSteady, RunsWell}
use Rattle.store_model.specs.StoreState.{StoreState}
use Rattle.store_model.proofs.InsertedBlob.{inserted_steady, inserted_mapped, mapped_still, mapped_then}
use Rattle.store_model.proofs.Inside.{IsInside}
use Rattle.store_model.proofs.Resolved.{steady_unmarked}
use Rattle.store_model.proofs.Sets.{among_either, among_first}
use Rattle.store_model.proofs.Used.{within}
use Rattle.job_begins.specs.Begins.{IsPrepared}
use Rattle.running_store.specs.RunningState.{IsRunning}
use Rattle.job_begins.specs.declared.preparing.Prepared.{Prepared}
use Rattle.job_begins.proofs.JobPlanned.{IsReady}
use Rattle.job_begins.proofs.JobLaid.{laid}

module _ (p : StoreState) (running : IsRunning p) (runs : p.stopped ≡ None) (row : ℕ) (claim : OpenClaim)
    (held : (p.rows row).claim ≡ Some claim) where
  well : RunsWell running.first p
  well = running.facts.well runs

  placed : IsPlaced p.super
  placed = subst IsPlaced (sym running.facts.super) running.placed

  claimed : HasClaim p.rows p.job claim.cluster
  claimed = inl (record { channel = row; claim = claim; held = held; is = refl })

  -- ---- the cluster

  -- it is none of the fixed ones, and so not 0
  pub some_cluster : 0 < claim.cluster
  some_cluster =
      let behind = (well.clusters.apart claim.cluster claimed).0 in
      let some = placed.some_fixed in
      omega (arith, behind, some)

  inside : IsInside (region_of p.super).fixed (region_of p.super).clusters claim.cluster
  inside =
      let low = within p.clusters claim.cluster (well.clusters.claimed_too claim.cluster claimed) in
      record {
        behind = (well.clusters.apart claim.cluster claimed).0;
        below = omega (arith, low, well.clusters.count);
      }

  -- ---- the metadata

  module _ (meta : Meta) (can : CanInsert p claim meta) (clean : HasNoMarks p.base) where
    abbrev pub new : Meta
    new = with_slot meta claim.slot claim.cluster

    old_steady : IsSteady p.super claim.head meta
    old_steady = subst (λ (s : Super). IsSteady s claim.head meta) (sym running.facts.super)
        (steady_unmarked running.store p.base running.facts.stored running.facts.named clean claim.head meta can.there)

    pub steady : IsSteady p.super claim.head new
    steady = inserted_steady meta claim.slot claim.cluster can.within can.empty p.super claim.head inside
        old_steady

    -- its cluster is in the map then, and all others stay
    pub moves : MovesClusters p.super p.base (with_entry p.base claim.head new) [] (claim.cluster ∷ [])
    moves = record {
      kept = λ c x.
          inl (mapped_still meta claim.slot claim.cluster can.within can.empty p.base claim.head can.there c x);
      let_go = λ c bad. absurd (cc bad);
      gained = λ c x.
          by c (mapped_then meta claim.slot claim.cluster can.within can.empty p.base claim.head can.there c x);
      filled = λ c among. elim (among_either c claim.cluster [] among) [
        | inl e ↦ subst (IsMapped (with_entry p.base claim.head new)) (sym e)
            (inserted_mapped meta claim.slot claim.cluster can.within can.empty p.base claim.head can.there)
        | inr bad ↦ absurd (cc bad)
      ];
    }
      where
        by : (c : ℕ) → IsMapped p.base c ⊎ (c ≡ claim.cluster)
            → IsMapped p.base c ⊎ (is_among c (claim.cluster ∷ []) ≡ true)
        by c (inl was) = inl was
        by c (inr e) = inr (subst (λ n. is_among n (claim.cluster ∷ []) ≡ true) (sym e) (among_first claim.cluster []))

    pub has_chain : (behind : List ℕ) × (p.chains claim.head ≡ Some (claim.head ∷ behind))
    has_chain = well.chains.chain claim.head meta can.there

    -- ---- laid on pages

    pub ready : p.job ≡ None → (chains : map.FinMap nat_cmp (List ℕ)) (after : List Bool) (x : Prepared)
        → IsPrepared chains claim.head new false p.pages after x
        → IsReady p claim.head new false after x.laid.pages (drop 1 x.laid.chain)
    ready no_job = laid p running runs no_job claim.head new steady.stored has_chain
