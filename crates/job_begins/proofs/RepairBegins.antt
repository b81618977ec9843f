-- The begin of a repair, as a case, and what its job leads to.
use Rattle.std.proofs.Common.{◌≡◌, ◌≢◌, ◌↔◌, ℕ, ◌<◌, Bool, true, false, List, ◌∷◌, Option, Some, None, refl, sym, ap}
use Rattle.std.proofs.Common.{[], All}
use Rattle.std.proofs.Common.{◌∙◌, subst}
use Rattle.std.proofs.Common.{length, inl, inr}
use Rattle.std.specs.Prelude.{is_some, take, IsSome}
use Rattle.std.specs.FinMap as map
use Rattle.std.proofs.Math.Path.{fun_ext}
use Rattle.std.proofs.lemmas.Bool.{cases_eq, eq-eqb, ne_eqb}
use Rattle.bit_array.specs.Bits.{is_in}
use Rattle.page_disk.specs.declared.disk.PageDisk.{Ghosts}
use Rattle.super_block.specs.declared.page.Super.{Super}
use Rattle.blob_meta.specs.declared.meta.Meta.{Meta}
use Rattle.blob_meta.specs.Faults.{clusters_held}
use Rattle.blob_meta.specs.Repairs.{after, HasHeadsBelow}
use Rattle.blob_meta.specs.Resolving.{mark_of, resolved}
use Rattle.blob_meta.proofs.RepairsInTurn.{repaired_resolves}
use Rattle.md_chain.specs.Chain.{is_among}
use Rattle.md_chain.specs.Packing.{FitsPage}
use Rattle.store_model.specs.Cases.BeginRepair.{BeginsRepair}
use Rattle.store_model.specs.Jobs.{IsJobPlanned}
use Rattle.store_model.specs.Maps.{with_option, without_entry, Metas}
use Rattle.store_model.specs.RunInvariant.{AreStored, RunsWell}
use Rattle.store_model.specs.Steady.{IsStored}
use Rattle.store_model.specs.StoreState.{marked, StoreState}
use Rattle.store_model.proofs.Resolved.{map_of, resolved_of, resolved_stored, IsOf}
use Rattle.store_model.proofs.Used.{within}
use Rattle.store_model.proofs.WithEntry.{given_elsewhere, given_here}
use Rattle.running_store.specs.Jobs.{erasure_of, removing_for, replacing_of, writing_for}
use Rattle.running_store.specs.RunningState.{IsRunning}
use Rattle.running_store.specs.StoreView.{state_of, AreResolved, StoreView}
use Rattle.running_store.specs.Blobs.{CanBeKept}
use Rattle.running_store.specs.declared.replacements.Change.TheVariants as change
use Rattle.running_store.specs.declared.replacements.Erasure.{Erasure}
use Rattle.running_store.specs.declared.replacements.Planned.{Planned}
use Rattle.running_store.specs.declared.job.Serves.TheVariants as whom
use Rattle.running_store.proofs.KeptAlone.{kept_given, kept_without}
use Rattle.running_store.proofs.Maps.{insert_given, remove_given}
use Rattle.running_store.proofs.Resolved.{resolved_none}
use Rattle.job_views.specs.Replacing.{blobs_in}
use Rattle.job_begins.proofs.PlacesThere.{places_there}
use Rattle.job_begins.specs.Alone.{AreChained, HaveRoom, IsMappedBeside, IsMissing}
use Rattle.job_begins.specs.Begins.{no_effects, planned_with, IsPrepared}
use Rattle.job_begins.specs.Repairs.{IsDue, IsLackForRepair, RepairsOrNot}
use Rattle.job_begins.specs.declared.preparing.Prepared.{Prepared}
use Rattle.job_begins.specs.declared.repairing.RepairTurn.{RepairTurn}
use Rattle.job_begins.specs.declared.repairing.RepairTurn.TheVariants as repair
use Rattle.job_begins.proofs.ClustersAlone.{erased_moves, moves_same}
use Rattle.job_begins.proofs.CutClusters.{in_slot}
use Rattle.job_begins.proofs.JobLaid.{laid}
use Rattle.job_begins.proofs.JobPlanned.{both_fit}

-- what a repair lacks is what its begin comes to
pub lack_or_not : {D : Type 0} (d : Ghosts D) (p q : StoreView D) (head : ℕ) (turn : RepairTurn)
    → IsDue p.super.md_len (state_of d p).base head → IsLackForRepair (state_of d p) head turn → q ≡ p
    → RepairsOrNot d p q turn
lack_or_not d p q head (repair.NoPage at has wants) due lack same = (lack, same)
lack_or_not d p q head repair.Memory due lack same = ((head, due), same)
lack_or_not d p q head _ due lack same = absurd lack

-- a blob that is there
pub some_there : (o : Option Meta) → IsSome o → (m : Meta) × (o ≡ Some m)
some_there None bad = absurd (cc bad)
some_there (Some m) some = (m, refl)

-- the store can hold each blob that is there,
pub stored_base : (p : StoreState) → IsRunning p → AreStored p.super p.base
stored_base p running = subst (λ (y : Super). AreStored y p.base) (sym running.facts.super) running.facts.stored

-- so that its head is in the region
pub heads_below : (p : StoreState) → IsRunning p → HasHeadsBelow p.super.md_len p.base
heads_below p running head some = by (p.base head) refl some
  where
    by : (o : Option Meta) → p.base head ≡ o → IsSome o → head < p.super.md_len
    by None is some = absurd (cc some)
    by (Some m) is some = (stored_base p running head m is).low

module _ {D : Type 0} (d : Ghosts D) (p : StoreView D) (running : IsRunning (state_of d p))
    (runs : p.stopped ≡ None) where
  abbrev s : StoreState
  s = state_of d p

  well : RunsWell running.first s
  well = running.facts.well runs

  stored : AreStored s.super s.base
  stored = stored_base s running

  -- all clusters of blobs are among those that there are
  pub room : HaveRoom s.base (length p.clusters)
  room head m c there among =
      let at = in_slot m.map c among in
      within p.clusters c (well.clusters.mapped c
      (record { head = head; meta = m; there = there; place = at.i; in_slot = at.at }))

  -- each blob has a chain
  pub chained : AreChained s.base s.chains
  chained head m there = ap is_some (well.chains.chain head m there).1

  -- and so are those of one of them
  pub room_for : (head : ℕ) (m : Meta) → s.base head ≡ Some m → (count : ℕ) → count ≡ length p.clusters → (k : ℕ)
      → is_among k (clusters_held m.map) ≡ true → k < count
  room_for head m there count count_is k among = subst (λ n. k < n) (sym count_is) (room head m k there among)

  module _ (no_job : p.job ≡ None) (head : ℕ) (due : IsDue s.super.md_len s.base head) where
    -- the repair that is due leaves what the metadata resolves to as it is
    unseen : resolved (with_option s.base head (resolved s.base head)) ≡ resolved s.base
    unseen = fun_ext (λ h. ap (λ l. resolved (after s.base (take 1 l)) h) (sym due.1)
        ∙ repaired_resolves s.super.md_len s.base (heads_below s running) 1 h)

    -- ---- a blob that is kept

    module _ (are : AreResolved p.metas p.marked) {new : Meta} (there : map.get p.metas head ≡ Some new) where
      pub given : resolved s.base head ≡ Some new
      given = ap (λ (f : Metas). f head) are.resolves ∙ there

      pub stored_new : IsStored s.super head new
      stored_new = resolved_stored s.super s.base stored head new given

      pub fits_new : All FitsPage new.xattrs × All FitsPage new.internal
      fits_new = both_fit new (stored_new.xattrs, stored_new.internal)

      old_is : IsOf s.base head new
      old_is = resolved_of s.base head new given

      pub has_chain : (behind : List ℕ) × (s.chains head ≡ Some (head ∷ behind))
      has_chain = well.chains.chain head old_is.old old_is.there

      same_metas : map.get p.metas ≡ map.get (map.insert p.metas head new)
      same_metas = fun_ext (λ q. elim (cases_eq q head) [
        | inl e ↦ ap (map.get p.metas) e ∙ there ∙ sym (given_here (map.get p.metas) head new q e)
        | inr ne ↦ sym (given_elsewhere (map.get p.metas) head new q ne)
      ] ∙ sym (ap (λ (f : Metas). f q) (insert_given p.metas head new)))

      module _ (after : List Bool) (x : Prepared) (is : IsPrepared p.chains head new false p.pages after x) where
        abbrev planned : Planned
        planned = planned_with x head new no_effects

        pub mends : BeginsRepair s (state_of d (record p {
          pages = after;
          job = Some (marked p.clean (writing_for whom.Repair planned x.old 0 []));
        }))
        mends =
            let known = laid s running runs no_job head new stored_new has_chain p.chains after x is in
            record {
              runs = runs;
              no_job = no_job;
              repair = record { head = head; new = resolved s.base head };
              others = due.0;
              due = due.1;
              replacing = replacing_of planned x.old;
              laid = record {
                head = refl;
                new = sym given;
                chain = is.behind (ap is_some has_chain.1);
                unerased = λ bad. absurd (cc bad);
                planned = subst (λ (o : Option Meta). IsJobPlanned s.super s.pages o (replacing_of planned x.old))
                    (sym given) (record {
                      needs = known.needs;
                      least = known.least;
                      packed = known.packed;
                      places = known.places;
                      says = known.planned;
                    });
                clusters = moves_same s.super s.base head old_is.old new old_is.there (map_of s.base head new old_is);
              };
              next = ap (λ (bits : List Bool). record s {
                pages = bits;
                job = Some (marked p.clean (writing_for whom.Repair planned x.old 0 []));
              }) known.taken;
            }

        -- it can be kept in memory
        pub mends_to : CanBeKept (blobs_in p) (change.Writes planned)
        mends_to =
            let unmarked : mark_of new ≡ None = resolved_none s.base head new given in
            kept_given (blobs_in p) planned are unmarked
            (ap (λ (o : Option Meta). resolved (with_option s.base head o)) (sym given) ∙ unseen ∙ are.resolves
            ∙ same_metas) refl
            (places_there (blobs_in p) head new unmarked (ap is_some has_chain.1) (ap is_some there))

    -- ---- a blob that is removed

    module _ (are : AreResolved p.metas p.marked) (none : map.get p.metas head ≡ None) (old : Meta)
        (there : s.base head ≡ Some old) where
      gone : resolved s.base head ≡ None
      gone = ap (λ (f : Metas). f head) are.resolves ∙ none

      abbrev pub erasure : List ℕ → Erasure
      erasure freed = record { head = head; commit = None; freed = freed }

      pub chain_there : (behind : List ℕ) × (s.chains head ≡ Some (head ∷ behind))
      chain_there = well.chains.chain head old there

      -- without it the store has in memory what it had
      pub removes_to : (freed : List ℕ) → CanBeKept (blobs_in p) (change.Erases (erasure freed))
      removes_to freed = kept_without (blobs_in p) (erasure freed) are
          (ap (λ (o : Option Meta). resolved (with_option s.base head o)) (sym gone) ∙ unseen ∙ are.resolves
          ∙ fun_ext (λ q. elim (cases_eq q head) [
            | inl e ↦ ap (map.get p.metas) e ∙ none ∙ sym (out q e)
            | inr ne ↦ sym (still q ne)
          ] ∙ sym (ap (λ (f : Metas). f q) (remove_given p.metas head)))) refl
          (record { live_fits = tt; shown_fits = tt; numbers = tt })
        where
          out : (q : ℕ) → q ≡ head → without_entry (map.get p.metas) head q ≡ None
          out q e = rw (eq-eqb q head e) refl

          still : (q : ℕ) → q ≢ head → without_entry (map.get p.metas) head q ≡ map.get p.metas q
          still q ne = rw (ne_eqb q head ne) refl

      pub removes : (bits : List Bool)
          → ((c : ℕ) → (is_in bits c ≡ true) ↔ IsMappedBeside s.super.md_len s.base head c) → (freed : List ℕ)
          → ((c : ℕ) → (is_among c freed ≡ true) ↔ IsMissing bits old.map c) → (behind : List ℕ)
          → s.chains head ≡ Some (head ∷ behind)
          → BeginsRepair s
          (state_of d (record p { job = Some (marked p.clean (removing_for whom.Repair (erasure freed) behind [])) }))
      removes bits bits_are freed freed_are behind chain = record {
        runs = runs;
        no_job = no_job;
        repair = record { head = head; new = resolved s.base head };
        others = due.0;
        due = due.1;
        replacing = erasure_of (erasure freed) behind;
        laid = record {
          head = refl;
          new = sym gone;
          chain = chain;
          unerased = λ bad. absurd (cc bad);
          planned = subst (λ (o : Option Meta). IsJobPlanned s.super s.pages o (erasure_of (erasure freed) behind))
              (sym gone)
              (refl, refl, refl);
          clusters = erased_moves s.super s.base stored head old there bits bits_are freed freed_are;
        };
        next = refl;
      }
