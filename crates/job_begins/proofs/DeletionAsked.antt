-- What the delete of a blob with one clone asks for, before its job begins.
use Rattle.std.proofs.Common.{◌≡◌, ◌≢◌, ◌∙◌, ℕ, ◌<◌, false, List, [], ◌∷◌, length, Some, None, refl, sym, ap}
use Rattle.std.proofs.Common.{arith, inl, inr, subst}
use Rattle.volume_model.specs.Refusals.{refusal}
use Rattle.volume_model.specs.Steps.{named_head}
use Rattle.volume_model.specs.Volumes.{head_of, two_xattrs, Fixed}
use Rattle.volume_model.specs.declared.command.Command.{Command}
use Rattle.volume_model.specs.declared.command.Command.TheVariants as c
use Rattle.volume_model.specs.declared.command.VolumeRef.{VolumeRef}
use Rattle.blob_meta.specs.Faults.{clusters_held}
use Rattle.blob_meta.specs.Jobs.{create_job, job_of_one, resize_job}
use Rattle.blob_meta.specs.Parents.{is_locked, slot}
use Rattle.blob_meta.specs.Repairs.{HasNoMarks}
use Rattle.blob_meta.specs.declared.job.Job.{Job}
use Rattle.blob_meta.specs.declared.job.Replacement.{Replacement}
use Rattle.blob_meta.specs.declared.meta.Meta.{Meta}
use Rattle.snapshots.specs.SnapshotJobs.{clone_job, snapshot_job}
use Rattle.inflate_delete.specs.Clones.{clones_below}
use Rattle.inflate_delete.specs.DeleteJobs.{delete_job, erase_job, going_blob, heir_of}
use Rattle.inflate_delete.specs.DeletePlans.{IsJobBeside}
use Rattle.inflate_delete.specs.FillJobs.{fill_job}
use Rattle.inflate_delete.specs.Fills.{parent_blob}
use Rattle.shown_volumes.specs.ShowsStep.{IsAtRest}
use Rattle.shown_volumes.specs.StoredLaws.{AreStoredWell, IsStoredWell}
use Rattle.shown_volumes.proofs.BlobsShown.{shows_blob, volume_at}
use Rattle.shown_volumes.proofs.DeleteParts as parts
use Rattle.shown_volumes.proofs.PartsStored.{parts_stored}
use Rattle.shown_volumes.proofs.Passing.{delete_unlocked}
use Rattle.shown_volumes.proofs.StoredJobs.{jobs_stored}
use Rattle.store_model.specs.Asking.{clones, creates, deletes, fills, IsJobFor, resizes, snapshots, syncs}
use Rattle.store_model.specs.Maps.{with_entry, Metas}
use Rattle.store_model.specs.Phases.{Committing}
use Rattle.store_model.specs.Places.{IsMapped}
use Rattle.store_model.specs.RunInvariant.{RunsWell}
use Rattle.store_model.specs.Shown.{fixed_of, shown_by}
use Rattle.store_model.specs.Steady.{AreStored, IsStored}
use Rattle.store_model.specs.StoreState.{shown, StoreState}
use Rattle.store_model.proofs.ChangedLive.{deleted_commit}
use Rattle.store_model.proofs.FamilyStep.{at_rest}
use Rattle.store_model.proofs.Known.{Known}
use Rattle.store_model.proofs.OneReplacement.{base_resolved, base_steady}
use Rattle.store_model.proofs.Sets.{AllBelow}
use Rattle.store_model.proofs.Used.{within}
use Rattle.store_model.proofs.WithEntry.{given_here}
use Rattle.running_store.specs.RunningState.{IsRunning}
use Rattle.job_begins.specs.Deletions.{deletion_changes, AsksToDelete}
use Rattle.job_begins.specs.declared.asking.DeletionAsk.{DeletionAsk}
use Rattle.job_begins.proofs.CutClusters.{in_slot}
use Rattle.job_begins.proofs.JobPlanned.{given}
use Rattle.job_begins.proofs.ListMoves.{marks_moves, takes_moves}

-- The blob is there, and so is its one clone; nothing refuses the delete, and its job is that of these two.
pub record IsDeletion (p : StoreState) (command : Command) (x : DeletionAsk) : Type 0 where
  pub old : Meta
  pub there : p.base x.of ≡ Some old
  pub heir : Meta
  pub there_too : p.base x.clone ≡ Some heir
  pub one : clones_below p.super.md_len p.base x.of ≡ x.clone ∷ []
  pub going_is : x.going ≡ going_blob old x.clone
  pub taking_is : x.taking ≡ heir_of heir old
  pub asked : IsJobFor p command (delete_job x.of old x.clone heir) (deleted_commit x.of (x.clone ∷ []))
  pub volume : VolumeRef
  pub found : head_of (fixed_of p.super) (shown p) volume ≡ Some x.of
  pub passed : refusal (fixed_of p.super) (shown p) (c.Delete volume) ≡ None

-- ---- of all verbs, only a delete has such a job

-- the three changes of a delete of a blob with a clone say what these are
pub record AreSameThree (of : ℕ) (old : Meta) (clone : ℕ) (heir : Meta) (x : DeletionAsk) : Type 0 where
  pub of_is : of ≡ x.of
  pub clone_is : clone ≡ x.clone
  pub going_is : going_blob old clone ≡ x.going
  pub taking_is : heir_of heir old ≡ x.taking

same_three : (of : ℕ) (old : Meta) (clone : ℕ) (heir : Meta) (x : DeletionAsk)
    → (delete_job of old clone heir).list ≡ deletion_changes x → AreSameThree of old clone heir x
same_three of old clone heir x lists =
    let first : given of (Some (going_blob old clone)) ≡ given x.of (Some x.going) = cc lists in
    let second : given clone (Some (heir_of heir old)) ≡ given x.clone (Some x.taking) = cc lists in
    let going : Some (going_blob old clone) ≡ Some x.going = ap (λ (y : Replacement). y.new) first in
    let taking : Some (heir_of heir old) ≡ Some x.taking = ap (λ (y : Replacement). y.new) second in
    record {
      of_is = ap (λ (y : Replacement). y.head) first;
      clone_is = ap (λ (y : Replacement). y.head) second;
      going_is = cc going;
      taking_is = cc taking;
    }

module _ (p : StoreState) (command : Command) (x : DeletionAsk) (asks : AsksToDelete p command x) where
  -- a job that is this one has three
  three : (job : Job) → asks.job ≡ job → length job.list ≡ 3
  three job is = ap (λ (j : Job). length j.list) (sym is) ∙ ap (λ (l : List Replacement). length l) asks.changes

  by : IsJobFor p command asks.job asks.commit → IsDeletion p command x
  by (syncs y) = let bad = three (job_of_one y.head y.new) y.is in absurd (omega (arith, bad))
  by (creates y) =
      let xattrs = two_xattrs (fixed_of p.super) (shown p) y.name y.uuid in
      let bad = three (create_job y.head xattrs y.thick y.slots) y.is in
      absurd (omega (arith, bad))
  by (resizes y) = let bad = three (resize_job y.head y.old y.slots) y.is in absurd (omega (arith, bad))
  by (clones y) =
      let bad = three (clone_job y.of y.old y.head (two_xattrs (fixed_of p.super) (shown p) y.name None)) y.is in
      absurd (omega (arith, bad))
  by (snapshots y) =
      let bad = three (snapshot_job y.of y.old y.head (two_xattrs (fixed_of p.super) (shown p) y.name None)) y.is in
      absurd (omega (arith, bad))
  by (fills y) =
      let bad = three (fill_job y.kind y.head y.old (parent_blob p.base y.old)) y.is in absurd (omega (arith, bad))
  by (deletes y) = beside y.clones y.clones_are y.is y.commit_is
    where
      beside : (clones_of : List ℕ) → clones_below p.super.md_len p.base y.of ≡ clones_of
          → IsJobBeside p.base y.of y.old clones_of asks.job → asks.commit ≡ deleted_commit y.of clones_of
          → IsDeletion p command x
      beside [] none is commit_is = let bad = three (erase_job y.of) is in absurd (omega (arith, bad))
      beside (clone ∷ []) one is commit_is =
          let same = same_three y.of y.old clone is.0 x (ap (λ (j : Job). j.list) (sym is.2) ∙ asks.changes) in
          record {
            old = y.old;
            there = ap p.base (sym same.of_is) ∙ y.there;
            heir = is.0;
            there_too = ap p.base (sym same.clone_is) ∙ is.1;
            one = ap (clones_below p.super.md_len p.base) (sym same.of_is) ∙ one
                ∙ ap (λ (h : ℕ). h ∷ []) same.clone_is;
            going_is = sym same.going_is ∙ ap (going_blob y.old) same.clone_is;
            taking_is = sym same.taking_is;
            asked = subst (λ (j : Job). IsJobFor p command j (deleted_commit x.of (x.clone ∷ [])))
                (is.2 ∙ (λ i. delete_job (same.of_is i) y.old (same.clone_is i) is.0))
                (subst (λ (m : Committing). IsJobFor p command asks.job m)
                (commit_is ∙ (λ i. deleted_commit (same.of_is i) (same.clone_is i ∷ []))) asks.asked);
            volume = y.volume;
            found = ap (named_head (fixed_of p.super) (shown p)) (sym y.command_is) ∙ y.found
                ∙ ap (λ (h : ℕ). Some h) same.of_is;
            passed = ap (refusal (fixed_of p.super) (shown p)) (sym y.command_is) ∙ y.asked;
          }
      beside (clone ∷ other ∷ rest) many is commit_is = absurd is

  pub is_deletion : IsDeletion p command x
  is_deletion = by asks.asked

-- ---- what is known of the two blobs

module _ {p : StoreState} (running : IsRunning p) (clean : HasNoMarks p.base) (runs : p.stopped ≡ None)
    {command : Command} {x : DeletionAsk} (it : IsDeletion p command x) where
  abbrev known : Known
  known = record {
    s = running.store;
    placed = running.placed;
    first = running.first;
    script = running.script;
    p = p;
    facts = running.facts;
  }

  abbrev f : Fixed
  f = fixed_of p.super

  well : RunsWell running.first p
  well = running.facts.well runs

  pub rest : IsAtRest f p.base
  rest = at_rest known clean

  -- the blob isn't locked, or the delete would be refused,
  pub unlocked : is_locked it.old.flags ≡ false
  unlocked =
      let shows = λ (m : Metas). shown_by f p.device.reads m p.live in
      let same = base_resolved known clean in
      delete_unlocked f (shows p.base) it.volume x.of
      (volume_at f p.base rest p.live p.device.reads x.of it.old)
      (subst (λ (m : Metas). head_of f (shows m) it.volume ≡ Some x.of) same it.found)
      (shows_blob f p.base rest p.live p.device.reads x.of it.old it.there)
      (subst (λ (m : Metas). refusal f (shows m) (c.Delete it.volume) ≡ None) same it.passed)

  -- and isn't its own clone
  pub apart : x.clone ≢ x.of
  apart = parts.apart f p.base rest x.of x.clone it.old it.heir it.there it.there_too it.one unlocked

  -- ---- the new metadata can be stored

  was_stored : (h : ℕ) (m : Meta) → p.base h ≡ Some m → IsStoredWell p.super h m
  was_stored h m is = let was = base_steady known clean h m is in record { stored = was.stored; named = was.named }

  all_stored : AreStoredWell p.super (delete_job x.of it.old x.clone it.heir)
  all_stored = (jobs_stored p.super).delete x.of x.clone it.old it.heir (was_stored x.of it.old it.there)
      (was_stored x.clone it.heir it.there_too)

  pub going_stored : IsStored p.super x.of x.going
  going_stored = subst (IsStored p.super x.of) (sym it.going_is) (all_stored.0 (going_blob it.old x.clone) refl).stored

  pub taking_stored : IsStored p.super x.clone x.taking
  taking_stored =
      subst (IsStored p.super x.clone) (sym it.taking_is) (all_stored.1.0 (heir_of it.heir it.old) refl).stored

  -- and each blob is stored still, once the clone has taken over
  pub taken_stored : AreStored p.super (with_entry (with_entry p.base x.of (going_blob it.old x.clone)) x.clone
      (heir_of it.heir it.old))
  taken_stored h m is = (parts_stored p.super p.base (delete_job x.of it.old x.clone it.heir) was_stored all_stored 2
      h m is).stored

  -- ---- both have chains

  pub chain_of : (behind : List ℕ) × (p.chains x.of ≡ Some (x.of ∷ behind))
  chain_of = well.chains.chain x.of it.old it.there

  pub chain_of_clone : (behind : List ℕ) × (p.chains x.clone ≡ Some (x.clone ∷ behind))
  chain_of_clone = well.chains.chain x.clone it.heir it.there_too

  -- ---- their clusters are among those that there are

  mapped_low : (c : ℕ) → IsMapped p.base c → c < length p.clusters
  mapped_low c mapped = within p.clusters c (well.clusters.mapped c mapped)

  pub going_low : AllBelow (length p.clusters) (clusters_held x.going.map)
  going_low c among =
      let at = in_slot x.going.map c among in
      mapped_low c (record {
        head = x.of;
        meta = it.old;
        there = it.there;
        place = at.i;
        in_slot = ap (λ (m : Meta). slot m at.i) (sym it.going_is) ∙ at.at;
      })

  -- the clone has none that neither had
  pub taking_low : AllBelow (length p.clusters) (clusters_held x.taking.map)
  taking_low c among =
      let at = in_slot x.taking.map c among in
      let base : Metas = with_entry p.base x.of (going_blob it.old x.clone) in
      let mapped : IsMapped (with_entry base x.clone (heir_of it.heir it.old)) c = record {
        head = x.clone;
        meta = heir_of it.heir it.old;
        there = given_here base x.clone (heir_of it.heir it.old) x.clone refl;
        place = at.i;
        in_slot = ap (λ (m : Meta). slot m at.i) (sym it.taking_is) ∙ at.at;
      } in
      let takes = takes_moves p.super p.base x.of x.clone it.old it.heir it.there it.there_too apart in
      let marks = marks_moves p.super p.base x.of x.clone it.old it.heir it.there it.there_too apart in
      elim (takes.gained c mapped) [
        | inl was ↦ elim (marks.gained c was) [
          | inl first ↦ mapped_low c first
          | inr bad ↦ absurd (cc bad)
        ]
        | inr bad ↦ absurd (cc bad)
      ]
