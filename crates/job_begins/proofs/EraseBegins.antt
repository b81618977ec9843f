-- The begin of a job that erases one blob as its commit.
use Rattle.std.proofs.Common.{◌≡◌, ◌≢◌, ◌↔◌, ℕ, ◌<◌, Bool, true, List, [], ◌∷◌, length, Some, None, refl, sym}
use Rattle.std.proofs.Common.{◌∙◌, ap, subst, inl, inr}
use Rattle.std.specs.Prelude.{slice_set}
use Rattle.std.proofs.lemmas.Bool.{cases_eq}
use Rattle.bit_array.specs.Bits.{is_in}
use Rattle.page_disk.specs.declared.disk.PageDisk.{Ghosts}
use Rattle.volume_model.specs.Volumes.{two_xattrs}
use Rattle.volume_model.specs.declared.command.Command.{Command}
use Rattle.volume_model.specs.declared.reply.Reply.TheVariants as r
use Rattle.blob_meta.specs.declared.job.Job.{Job}
use Rattle.blob_meta.specs.declared.job.Replacement.{Replacement}
use Rattle.blob_meta.specs.declared.meta.Meta.{Meta}
use Rattle.blob_meta.specs.Jobs.{create_job, job_of_one, resize_job}
use Rattle.blob_meta.specs.Repairs.{HasNoMarks}
use Rattle.inflate_delete.specs.DeleteJobs.{delete_job, erase_job}
use Rattle.inflate_delete.specs.DeletePlans.{IsJobBeside}
use Rattle.inflate_delete.specs.FillJobs.{fill_job}
use Rattle.inflate_delete.specs.Fills.{parent_blob}
use Rattle.md_chain.specs.Chain.{is_among}
use Rattle.snapshots.specs.SnapshotJobs.{clone_job, snapshot_job}
use Rattle.store_model.specs.Asking.{clones, creates, deletes, fills, IsJobFor, resizes, snapshots, syncs}
use Rattle.store_model.specs.Cases.{Begins, IsPosted}
use Rattle.store_model.specs.Maps.{without_entry, Metas}
use Rattle.store_model.specs.Phases.{Committing}
use Rattle.store_model.specs.Rows.{InJob, Row, Rows}
use Rattle.store_model.specs.RunInvariant.{AreStored, RunsWell}
use Rattle.store_model.specs.Shown.{fixed_of}
use Rattle.store_model.specs.StoreState.{marked, shown, StoreState}
use Rattle.store_model.proofs.Resolved.{unmarked_resolved}
use Rattle.store_model.proofs.WithEntry.{option_elsewhere, option_here}
use Rattle.running_store.specs.Blobs.{CanBeKept}
use Rattle.running_store.specs.Jobs.{erasure_of, removing_for}
use Rattle.running_store.specs.Steps.{IsPostedAt}
use Rattle.running_store.specs.RunningState.{IsRunning}
use Rattle.running_store.specs.StoreView.{base_of, rows_of, state_of, AreResolved, StoreView}
use Rattle.running_store.specs.declared.job.Serves.TheVariants as whom
use Rattle.running_store.specs.declared.replacements.Change.TheVariants as change
use Rattle.running_store.specs.declared.replacements.Erasure.{Erasure}
use Rattle.running_store.proofs.KeptAlone.{kept_without}
use Rattle.running_store.proofs.Maps.{remove_given}
use Rattle.running_store.proofs.Resolved.{unmarked_base}
use Rattle.running_store.proofs.Rowing.{rows_set}
use Rattle.job_begins.specs.Alone.{IsMappedBeside, IsMissing}
use Rattle.job_views.specs.Replacing.{blobs_in}
use Rattle.job_begins.proofs.ClustersAlone.{erased_moves}
use Rattle.job_begins.proofs.RepairBegins.{stored_base}
use Rattle.job_begins.proofs.JobPlanned.{given}

-- ---- what asks for it

-- the blob is there, and its commit makes nothing but that its attributes are gone
pub record AsksToErase (p : StoreState) (head : ℕ) (commit : Committing) : Type 0 where
  pub old : Meta
  pub there : p.base head ≡ Some old
  pub commit_is : commit
      ≡ record { reply = r.Ok; live = Some (record { head = head; xattrs = None }); renews = [] }

-- a job that writes first is none that erases
writes_none : (head : ℕ) (job : Job) → erase_job head ≡ job → (other : ℕ) (new : Meta) (rest : List Replacement)
    → job.list ≡ record { head = other; new = Some new } ∷ rest → ⊥
writes_none head job is other new rest list =
    let lists : given head None ∷ [] ≡ given other (Some new) ∷ rest = ap (λ (j : Job). j.list) is ∙ list in
    let one : given head None ≡ given other (Some new) = cc lists in
    let bad : None ≡ Some new = ap (λ (x : Replacement). x.new) one in
    cc bad

pub asks_to_erase : (p : StoreState) (command : Command) (head : ℕ) (commit : Committing)
    → IsJobFor p command (erase_job head) commit → AsksToErase p head commit
asks_to_erase p command head commit (syncs y) =
    absurd (writes_none head (job_of_one y.head y.new) y.is y.head y.new [] refl)
asks_to_erase p command head commit (creates y) =
    let job = create_job y.head (two_xattrs (fixed_of p.super) (shown p) y.name y.uuid) y.thick y.slots in
    absurd (writes_none head job y.is y.head _ [] refl)
asks_to_erase p command head commit (resizes y) =
    absurd (writes_none head (resize_job y.head y.old y.slots) y.is y.head _ [] refl)
asks_to_erase p command head commit (clones y) =
    let job = clone_job y.of y.old y.head (two_xattrs (fixed_of p.super) (shown p) y.name None) in
    absurd (writes_none head job y.is y.head _ [] refl)
asks_to_erase p command head commit (snapshots y) =
    let job = snapshot_job y.of y.old y.head (two_xattrs (fixed_of p.super) (shown p) y.name None) in
    absurd (writes_none head job y.is y.head _ _ refl)
asks_to_erase p command head commit (fills y) =
    absurd (writes_none head (fill_job y.kind y.head y.old (parent_blob p.base y.old)) y.is y.head _ [] refl)
asks_to_erase p command head commit (deletes y) = by y.clones y.is y.commit_is
  where
    by : (clones_of : List ℕ) → IsJobBeside p.base y.of y.old clones_of (erase_job head)
        → commit ≡ record { reply = r.Ok; live = Some (record { head = y.of; xattrs = None }); renews = clones_of }
        → AsksToErase p head commit
    by [] is commit_is =
        let lists = ap (λ (j : Job). j.list) is in
        let one : record { head = head; new = None } ≡ record { head = y.of; new = None } = cc lists in
        let same : head ≡ y.of = ap (λ (x : Replacement). x.head) one in
        record {
          old = y.old;
          there = ap p.base same ∙ y.there;
          commit_is = commit_is ∙ ap (λ (h : ℕ). record {
            reply = r.Ok;
            live = Some (record { head = h; xattrs = None });
            renews = [];
          }) (sym same);
        }
    by (clone ∷ []) is commit_is = absurd (writes_none head (delete_job y.of y.old clone is.0) is.2 y.of _ _ refl)
    by (clone ∷ other ∷ rest) is commit_is = absurd is

-- ---- the job

-- the blob at a head is to be erased, as the commit
abbrev pub erasing : ℕ → List ℕ → Erasure
erasing head freed = record {
  head = head;
  commit = Some (record {
    made = None;
    live = Some (record { head = head; value = None; room = None });
    renews = [];
    shows = None;
  });
  freed = freed;
}

module _ {D : Type 0} (d : Ghosts D) (p : StoreView D) (channel : ℕ) (posted : IsPostedAt p channel)
    (running : IsRunning (state_of d p)) (clean : HasNoMarks (base_of p.metas p.marked)) (runs : p.stopped ≡ None)
    (no_job : p.job ≡ None) (head : ℕ) (commit : Committing)
    (asked : IsJobFor (state_of d p) posted.waits.command (erase_job head) commit) where
  abbrev s : StoreState
  s = state_of d p

  abbrev command : Command
  command = posted.waits.command

  abbrev rest : List Command
  rest = posted.waits.rest

  well : RunsWell running.first s
  well = running.facts.well runs

  stored : AreStored s.super s.base
  stored = stored_base s running

  asks : AsksToErase s head commit
  asks = asks_to_erase s command head commit asked

  pub blob_there : (m : Meta) × (s.base head ≡ Some m)
  blob_there = (asks.old, asks.there)

  pub chain_there : (behind : List ℕ) × (s.chains head ≡ Some (head ∷ behind))
  chain_there = well.chains.chain head asks.old asks.there

  abbrev is_posted : IsPosted s
  is_posted =
      record { channel = channel; serial = posted.serial; command = command; rest = rest; row = posted.waits.row }

  abbrev in_job : Row
  in_job = record { left = command ∷ rest; stage = InJob; claim = None }

  pub begins_erasing : p.filling ≢ Some channel → channel < length p.rows → (old : Meta) → s.base head ≡ Some old
      → (bits : List Bool) → ((c : ℕ) → (is_in bits c ≡ true) ↔ IsMappedBeside s.super.md_len s.base head c)
      → (freed : List ℕ)
      → ((c : ℕ) → (is_among c freed ≡ true) ↔ IsMissing bits old.map c) → (behind : List ℕ)
      → s.chains head ≡ Some (head ∷ behind)
      → Begins s (state_of d (record p {
        rows = slice_set p.rows channel (record (rows_of p.rows channel) { stage = InJob });
        job = Some (marked p.clean (removing_for (whom.Command channel None) (erasing head freed) behind []));
      }))
  begins_erasing unfilled low old there bits bits_are freed freed_are behind chain = record {
    posted = is_posted;
    runs = runs;
    no_job = no_job;
    unfilled = unfilled;
    repaired = clean;
    changes = erase_job head;
    commit = record { reply = r.Ok; live = Some (record { head = head; xattrs = None }); renews = [] };
    asked = subst (IsJobFor s command (erase_job head)) asks.commit_is asked;
    claimed = [];
    clusters = tt;
    one_each = refl;
    list = erasure_of (erasing head freed) behind ∷ [];
    laid = (
      record {
        head = refl;
        new = refl;
        chain = chain;
        unerased = λ bad. absurd (cc bad);
        planned = (refl, refl, refl);
        clusters = erased_moves s.super s.base stored head old there bits bits_are freed freed_are;
      },
      tt,
    );
    next =
        ap (λ (g : Row). state_of d (record p {
          rows = slice_set p.rows channel g;
          job = Some (marked p.clean (removing_for (whom.Command channel None) (erasing head freed) behind []));
        })) (ap (λ (g : Row). record g { stage = InJob }) posted.waits.row)
        ∙ ap (λ (rows : Rows). record s {
          rows = rows;
          job = Some (marked p.clean (removing_for (whom.Command channel None) (erasing head freed) behind []));
        }) (rows_set p.rows channel in_job low);
  }

  -- without it the store has in memory what the device says
  pub keeps_erasing : AreResolved p.metas p.marked → (freed : List ℕ)
      → CanBeKept (blobs_in p) (change.Erases (erasing head freed))
  keeps_erasing are freed = kept_without (blobs_in p) (erasing head freed) are
      (unmarked_resolved (without_entry s.base head) still
      ∙ ap (λ (m : Metas). without_entry m head) (unmarked_base p.metas p.marked are clean)
      ∙ sym (remove_given p.metas head)) refl
      (record { live_fits = tt; shown_fits = tt; numbers = tt })
    where
      still : HasNoMarks (without_entry s.base head)
      still h m there = elim (cases_eq h head) [
        | inl e ↦ absurd (let bad = sym (option_here s.base head None h e) ∙ there in cc bad)
        | inr ne ↦ clean h m (sym (option_elsewhere s.base head None h ne) ∙ there)
      ]
