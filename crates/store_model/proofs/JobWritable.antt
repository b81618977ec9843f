-- The metadata that a job is to write can be stored, before it is laid on pages, whatever the verb.
use Rattle.std.proofs.Common.{◌≡◌, ◌∙◌, ℕ, ◌<◌, Bool, true, false, List, [], ◌∷◌, length, None, Some, refl, sym, ap}
use Rattle.std.proofs.Common.{subst}
use Rattle.std.specs.List.{AllByRecursion}
use Rattle.super_block.specs.declared.page.Super.{Super}
use Rattle.volume_model.specs.Refusals.{refusal}
use Rattle.volume_model.specs.Steps.{named_head}
use Rattle.volume_model.specs.Volumes.{head_of, two_xattrs}
use Rattle.volume_model.specs.declared.command.Command.{Command}
use Rattle.volume_model.specs.declared.command.Command.TheVariants as c
use Rattle.blob_meta.specs.declared.meta.Meta.{Meta}
use Rattle.blob_meta.specs.declared.job.Job.{Job as Changes}
use Rattle.blob_meta.specs.declared.job.Replacement.{Replacement}
use Rattle.blob_meta.specs.Faults.{is_thin}
use Rattle.blob_meta.specs.Jobs.{job_of_one as one_of, new_meta, resized_meta}
use Rattle.blob_meta.specs.Repairs.{HasNoMarks}
use Rattle.snapshots.specs.SnapshotJobs.{clone_job, snapshot_job}
use Rattle.inflate_delete.specs.Clones.{clones_below}
use Rattle.inflate_delete.specs.DeleteJobs.{delete_job, erase_job}
use Rattle.inflate_delete.specs.DeletePlans.{IsJobBeside}
use Rattle.inflate_delete.specs.FillJobs.{fill_job}
use Rattle.inflate_delete.specs.Fills.{parent_blob}
use Rattle.shown_volumes.specs.StoredLaws.{AreStoredWell, IsStoredWell}
use Rattle.store_model.specs.Asking.{clones, creates, deletes, fills, IsJobFor, resizes, snapshots, syncs}
use Rattle.store_model.specs.Jobs.{with_clusters, with_zeroed}
use Rattle.store_model.specs.Phases.{Committing, Replacing}
use Rattle.store_model.specs.Places.{AreLeastClear}
use Rattle.store_model.specs.Shown.{fixed_of}
use Rattle.store_model.specs.Steady.{IsSteady}
use Rattle.store_model.specs.StoreState.{shown}
use Rattle.store_model.proofs.CopyJobs.{clone_family, snapshot_family}
use Rattle.store_model.proofs.CreateStep.{create_ready, new_zeros}
use Rattle.store_model.proofs.DeleteJobs.{delete_family, erase_family}
use Rattle.store_model.proofs.JobReady.{plain_zeroed}
use Rattle.store_model.proofs.Known.{Known}
use Rattle.store_model.proofs.LastJobs.{last_family}
use Rattle.store_model.proofs.ResizeAsked.{added_zeros}
use Rattle.store_model.proofs.ResizeStep.{resize_ready}
use Rattle.store_model.proofs.SyncStep.{sync_ready}

-- a replacement on no pages
abbrev bare_at : ℕ → Meta → Bool → Replacing
bare_at head m makes = record {
  head = head;
  new = Some m;
  makes = makes;
  fresh = [];
  planned = [];
  old = [];
  freed = [];
}

module _ (known : Known) (unmarked : HasNoMarks known.p.base) where
  open known use {s, p, facts}

  module _ (runs : p.stopped ≡ None) (command : Command) (commit : Committing) (claimed : List ℕ)
      (least : AreLeastClear p.clusters claimed) where
    abbrev Stored : Changes → Type 0
    Stored changes = length claimed ≡ length changes.zero
        → AllByRecursion (λ (x : Replacement). x.head < p.super.md_len) changes.list
        → AreStoredWell p.super (record changes { list = with_zeroed changes.list changes.zero claimed })

    -- of one replacement
    one_stored : (head : ℕ) (new : Meta) (zeros : List ℕ) → IsSteady p.super head (with_clusters new zeros claimed)
        → AreStoredWell p.super (record (one_of head new) {
          list = with_zeroed (one_of head new).list zeros claimed;
          zero = zeros;
        })
    one_stored head new zeros steady = (
      λ m is.
          let one : with_clusters new zeros claimed ≡ m = cc is in
          subst (IsStoredWell p.super head) one (record { stored = steady.stored; named = steady.named }),
      tt,
    )

    -- of a job without slots of zeros
    plain : (changes : Changes) → changes.zero ≡ []
        → (AllByRecursion (λ (x : Replacement). x.head < p.super.md_len) changes.list → AreStoredWell p.super changes)
        → Stored changes
    plain changes none stored one_each low =
        subst (λ l. AreStoredWell p.super (record changes { list = l }))
        (sym (ap (λ z. with_zeroed changes.list z claimed) none ∙ plain_zeroed claimed changes.list)) (stored low)

    pub job_writable : (changes : Changes) → IsJobFor p command changes commit → length claimed ≡ length changes.zero
        → AllByRecursion (λ (x : Replacement). x.head < s.md_len) changes.list
        → AreStoredWell s (record changes { list = with_zeroed changes.list changes.zero claimed })
    job_writable changes asks one_each low =
        subst (λ (y : Super). AreStoredWell y (record changes {
          list = with_zeroed changes.list changes.zero claimed;
        })) facts.super
        (by changes asks one_each (subst (λ (y : Super). AllByRecursion (λ (x : Replacement). x.head < y.md_len)
        changes.list) (sym facts.super) low))
      where
        by : (changes : Changes) → IsJobFor p command changes commit → Stored changes
        by changes (syncs y) = subst Stored (sym y.is) (plain (one_of y.head y.new) refl (λ low. (
          λ m is.
              let one : y.new ≡ m = cc is in
              let steady = (sync_ready known unmarked runs command y.head y.new y.live y.asks
              (bare_at y.head y.new false) refl refl refl).steady in
              subst (IsStoredWell p.super y.head) one (record { stored = steady.stored; named = steady.named }),
          tt,
        )))
        by changes (creates y) = subst Stored (sym y.is) (λ one_each low.
            let new = new_meta y.head (two_xattrs (fixed_of p.super) (shown p) y.name y.uuid) y.thick y.slots in
            one_stored y.head new (new_zeros y.thick y.slots)
            (create_ready known unmarked runs command changes commit y claimed least one_each low.0
            (bare_at y.head (with_clusters new (new_zeros y.thick y.slots) claimed) true) refl refl).steady)
        by changes (resizes y) = subst Stored (sym y.is) (λ one_each low.
            let new = resized_meta y.old y.slots in
            let zeros = added_zeros (is_thin y.old.flags) (length y.old.map) y.slots in
            one_stored y.head new zeros
            (resize_ready known unmarked runs command changes commit y claimed least one_each
            (bare_at y.head (with_clusters new zeros claimed) false) refl refl refl).steady)
        by changes (clones y) = subst Stored (sym y.is) (plain
            (clone_job y.of y.old y.head (two_xattrs (fixed_of p.super) (shown p) y.name None)) refl
            (λ low. (clone_family known unmarked runs y.volume y.name y.named y.of y.head y.old y.there
            (ap (named_head (fixed_of p.super) (shown p)) (sym y.command_is) ∙ y.found) y.none low.0
            (ap (refusal (fixed_of p.super) (shown p)) (sym y.command_is) ∙ y.asked)).stored))
        by changes (snapshots y) = subst Stored (sym y.is) (plain
            (snapshot_job y.of y.old y.head (two_xattrs (fixed_of p.super) (shown p) y.name None)) refl
            (λ low. (snapshot_family known unmarked runs y.volume y.name y.named y.of y.head y.old y.there
            (ap (named_head (fixed_of p.super) (shown p)) (sym y.command_is) ∙ y.found) y.none low.0
            (ap (refusal (fixed_of p.super) (shown p)) (sym y.command_is) ∙ y.asked)).stored))
        by changes (deletes y) = beside y.clones y.clones_are y.is
          where
            found : head_of (fixed_of p.super) (shown p) y.volume ≡ Some y.of
            found = ap (named_head (fixed_of p.super) (shown p)) (sym y.command_is) ∙ y.found

            asked : refusal (fixed_of p.super) (shown p) (c.Delete y.volume) ≡ None
            asked = ap (refusal (fixed_of p.super) (shown p)) (sym y.command_is) ∙ y.asked

            beside : (clones_of : List ℕ) → clones_below p.super.md_len p.base y.of ≡ clones_of
                → IsJobBeside p.base y.of y.old clones_of changes → Stored changes
            beside [] none is = subst Stored (sym is) (plain (erase_job y.of) refl
                (λ low. (erase_family known unmarked runs y.volume y.of y.old y.there asked found none).stored))
            beside (clone ∷ []) one is = subst Stored (sym is.2) (plain (delete_job y.of y.old clone is.0) refl
                (λ low. (delete_family known unmarked runs y.volume y.of y.old y.there asked found clone is.0 one
                is.1).stored))
            beside (clone ∷ other ∷ rest) many is = absurd is
        by changes (fills y) = subst Stored (sym y.is) (plain
            (fill_job y.kind y.head y.old (parent_blob p.base y.old)) refl
            (λ low. (last_family known unmarked runs command changes commit y).stored))
