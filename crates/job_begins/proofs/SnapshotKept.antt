-- The replacements of a snapshot's job can be kept in memory, each over what those before it leave.
use Rattle.std.proofs.Common.{◌≡◌, ◌≢◌, ◌∙◌, ℕ, Option, Some, None, sym, arith}
use Rattle.std.specs.FinMap as map
use Rattle.volume_model.specs.Volumes.{Fixed}
use Rattle.volume_model.specs.Xattrs.{Xattrs}
use Rattle.blob_meta.specs.declared.meta.Meta.{Meta}
use Rattle.blob_meta.specs.Resolving.{resolved, without_marks}
use Rattle.blob_meta.proofs.MarksLifted.{no_mark}
use Rattle.snapshots.specs.Marks.{id_bytes}
use Rattle.snapshots.specs.SnapshotJobs.{begun_snapshot, emptied_volume, filled_snapshot}
use Rattle.shown_volumes.specs.JobLaws.{IsClear}
use Rattle.shown_volumes.specs.ShowsStep.{IsAtRest}
use Rattle.shown_volumes.proofs.SnapshotParts.{apart, early, late}
use Rattle.store_model.specs.Maps.{with_entry, Metas}
use Rattle.running_store.specs.Blobs.{blobs_behind, Blobs, CanBeKept, HasPlacesFor}
use Rattle.running_store.specs.StoreView.{base_of, AreResolved}
use Rattle.running_store.specs.declared.replacements.Change.{Change}
use Rattle.running_store.proofs.KeptAs.{base_then, kept_as, metas_behind, IsChange}
use Rattle.job_begins.proofs.ListMarks.{emptied_mark, filled_mark, in_memory}
use Rattle.job_begins.proofs.MarkedKept.{marked_kept, AreByMark}

module _ (f : Fixed) (b : Blobs) (of head : ℕ) (old : Meta) (xattrs : Xattrs) (are : AreResolved b.metas b.marked)
    (rest : IsAtRest f (base_of b.metas b.marked)) (there : base_of b.metas b.marked of ≡ Some old)
    (clear : IsClear f (base_of b.metas b.marked) head) (begin fill commit finish : Change) (room : Option ℕ) where
  abbrev base : Metas
  base = base_of b.metas b.marked

  abbrev begun : Meta
  begun = begun_snapshot of old head xattrs

  abbrev filled : Meta
  filled = filled_snapshot of old head xattrs

  abbrev made : Meta
  made = without_marks filled

  abbrev emptied : Meta
  emptied = emptied_volume old head

  abbrev begun_blobs : Blobs
  begun_blobs = blobs_behind b begin

  abbrev filled_blobs : Blobs
  filled_blobs = blobs_behind begun_blobs fill

  abbrev done_blobs : Blobs
  done_blobs = blobs_behind filled_blobs commit

  -- four replacements, which are those of the job, and for which there is room
  pub record AreOfSnapshot : Type 0 where
    pub begins : IsChange begin head (Some begun) None
    pub room_begins : HasPlacesFor b begin
    pub others : AreByMark begun_blobs head of filled emptied (Some made) room fill commit finish

  abbrev first : Metas
  first = with_entry base head begun

  first_undone : resolved first ≡ base
  first_undone = early f base rest of head old xattrs there clear 1 (omega arith)

  other_blob : head ≢ of
  other_blob e = apart f base rest of head old xattrs there clear (sym e)

  has_base : map.get b.metas ≡ base
  has_base = in_memory b.metas b.marked are rest.unmarked

  module _ (all : AreOfSnapshot) where
    kept_begin : CanBeKept b begin
    kept_begin = kept_as b begin head (Some begun) None all.begins are all.room_begins tt (has_base ∙ sym first_undone)

    kept_others : CanBeKept begun_blobs fill × CanBeKept filled_blobs commit × CanBeKept done_blobs finish
    kept_others = marked_kept begun_blobs head of filled emptied (Some made) room fill commit finish base first
        (id_bytes of) all.others (record {
          has = metas_behind b begin head (Some begun) None all.begins ∙ has_base;
          is = base_then b begin head (Some begun) None all.begins tt;
          resolved_first = kept_begin.resolved;
          apart = other_blob;
          marked = filled_mark of old head xattrs;
          plain = emptied_mark old head (rest.unmarked of old there);
          plain_value = no_mark filled;
          undone = early f base rest of head old xattrs there clear 2 (omega arith);
          done = late f base rest of head old xattrs there clear 3 (omega arith) (omega arith);
          finished = late f base rest of head old xattrs there clear 4 (omega arith) (omega arith);
        })

    -- So all can, in this order.
    pub snapshot_kept : CanBeKept b begin × CanBeKept begun_blobs fill × CanBeKept filled_blobs commit
        × CanBeKept done_blobs finish
    snapshot_kept = (kept_begin, kept_others.0, kept_others.1, kept_others.2)
