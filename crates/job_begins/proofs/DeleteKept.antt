-- The replacements of a delete's job, of a blob with one clone, can be kept in memory, each over what those before it
-- leave.
use Rattle.std.proofs.Common.{◌≡◌, ◌≢◌, ℕ, Option, Some, None, false, [], ◌∷◌, refl, sym, arith}
use Rattle.volume_model.specs.Volumes.{Fixed}
use Rattle.blob_meta.specs.declared.meta.Meta.{Meta}
use Rattle.blob_meta.specs.Parents.{is_locked}
use Rattle.snapshots.specs.Marks.{id_bytes}
use Rattle.inflate_delete.specs.Clones.{clones_below}
use Rattle.inflate_delete.specs.DeleteJobs.{going_blob, heir_of}
use Rattle.shown_volumes.specs.ShowsStep.{IsAtRest}
use Rattle.shown_volumes.proofs.DeleteParts.{apart, early, late}
use Rattle.store_model.specs.Maps.{Metas}
use Rattle.running_store.specs.Blobs.{blobs_behind, Blobs, CanBeKept}
use Rattle.running_store.specs.StoreView.{base_of, AreResolved}
use Rattle.running_store.specs.declared.replacements.Change.{Change}
use Rattle.job_begins.proofs.ListMarks.{going_mark, in_memory, taking_mark}
use Rattle.job_begins.proofs.MarkedKept.{marked_kept, AreByMark}

module _ (f : Fixed) (b : Blobs) (of clone : ℕ) (old heir : Meta) (are : AreResolved b.metas b.marked)
    (rest : IsAtRest f (base_of b.metas b.marked)) (there : base_of b.metas b.marked of ≡ Some old)
    (there_too : base_of b.metas b.marked clone ≡ Some heir)
    (one : clones_below f.md_len (base_of b.metas b.marked) of ≡ clone ∷ []) (unlocked : is_locked old.flags ≡ false)
    (begin commit finish : Change) (room : Option ℕ) where
  abbrev base : Metas
  base = base_of b.metas b.marked

  abbrev going : Meta
  going = going_blob old clone

  abbrev taking : Meta
  taking = heir_of heir old

  abbrev begun_blobs : Blobs
  begun_blobs = blobs_behind b begin

  -- three replacements, which are those of the job, and for which there is room
  abbrev pub AreOfDelete : Type 0
  AreOfDelete = AreByMark b of clone going taking None room begin commit finish

  other_blob : of ≢ clone
  other_blob e = apart f base rest of clone old heir there there_too one unlocked (sym e)

  -- All can, in this order.
  pub delete_kept : AreOfDelete
      → CanBeKept b begin × CanBeKept begun_blobs commit × CanBeKept (blobs_behind begun_blobs commit) finish
  delete_kept all = marked_kept b of clone going taking None room begin commit finish base base (id_bytes clone) all
      (record {
        has = in_memory b.metas b.marked are rest.unmarked;
        is = refl;
        resolved_first = are;
        apart = other_blob;
        marked = going_mark old clone;
        plain = taking_mark heir old (rest.unmarked clone heir there_too);
        plain_value = tt;
        undone = early f base rest of clone old heir there there_too one unlocked 1 (omega arith);
        done = late f base rest of clone old heir there there_too one unlocked 2 (omega arith) (omega arith);
        finished = late f base rest of clone old heir there there_too one unlocked 3 (omega arith) (omega arith);
      })
