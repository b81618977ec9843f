-- The replacements of jobs of several, laid on pages: those of a snapshot, and those of a delete with a clone.
use Rattle.std.specs.Prelude.{ℕ, List, [], ◌∷◌, Option, None, Some}
use Rattle.volume_model.specs.Xattrs.{Xattrs}
use Rattle.blob_meta.specs.declared.meta.Meta.{Meta}
use Rattle.blob_meta.specs.Resolving.{without_marks}
use Rattle.md_chain.specs.declared.plan.PlannedPage.{PlannedPage}
use Rattle.snapshots.specs.SnapshotJobs.{begun_snapshot, emptied_volume, filled_snapshot}
use Rattle.inflate_delete.specs.DeleteJobs.{going_blob, heir_of}
use Rattle.running_store.specs.Jobs.{erases_laid, writes_laid}
use Rattle.running_store.specs.declared.effects.Effects.{Effects}
use Rattle.running_store.specs.declared.replacements.Commit.{Commit}
use Rattle.running_store.specs.declared.replacements.LaidReplacement.{LaidReplacement}
use Rattle.job_begins.specs.Begins.{no_effects}

-- new metadata of the blob at a head, with these effects, as this chain of these pages, in place of those behind it
abbrev pub laid_for : ℕ → Meta → Effects → List ℕ → List PlannedPage → List ℕ → LaidReplacement
laid_for head new effects chain pages behind =
    writes_laid (record { head = head; new = new; effects = effects; chain = chain; pages = pages }) behind

-- nothing is done besides, with this room for the blob's chain and for its metadata
abbrev pub effects_in : Option ℕ → Option ℕ → Effects
effects_in chain_room meta_room = record no_effects { rooms = record { chain = chain_room; meta = meta_room } }

-- of the volume at a head, a snapshot at another, with these attributes
module _ (of : ℕ) (old : Meta) (head : ℕ) (xattrs : Xattrs) where
  -- the commit: the snapshot is there as it will be in the end, with room for its attributes and its metadata, and both
  -- blobs get generations
  abbrev pub snapshot_commit : Option ℕ → Option ℕ → Commit
  snapshot_commit live_room shown_room = record {
    made = Some head;
    live = Some (record { head = head; value = Some xattrs; room = live_room });
    renews = of ∷ head ∷ [];
    shows = Some (record {
      head = head;
      value = Some (without_marks (filled_snapshot of old head xattrs));
      room = shown_room;
    });
  }

  -- the new blob is marked, with room for its chain and among the marked blobs
  abbrev pub snapshot_begins : Option ℕ → Option ℕ → List ℕ → List PlannedPage → List ℕ → LaidReplacement
  snapshot_begins chain_room mark_room =
      laid_for head (begun_snapshot of old head xattrs) (effects_in chain_room mark_room)

  -- it gets the volume's map
  abbrev pub snapshot_fills : List ℕ → List PlannedPage → List ℕ → LaidReplacement
  snapshot_fills = laid_for head (filled_snapshot of old head xattrs) no_effects

  -- the volume lets its map go, which is the commit
  abbrev pub snapshot_commits : Option ℕ → Option ℕ → List ℕ → List PlannedPage → List ℕ → LaidReplacement
  snapshot_commits live_room shown_room = laid_for of (emptied_volume old head)
      (record no_effects { commit = Some (snapshot_commit live_room shown_room) })

  -- the snapshot loses its mark
  abbrev pub snapshot_finishes : List ℕ → List PlannedPage → List ℕ → LaidReplacement
  snapshot_finishes = laid_for head (without_marks (filled_snapshot of old head xattrs)) no_effects

-- of the blob at a head, whose one clone is at another
module _ (of : ℕ) (old : Meta) (clone : ℕ) where
  -- the commit: the blob is gone, and its clone gets a generation
  abbrev pub delete_commit : Commit
  delete_commit = record {
    made = None;
    live = Some (record { head = of; value = None; room = None });
    renews = clone ∷ [];
    shows = Some (record { head = of; value = None; room = None });
  }

  -- the blob is marked, with room among the marked blobs
  abbrev pub delete_begins : Option ℕ → List ℕ → List PlannedPage → List ℕ → LaidReplacement
  delete_begins mark_room = laid_for of (going_blob old clone) (effects_in None mark_room)

  -- the clone takes over from it, which is the commit
  abbrev pub delete_commits : Meta → List ℕ → List PlannedPage → List ℕ → LaidReplacement
  delete_commits heir =
      laid_for clone (heir_of heir old) (record no_effects { commit = Some delete_commit })

-- the blob is erased, and these clusters are free then
abbrev pub delete_finishes : ℕ → List ℕ → List ℕ → LaidReplacement
delete_finishes of freed behind = erases_laid (record { head = of; commit = None; freed = freed }) behind
