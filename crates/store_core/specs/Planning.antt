-- What a plan made of what a running store has in memory is in the volumes that the store shows.
use Rattle.std.specs.Prelude.{◌≡◌, ℕ, Bool, List, Option, Some, None}
use Rattle.std.specs.FinMap as map
use Rattle.page_disk.specs.declared.disk.PageDisk.{Ghosts}
use Rattle.volume_model.specs.Xattrs.{Text, Xattrs, name_key, with_nul, with_value}
use Rattle.volume_model.specs.Names.{IsName}
use Rattle.volume_model.specs.Volumes.{Fixed, two_xattrs, Volumes}
use Rattle.volume_model.specs.declared.command.VolumeRef.{VolumeRef}
use Rattle.volume_model.specs.declared.command.Command.{Command}
use Rattle.volume_model.specs.declared.command.Command.TheVariants as c
use Rattle.blob_meta.specs.Parents.{read_only}
use Rattle.blob_meta.specs.declared.meta.Meta.{Meta}
use Rattle.blob_meta.specs.declared.job.Job.{Job}
use Rattle.blob_meta.specs.Asked.{IsFirstCause, IsLiveOf, ShowsLive}
use Rattle.blob_meta.specs.Jobs.{create_job, job_of_one, resize_job}
use Rattle.blob_meta.specs.Repairs.{HasNoMarks}
use Rattle.blob_meta.specs.ShownBy.{IsFirstRefusal, IsHeadMeant, ShowsMetas}
use Rattle.blob_meta.specs.Find.{IsLeast}
use Rattle.inflate_delete.specs.DeletePlans.{IsDeleteJob}
use Rattle.inflate_delete.specs.FillJobs.{IsFillJob}
use Rattle.inflate_delete.specs.Fills.{command_of, is_to_fill, IsFilled}
use Rattle.inflate_delete.specs.declared.filling.FillKind.{FillKind}
use Rattle.snapshots.specs.SnapshotJobs.{clone_job, snapshot_job}
use Rattle.store_model.specs.Shown.{fixed_of}
use Rattle.store_model.specs.StoreState.{shown}
use Rattle.store_model.specs.Asking.{AsksFor}
use Rattle.metadata_turns.specs.Answering.{IsFound}
use Rattle.channel_turns.specs.FillTurns.{IsNextToFill}
use Rattle.job_begins.specs.Begins.{IsJobOf}
use Rattle.running_store.specs.LoadedWhole.{IsNextHead}
use Rattle.running_store.specs.RunningState.{IsRunning}
use Rattle.running_store.specs.StoreView.{base_of, AreResolved, StoreView, state_of}

-- A blob as a store has it in memory: its metadata, and its live attributes.
pub record HasBlob {D : Type 0} (p : StoreView D) (head : ℕ) (old : Meta) (live : Xattrs) : Type 0 where
  pub there : map.get p.metas head ≡ Some old
  pub is_live : map.get p.live head ≡ Some live

-- a store that runs on such a device, whose metadata resolves to what it has in memory; where a job is planned over
-- blobs, none of them has a mark
pub record PlanLaws {D : Type 0} (d : Ghosts D) : Type 0 where
  -- What is found of the volume that a command names has live attributes exactly where the volume is there,
  pub live : (p : StoreView D) (command : Command) (head : Option ℕ) (xattrs : Option Xattrs)
      → IsRunning (state_of d p) → p.stopped ≡ None → AreResolved p.metas p.marked
      → IsFound p.metas p.super p.live command head xattrs
      → IsLiveOf p.metas p.super xattrs command
  -- and these are the ones that the store shows of it.
  pub shows : (p : StoreView D) (command : Command) (head : Option ℕ) (xattrs : Option Xattrs)
      → IsRunning (state_of d p) → p.stopped ≡ None → AreResolved p.metas p.marked
      → IsFound p.metas p.super p.live command head xattrs
      → ShowsLive p.metas p.super xattrs command (fixed_of p.super) (shown (state_of d p))
  -- All volumes that it shows show its metadata.
  pub shows_all : (p : StoreView D) → IsRunning (state_of d p) → p.stopped ≡ None → AreResolved p.metas p.marked
      → ShowsMetas (fixed_of p.super) p.super p.metas (shown (state_of d p))
  -- a put that nothing refuses asks for the metadata with the live attributes, one of them set,
  pub put : (p : StoreView D) (volume : VolumeRef) (head : ℕ) (key value : Text) (old : Meta) (live : Xattrs)
      → IsRunning (state_of d p) → p.stopped ≡ None → AreResolved p.metas p.marked
      → HasNoMarks (base_of p.metas p.marked) → HasBlob p head old live
      → IsHeadMeant p.metas p.super volume (Some head)
      → IsFirstCause p.metas p.super (Some live) (c.Put volume key value) None
      → AsksFor (state_of d p) (c.Put volume key value) head (record old { xattrs = with_value live key value })
      (with_value live key value)
  -- and a sync for that with the live ones
  pub sync : (p : StoreView D) (volume : VolumeRef) (head : ℕ) (old : Meta) (live : Xattrs)
      → IsRunning (state_of d p) → p.stopped ≡ None → AreResolved p.metas p.marked
      → HasNoMarks (base_of p.metas p.marked) → HasBlob p head old live
      → IsHeadMeant p.metas p.super volume (Some head)
      → IsFirstCause p.metas p.super (Some live) (c.Sync volume) None
      → AsksFor (state_of d p) (c.Sync volume) head (record old { xattrs = live }) live
  -- and one that makes the volume read-only for that with its flags besides.
  pub read_only : (p : StoreView D) (volume : VolumeRef) (head : ℕ) (old : Meta) (live : Xattrs)
      → IsRunning (state_of d p) → p.stopped ≡ None → AreResolved p.metas p.marked
      → HasNoMarks (base_of p.metas p.marked) → HasBlob p head old live
      → IsHeadMeant p.metas p.super volume (Some head)
      → IsFirstCause p.metas p.super (Some live) (c.ReadOnly volume) None
      → AsksFor (state_of d p) (c.ReadOnly volume) head (record old { xattrs = live; flags = read_only old.flags }) live
  -- A rename that nothing refuses asks for the metadata as it is, with the name in place of the one that was last
  -- synced.
  pub rename : (p : StoreView D) (volume : VolumeRef) (name : Text) (head : ℕ) (old : Meta) (job : Job)
      → IsRunning (state_of d p) → p.stopped ≡ None → AreResolved p.metas p.marked
      → HasNoMarks (base_of p.metas p.marked) → IsName name → IsHeadMeant p.metas p.super volume (Some head)
      → map.get p.metas head ≡ Some old → IsFirstRefusal p.metas p.super (c.Rename volume name) None
      → job ≡ job_of_one head (record old { xattrs = with_value old.xattrs name_key (with_nul name) })
      → IsJobOf (state_of d p) (c.Rename volume name) job
  -- A create that nothing refuses asks for a blob at the head that is next, with the attributes that a new volume has
  -- beside those that are shown; where it is thick, each of its slots is to get a cluster of zeros.
  pub create : (p : StoreView D) (name : Text) (slots : ℕ) (thick : Bool) (uuid : Option (List ℕ)) (head : ℕ)
      (xattrs : Xattrs) → IsRunning (state_of d p) → p.stopped ≡ None → AreResolved p.metas p.marked → IsName name
      → IsNextHead p.super.md_len p.pages head
      → IsFirstRefusal p.metas p.super (c.Create name slots thick uuid) None
      → ((f : Fixed) (v : Volumes) → ShowsMetas f p.super p.metas v → two_xattrs f v name uuid ≡ xattrs)
      → IsJobOf (state_of d p) (c.Create name slots thick uuid) (create_job head xattrs thick slots)
  -- A resize that nothing refuses asks for the slots of the blob that is meant to be cut, or for empty ones behind
  -- them, each of which is to get a cluster of zeros where the blob isn't thin.
  pub resize : (p : StoreView D) (volume : VolumeRef) (slots head : ℕ) (old : Meta) (job : Job)
      → IsRunning (state_of d p) → p.stopped ≡ None → AreResolved p.metas p.marked
      → HasNoMarks (base_of p.metas p.marked) → IsHeadMeant p.metas p.super volume (Some head)
      → map.get p.metas head ≡ Some old → IsFirstRefusal p.metas p.super (c.Resize volume slots) None
      → job ≡ resize_job head old slots → IsJobOf (state_of d p) (c.Resize volume slots) job
  -- A clone that nothing refuses asks for a blob at the head that is next, with as many empty slots as the blob that is
  -- meant, which is its parent, and with the attributes that a new volume has beside those that are shown.
  pub clone : (p : StoreView D) (volume : VolumeRef) (name : Text) (parent : ℕ) (old : Meta) (head : ℕ)
      (xattrs : Xattrs) → IsRunning (state_of d p) → p.stopped ≡ None → AreResolved p.metas p.marked
      → HasNoMarks (base_of p.metas p.marked) → IsName name → IsHeadMeant p.metas p.super volume (Some parent)
      → map.get p.metas parent ≡ Some old → IsNextHead p.super.md_len p.pages head
      → IsFirstRefusal p.metas p.super (c.Clone volume name) None
      → ((f : Fixed) (v : Volumes) → ShowsMetas f p.super p.metas v → two_xattrs f v name None ≡ xattrs)
      → IsJobOf (state_of d p) (c.Clone volume name) (clone_job parent old head xattrs)
  -- A snapshot that nothing refuses asks for a blob at the head that is next, with the slots and the parent of the blob
  -- that is meant, which has it for its parent then, and with the attributes that a new volume has.
  pub snapshot : (p : StoreView D) (volume : VolumeRef) (name : Text) (of : ℕ) (old : Meta) (head : ℕ)
      (xattrs : Xattrs) → IsRunning (state_of d p) → p.stopped ≡ None → AreResolved p.metas p.marked
      → HasNoMarks (base_of p.metas p.marked) → IsName name → IsHeadMeant p.metas p.super volume (Some of)
      → map.get p.metas of ≡ Some old → IsNextHead p.super.md_len p.pages head
      → IsFirstRefusal p.metas p.super (c.Snapshot volume name) None
      → ((f : Fixed) (v : Volumes) → ShowsMetas f p.super p.metas v → two_xattrs f v name None ≡ xattrs)
      → IsJobOf (state_of d p) (c.Snapshot volume name) (snapshot_job of old head xattrs)
  -- A delete that nothing refuses asks for the blob that is meant to be erased, whose one clone, if it has one, takes
  -- its clusters and its parent first.
  pub delete : (p : StoreView D) (volume : VolumeRef) (of : ℕ) (job : Job) → IsRunning (state_of d p)
      → p.stopped ≡ None → AreResolved p.metas p.marked → HasNoMarks (base_of p.metas p.marked)
      → IsHeadMeant p.metas p.super volume (Some of) → IsFirstRefusal p.metas p.super (c.Delete volume) None
      → IsDeleteJob p.metas of job → IsJobOf (state_of d p) (c.Delete volume) job
  -- An inflate or a decouple that nothing refuses asks for a cluster in the least slot that it has to fill of the blob
  -- that is meant,
  pub fill : (p : StoreView D) (kind : FillKind) (volume : VolumeRef) (head slot : ℕ) → IsRunning (state_of d p)
      → p.stopped ≡ None → AreResolved p.metas p.marked → IsHeadMeant p.metas p.super volume (Some head)
      → IsFirstRefusal p.metas p.super (command_of kind volume) None
      → IsLeast (is_to_fill (map.get p.metas) head kind) slot
      → IsNextToFill (state_of d p) (command_of kind volume) slot
  -- and, where it has none, for the job by which that blob gets another parent or none.
  pub last : (p : StoreView D) (kind : FillKind) (volume : VolumeRef) (head : ℕ) (job : Job) → IsRunning (state_of d p)
      → p.stopped ≡ None → AreResolved p.metas p.marked → HasNoMarks (base_of p.metas p.marked)
      → IsHeadMeant p.metas p.super volume (Some head)
      → IsFirstRefusal p.metas p.super (command_of kind volume) None → IsFilled (map.get p.metas) head kind
      → IsFillJob p.metas head kind job → IsJobOf (state_of d p) (command_of kind volume) job
