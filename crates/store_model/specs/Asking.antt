-- What a command asks a job to do: changes of metadata, and what their commit makes.
use Rattle.std.specs.Prelude.{◌≡◌, ℕ, nat_lt, if◌then◌else◌, Bool, [], ◌∷◌, List, length, Option, Some, None}
use Rattle.volume_model.specs.Names.{IsName}
use Rattle.volume_model.specs.Volumes.{two_xattrs, Volume}
use Rattle.volume_model.specs.Xattrs.{Text, Xattrs}
use Rattle.volume_model.specs.Steps.{change, named_head}
use Rattle.volume_model.specs.Refusals.{refusal}
use Rattle.volume_model.specs.declared.command.Command.{Command}
use Rattle.volume_model.specs.declared.command.Command.TheVariants as c
use Rattle.volume_model.specs.declared.command.VolumeRef.{VolumeRef}
use Rattle.volume_model.specs.declared.reply.Reply.TheVariants as r
use Rattle.blob_meta.specs.declared.meta.Flags.{Flags}
use Rattle.blob_meta.specs.declared.meta.Meta.{Meta}
use Rattle.blob_meta.specs.declared.job.Job.{Job as Changes}
use Rattle.blob_meta.specs.Jobs.{create_job, job_of_one, resize_job}
use Rattle.blob_meta.specs.Parents.{read_only}
use Rattle.snapshots.specs.SnapshotJobs.{clone_job, snapshot_job}
use Rattle.inflate_delete.specs.Clones.{clones_below}
use Rattle.inflate_delete.specs.DeletePlans.{IsJobBeside}
use Rattle.inflate_delete.specs.FillJobs.{fill_job}
use Rattle.inflate_delete.specs.Fills.{command_of, IsFilled, parent_blob}
use Rattle.inflate_delete.specs.declared.filling.FillKind.{FillKind}
use Rattle.store_model.specs.Shown.{fixed_of}
use Rattle.store_model.specs.Phases.{Committing}
use Rattle.store_model.specs.StoreState.{StoreState, shown}

-- ---- verbs that sync

-- the verbs that replace a blob's metadata so that its attributes are synced: all of them, or its new name alone
abbrev pub IsSyncing : Command → Type 0
IsSyncing (c.Put volume key value) = Unit {0}
IsSyncing (c.Sync volume) = Unit {0}
IsSyncing (c.ReadOnly volume) = Unit {0}
IsSyncing (c.Rename volume name) = IsName name
IsSyncing _ = ⊥

-- the flags behind them: one of these verbs makes the volume read-only
abbrev pub flags_after : Command → Flags → Flags
flags_after (c.ReadOnly volume) flags = read_only flags
flags_after _ flags = flags

-- A command that nothing refuses, with the blob that it means, the metadata that it makes, and the attributes that are
-- read from then on. The metadata is as it was, but for its flags where the command changes them, and that its
-- attributes are those which the step makes synced; those which are read are the step's live ones.
pub record AsksFor (p : StoreState) (command : Command) (head : ℕ) (new : Meta) (live : Xattrs) : Type 0 where
  pub syncing : IsSyncing command
  pub asked : refusal (fixed_of p.super) (shown p) command ≡ None
  pub found : named_head (fixed_of p.super) (shown p) command ≡ Some head
  pub old : Meta
  pub there : p.base head ≡ Some old
  pub after : Volume
  pub step : change (fixed_of p.super) (shown p) command r.Ok head ≡ Some after
  pub new_is : new ≡ record old { xattrs = after.synced; flags = flags_after command old.flags }
  pub live_is : live ≡ after.live

-- A verb that syncs has one replacement, behind which the blob's attributes are read as the step makes them, and renews
-- no generation.
pub record IsSyncJob (p : StoreState) (command : Command) (changes : Changes) (commit : Committing) : Type 0 where
  pub head : ℕ
  pub new : Meta
  pub live : Xattrs
  pub is : changes ≡ job_of_one head new
  pub asks : AsksFor p command head new live
  pub commit_is : commit ≡ record {
    reply = r.Ok;
    live = Some (record { head = head; xattrs = Some live });
    renews = [];
  }

-- ---- a new blob

-- A create that nothing refuses makes a blob at a head where none is, with the attributes `name` and `uuid` alone, as
-- they are read and as they are synced, and with a generation.
pub record IsCreateJob (p : StoreState) (command : Command) (changes : Changes) (commit : Committing) : Type 0 where
  pub name : Text
  pub named : IsName name
  pub slots : ℕ
  pub thick : Bool
  pub uuid : Option (List ℕ)
  pub command_is : command ≡ c.Create name slots thick uuid
  pub asked : refusal (fixed_of p.super) (shown p) command ≡ None
  pub head : ℕ
  pub none : p.base head ≡ None
  pub is : changes ≡ create_job head (two_xattrs (fixed_of p.super) (shown p) name uuid) thick slots
  pub commit_is : commit ≡ record {
    reply = r.Made head;
    live = Some (record { head = head; xattrs = Some (two_xattrs (fixed_of p.super) (shown p) name uuid) });
    renews = head ∷ [];
  }

-- ---- a clone or a snapshot

-- A copy that nothing refuses makes a blob at a head where none is, of the blob that the command means, with the
-- attributes `name` and `uuid` alone, as they are read and as they are synced. The job is one of the two blobs, and
-- renews these generations.
pub record IsCopyJob (p : StoreState) (copies : VolumeRef → Text → Command) (job : ℕ → Meta → ℕ → Xattrs → Changes)
    (renewed : ℕ → ℕ → List ℕ) (command : Command) (changes : Changes) (commit : Committing) : Type 0 where
  pub volume : VolumeRef
  pub name : Text
  pub named : IsName name
  pub command_is : command ≡ copies volume name
  pub asked : refusal (fixed_of p.super) (shown p) command ≡ None
  pub of : ℕ
  pub found : named_head (fixed_of p.super) (shown p) command ≡ Some of
  pub old : Meta
  pub there : p.base of ≡ Some old
  pub head : ℕ
  pub none : p.base head ≡ None
  pub is : changes ≡ job of old head (two_xattrs (fixed_of p.super) (shown p) name None)
  pub commit_is : commit ≡ record {
    reply = r.Made head;
    live = Some (record { head = head; xattrs = Some (two_xattrs (fixed_of p.super) (shown p) name None) });
    renews = renewed of head;
  }

-- a clone has the blob for its parent, and its first generation
abbrev pub IsCloneJob : StoreState → Command → Changes → Committing → Type 0
IsCloneJob p = IsCopyJob p c.Clone clone_job (λ of head. head ∷ [])

-- a snapshot takes the blob's clusters and its parent, and becomes its parent: both are renewed
abbrev pub IsSnapshotJob : StoreState → Command → Changes → Committing → Type 0
IsSnapshotJob p = IsCopyJob p c.Snapshot snapshot_job (λ of head. of ∷ head ∷ [])

-- ---- a blob that goes

-- A delete that nothing refuses erases the blob that it means, whose one clone, if it has one, takes over from it, and
-- is renewed.
pub record IsDeletionJob (p : StoreState) (command : Command) (changes : Changes) (commit : Committing) : Type 0 where
  pub volume : VolumeRef
  pub command_is : command ≡ c.Delete volume
  pub asked : refusal (fixed_of p.super) (shown p) command ≡ None
  pub of : ℕ
  pub found : named_head (fixed_of p.super) (shown p) command ≡ Some of
  pub old : Meta
  pub there : p.base of ≡ Some old
  pub clones : List ℕ
  pub clones_are : clones_below p.super.md_len p.base of ≡ clones
  pub is : IsJobBeside p.base of old clones changes
  pub commit_is : commit ≡ record { reply = r.Ok; live = Some (record { head = of; xattrs = None }); renews = clones }

-- ---- another number of slots

-- A resize that nothing refuses cuts the map of the blob that it means, or adds empty slots. Its attributes stay as
-- they are, and it is renewed where slots are cut.
pub record IsResizeJob (p : StoreState) (command : Command) (changes : Changes) (commit : Committing) : Type 0 where
  pub volume : VolumeRef
  pub slots : ℕ
  pub command_is : command ≡ c.Resize volume slots
  pub asked : refusal (fixed_of p.super) (shown p) command ≡ None
  pub head : ℕ
  pub found : named_head (fixed_of p.super) (shown p) command ≡ Some head
  pub old : Meta
  pub there : p.base head ≡ Some old
  pub is : changes ≡ resize_job head old slots
  pub commit_is : commit ≡ record {
    reply = r.Ok;
    live = None;
    renews = if nat_lt slots (length old.map) then head ∷ [] else [];
  }

-- ---- the end of a fill

-- An inflate or a decouple that nothing refuses, and for which no slot of the blob that it means is left to fill, gives
-- that blob another parent or none, and renews it. Its attributes are read as they were.
pub record IsLastJob (p : StoreState) (command : Command) (changes : Changes) (commit : Committing) : Type 0 where
  pub kind : FillKind
  pub volume : VolumeRef
  pub command_is : command ≡ command_of kind volume
  pub asked : refusal (fixed_of p.super) (shown p) command ≡ None
  pub head : ℕ
  pub found : named_head (fixed_of p.super) (shown p) command ≡ Some head
  pub old : Meta
  pub there : p.base head ≡ Some old
  pub filled : IsFilled p.base head kind
  pub is : changes ≡ fill_job kind head old (parent_blob p.base old)
  pub commit_is : commit ≡ record { reply = r.Ok; live = None; renews = head ∷ [] }

-- The changes that a command asks for, and what their commit makes.
pub data IsJobFor (p : StoreState) (command : Command) (changes : Changes) (commit : Committing) : Type 0 where
  syncs : IsSyncJob p command changes commit → IsJobFor p command changes commit
  creates : IsCreateJob p command changes commit → IsJobFor p command changes commit
  resizes : IsResizeJob p command changes commit → IsJobFor p command changes commit
  clones : IsCloneJob p command changes commit → IsJobFor p command changes commit
  snapshots : IsSnapshotJob p command changes commit → IsJobFor p command changes commit
  deletes : IsDeletionJob p command changes commit → IsJobFor p command changes commit
  fills : IsLastJob p command changes commit → IsJobFor p command changes commit
