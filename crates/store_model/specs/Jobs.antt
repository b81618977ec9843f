-- What is left of a running job, and what is known of it.
use Rattle.std.specs.Prelude.{◌≡◌, ◌≢◌, ℕ, ◌/◌, ◌^◌, ◌<◌, ◌≤◌, true, false, List, [], ◌∷◌, ◌++◌, length, Some, None}
use Rattle.std.specs.Prelude.{IsSome}
use Rattle.std.specs.List.{AllByRecursion}
use Rattle.std.specs.Option.{option_map_or}
use Rattle.page_disk.specs.Disk.{Image}
use Rattle.super_block.specs.declared.page.Super.{Super}
use Rattle.super_block.specs.Numbers.{cluster_pages_of}
use Rattle.volume_model.specs.Volumes.{Volume, Volumes}
use Rattle.volume_model.specs.Xattrs.{Xattrs}
use Rattle.volume_model.specs.Steps.{Allowed, change}
use Rattle.volume_model.specs.declared.command.Command.{Command}
use Rattle.volume_model.specs.declared.reply.Reply.TheVariants as r
use Rattle.blob_meta.specs.declared.meta.Meta.{Meta}
use Rattle.blob_meta.specs.Repairs.{HasNoMarks}
use Rattle.blob_meta.specs.Resolving.{IsLawful, resolved, slots_together}
use Rattle.md_chain.specs.Chain.{is_among}
use Rattle.store_model.specs.Maps.{Map, Metas, Chains}
use Rattle.store_model.specs.Regions.{region_of}
use Rattle.store_model.specs.Scans.{MetaAt}
use Rattle.store_model.specs.Shown.{fixed_of, shown_by}
use Rattle.store_model.specs.Recovers.{IsChangeDone}
use Rattle.store_model.specs.Rows.{InJob, IsForMetadata, OpenClaim, Rows}
use Rattle.store_model.specs.Steady.{AreNamed, CanBeWritten, IsStored}
use Rattle.store_model.specs.Inserting.{with_slot}
use Rattle.store_model.specs.Copying.{IsWanted, LeavesSlotsEmpty}
use Rattle.store_model.specs.Places.{AreDistinct}
use Rattle.store_model.specs.Phases.{Phase, Committing, with_live, Marks, Zeros, Writes, Replaces, Erases, Frees}
use Rattle.store_model.specs.Phases.{Replacing, page_in, held_in, taken_in, has_commit, replaced, rechained, behind}
use Rattle.store_model.specs.Phases.{chain_before, OnlyMend}
use Rattle.store_model.specs.StoreState.{ForCommand, ForInsert, ForRepair, JobState, live_of, Service, StoreState}
pub use Rattle.shown_volumes.specs.EmptySlots.{Anything}
pub use Rattle.store_model.specs.Laid.{AllTake, AreLaid, IsErasure, IsJobPlanned, IsLaid, IsPacked, IsPlannedFor}
pub use Rattle.store_model.specs.Laid.{LacksPages, LacksPagesFor, MovesClusters, Needs, places_of, Takes}
pub use Rattle.store_model.specs.ZeroedClusters.{AreForZeros, AreZeroed, pages_in, ReadsZeros, with_clusters}
pub use Rattle.store_model.specs.ZeroedClusters.{with_zeroed, zeroing, zeros_in}

-- A replacement can be made once its fresh pages are written: it is planned on places that differ, the store can hold
-- the new metadata, and all metadata resolves with it to lawful one, in which each SNAP names a head.
pub record CanReplace (s : Super) (base : Metas) (chains : Chains) (claimed written : List ℕ)
    (r : Replacing) : Type 0 where
  pub all : written ≡ r.fresh
  pub places : places_of r.planned ≡ r.head ∷ r.fresh
  pub says : (m : Meta) → r.new ≡ Some m → MetaAt (page_in r.planned) (region_of s) r.head m (r.head ∷ r.fresh)
  pub stored : (m : Meta) → r.new ≡ Some m → IsStored s r.head m
  pub named : AreNamed (resolved (replaced base r))
  pub gone : r.new ≡ None → IsErasure r
  pub chain : chains r.head ≡ chain_before r
  pub unerased : r.makes ≡ true → r.old ≡ []
  pub few : slots_together s.md_len (replaced base r) ≤ 2 ^ 24
  pub lawful : IsLawful s.md_len (resolved (replaced base r))
  pub clusters : MovesClusters s base (replaced base r) r.freed claimed

-- What is left can be done, phase by phase, over this metadata and these chains, where these fresh pages are written.
-- The store isn't marked as in use for nothing. A page that is overwritten with zeros is one of a claimed cluster; a
-- place that is erased is held, and what a replacement leaves is cleared before the next one is made.
abbrev pub Lays : Super → Metas → Chains → List ℕ → List ℕ → List Phase → Type 0
Lays s base chains claimed written [] = (written ≡ []) × (claimed ≡ [])
Lays s base chains claimed written (Marks ∷ rest) = (rest ≢ []) × Lays s base chains claimed written rest
Lays s base chains claimed written (Zeros page ∷ rest) =
    (is_among (page / cluster_pages_of s) claimed ≡ true) × Lays s base chains claimed written rest
Lays s base chains claimed written (Writes place ∷ rest) = Lays s base chains claimed (written ++ place ∷ []) rest
Lays s base chains claimed written (Replaces r commit ∷ rest) =
    CanReplace s base chains claimed written r × (held_in rest ≡ r.old ++ taken_in rest)
    × Lays s (replaced base r) (rechained chains r) [] [] rest
Lays s base chains claimed written (Erases place ∷ rest) =
    (written ≡ []) × (is_among place (held_in rest) ≡ true) × Lays s base chains claimed [] rest
Lays s base chains claimed written (Frees place old ∷ rest) =
    (written ≡ []) × (is_among place old ≡ true) × (held_in rest ≡ taken_in rest) × Lays s base chains claimed [] rest

-- the volumes that this metadata shows once it is resolved, with these live attributes, by what a device holds
abbrev pub shown_of : Super → Metas → Map Xattrs → Image → Volumes
shown_of s base live image = shown_by (fixed_of s) image (resolved base) live

-- the metadata resolves with this replacement to what it resolves to without it, so that the volumes are shown as they
-- are
abbrev pub IsUnseen : Metas → Replacing → Type 0
IsUnseen base r = resolved (replaced base r) ≡ resolved base

-- the volumes are shown as they are while these phases are made
abbrev pub Keeps : Metas → List Phase → Type 0
Keeps base [] = Unit {0}
Keeps base (Replaces r commit ∷ rest) = IsUnseen base r × Keeps (replaced base r) rest
Keeps base (_ ∷ rest) = Keeps base rest

-- On whatever device, the command, one for the metadata thread, may be done with this reply, and may fail; then, on a
-- device of which this is known, the metadata shows its step, and has the blobs whose generations are renewed, a new
-- one among them.
pub record IsStep (Holds : Image → Type 0) (s : Super) (base : Metas) (replacing : Replacing) (live : Map Xattrs)
    (command : Command)
    (commit : Committing) : Type 0 where
  pub metadata : IsForMetadata command
  pub done : IsChangeDone commit.reply
  pub allowed : (image : Image) → Allowed (fixed_of s) (shown_of s base live image) command commit.reply
  pub may_fail : (image : Image) → Allowed (fixed_of s) (shown_of s base live image) command r.Fault
  pub shows : (image : Image) → Holds image
      → shown_of s (replaced base replacing)
      (live_of (change (fixed_of s) (shown_of s base live image) command commit.reply)) image
      ≡ change (fixed_of s) (shown_of s base live image) command commit.reply
  pub lives : (image : Image)
      → live_of (change (fixed_of s) (shown_of s base live image) command commit.reply)
      ≡ with_live live commit.live
  pub writable : (image : Image) (head : ℕ) (v : Volume)
      → change (fixed_of s) (shown_of s base live image) command commit.reply head ≡ Some v → CanBeWritten v.live
  pub renews : AllByRecursion (λ head. IsSome (replaced base replacing head)) commit.renews
  pub numbers : replacing.makes ≡ true → is_among replacing.head commit.renews ≡ true
  -- what is copied of a slot stays its content: an empty one of a blob whose generation stays shows what it showed
  pub leaves : (head : ℕ) → is_among head commit.renews ≡ false
      → LeavesSlotsEmpty s (resolved base) (resolved (replaced base replacing)) Anything head

-- The volumes are shown as they are up to the commit, and from it on as the command's step makes them, whatever a
-- device holds of which this is known at the first replacement. Behind it nothing needs to be known.
abbrev pub Does : (Image → Type 0) → Super → Metas → Map Xattrs → Command → List Phase → Type 0
Does Holds s base live command [] = ⊥
Does Holds s base live command (Replaces r (Some commit) ∷ rest) =
    IsStep Holds s base r live command commit × (has_commit rest ≡ false) × Keeps (replaced base r) rest
Does Holds s base live command (Replaces r None ∷ rest) =
    IsUnseen base r × Does Anything s (replaced base r) live command rest
Does Holds s base live command (_ ∷ rest) = Does Holds s base live command rest

-- The command of a channel waits for these phases, of a job that has claimed these clusters.
pub record IsServed (p : StoreState) (channel : ℕ) (claimed : List ℕ) (todo : List Phase) : Type 0 where
  pub command : Command
  pub rest : List Command
  pub row : p.rows channel ≡ record { left = command ∷ rest; stage = InJob; claim = None }
  pub does : Does (ReadsZeros p.super claimed) p.super p.base p.live command todo

-- the cluster that a row's claim holds, where a job inserts it
abbrev pub inserted_by : Rows → Service → List ℕ
inserted_by rows (ForInsert row) = option_map_or (λ x. x.cluster ∷ []) (rows row).claim []
inserted_by rows _ = []

-- the clusters that a job brings into maps: those that it has claimed, and that which it inserts
abbrev pub gained_by : Rows → JobState → List ℕ
gained_by rows j = inserted_by rows j.serves ++ j.claimed

-- The replacement puts the cluster of the row's claim into its slot, which is empty still.
pub record PutsClaim (p : StoreState) (row : ℕ) (r : Replacing) : Type 0 where
  pub claim : OpenClaim
  pub held : (p.rows row).claim ≡ Some claim
  pub wanted : IsWanted p claim
  pub within : claim.slot < length wanted.meta.map
  pub head : r.head ≡ claim.head
  pub there : r.makes ≡ false
  pub new : r.new ≡ Some (with_slot wanted.meta claim.slot claim.cluster)

-- nothing but old pages is left
abbrev pub AreOldPages : List Phase → Type 0
AreOldPages [] = Unit {0}
AreOldPages (Erases place ∷ rest) = AreOldPages rest
AreOldPages (Frees place old ∷ rest) = AreOldPages rest
AreOldPages _ = ⊥

-- what is left of an insert's job: the replacement, if it is still to come, and behind it old pages alone
abbrev pub IsLeftOfInsert : StoreState → ℕ → List Phase → Type 0
IsLeftOfInsert p row [] = Unit {0}
IsLeftOfInsert p row (Zeros page ∷ rest) = ⊥
IsLeftOfInsert p row (Replaces r commit ∷ rest) = PutsClaim p row r × AreOldPages rest
IsLeftOfInsert p row (_ ∷ rest) = IsLeftOfInsert p row rest

-- The row waits for its insert, whose job freezes no blob and has claimed no cluster itself; no blob is marked.
pub record InsertStands (p : StoreState) (j : JobState) (row : ℕ) : Type 0 where
  pub unmarked : HasNoMarks p.base
  pub waits : (p.rows row).stage ≡ InJob
  pub thaws : j.freeze ≡ None
  pub unclaimed : j.claimed ≡ []
  pub puts : IsLeftOfInsert p row j.todo

-- What is left of a running job can be done, on places that differ; its command waits for the commit, and behind that,
-- or where it serves none, the volumes are shown as they are. Behind an insert they are so by what its cluster holds.
-- The clusters that it has claimed read as zeros, but for the pages that are still to be overwritten. A job of a
-- command or an insert leaves no blob marked, and a repair commits nothing and marks none.
pub record JobStands (p : StoreState) (j : JobState) : Type 0 where
  pub lays : Lays p.super p.base p.chains (gained_by p.rows j) j.written j.todo
  pub distinct : AreDistinct (held_in j.todo)
  pub served : (channel : ℕ) → j.serves ≡ ForCommand channel → has_commit j.todo ≡ true
      → IsServed p channel j.claimed j.todo
  pub keeps : has_commit j.todo ≡ false → ((row : ℕ) → j.serves ≢ ForInsert row)
      → Keeps p.base j.todo
  pub settles : j.serves ≢ ForRepair → HasNoMarks (behind p.base j.todo)
  pub mends : j.serves ≡ ForRepair → OnlyMend j.todo
  pub zeroed : AreZeroed p.super j.claimed (zeros_in j.todo) p.device.reads
  pub inserts : (row : ℕ) → j.serves ≡ ForInsert row → InsertStands p j row
