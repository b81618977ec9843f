-- What a store has in memory of its blobs, and what replacements make of that.
use Rattle.std.specs.Prelude.{◌≢◌, ℕ, if◌then◌else◌, is_some, Bool, List, [], ◌∷◌, Option, None, Some, IfSome}
use Rattle.std.specs.Prelude.{IsSome, false}
use Rattle.std.specs.FinMap as map
use Rattle.std.specs.Option.{option_and_then}
use Rattle.std.specs.Ordering.{nat_cmp}
use Rattle.volume_model.specs.Xattrs.{Xattrs}
use Rattle.blob_meta.specs.declared.meta.Meta.{Meta}
use Rattle.blob_meta.specs.Resolving.{mark_of}
use Rattle.io_freeze.specs.Guards.{GuardsState, guard_removed}
use Rattle.running_store.specs.Effects.{numbered_by}
use Rattle.running_store.specs.Jobs.{to_come}
use Rattle.running_store.specs.Places.{with_changes, with_numbers, CanNumber, HasPlace, HasPlaceFor}
use Rattle.running_store.specs.StoreView.{AreResolved}
use Rattle.running_store.specs.declared.effects.Effects.{Effects}
use Rattle.running_store.specs.declared.entries.EntryChange.{EntryChange}
use Rattle.running_store.specs.declared.job.RunningJob.{RunningJob}
use Rattle.running_store.specs.declared.replacements.Change.{Change}
use Rattle.running_store.specs.declared.replacements.Change.TheVariants as change
use Rattle.running_store.specs.declared.replacements.Commit.{Commit}
use Rattle.running_store.specs.declared.replacements.Erasure.{Erasure}
use Rattle.running_store.specs.declared.replacements.LaidReplacement.{LaidReplacement}
use Rattle.running_store.specs.declared.replacements.Rooms.{Rooms}
use Rattle.running_store.specs.declared.running.Running.{Running}

pub record Blobs : Type 0 where
  pub metas : map.FinMap nat_cmp Meta
  pub marked : map.FinMap nat_cmp Meta
  pub chains : map.FinMap nat_cmp (List ℕ)
  pub live : map.FinMap nat_cmp Xattrs
  pub guards : GuardsState

abbrev pub blobs_of : {D : Type 0} → Running D → Blobs
blobs_of running = record {
  metas = running.metas;
  marked = running.marked;
  chains = running.chains;
  live = running.live;
  guards = running.guards;
}

-- ---- behind a replacement

-- New metadata that has a mark is kept aside, and what its blob resolves to stays;
abbrev pub metas_given : map.FinMap nat_cmp Meta → ℕ → Meta → map.FinMap nat_cmp Meta
metas_given metas head new = if is_some (mark_of new) then metas else map.insert metas head new

-- other new metadata is what its blob resolves to, and nothing of it is aside.
abbrev pub marked_given : map.FinMap nat_cmp Meta → ℕ → Meta → map.FinMap nat_cmp Meta
marked_given marked head new = if is_some (mark_of new) then map.insert marked head new else map.remove marked head

-- the change of the other blob that a commit shows otherwise
abbrev pub shows_of : Option Commit → Option (EntryChange Meta)
shows_of commit = option_and_then (λ c. c.shows) commit

-- that of the attributes that are read
abbrev pub live_change : Option Commit → Option (EntryChange Xattrs)
live_change commit = option_and_then (λ c. c.live) commit

-- the blobs that get generations: those that a commit renews, or else one that is made
abbrev pub numbered_in : Option Commit → Bool → ℕ → List ℕ
numbered_in None makes head = numbered_by makes head
numbered_in (Some commit) makes head = commit.renews

-- once the blob at a head has new metadata, and this chain
abbrev pub blobs_given : Blobs → ℕ → Meta → List ℕ → Effects → Blobs
blobs_given b head new chain e = record {
  metas = with_changes (metas_given b.metas head new) (shows_of e.commit);
  marked = marked_given b.marked head new;
  chains = map.insert b.chains head chain;
  live = with_changes b.live (live_change e.commit);
  guards = with_numbers b.guards (numbered_in e.commit (is_some e.rooms.chain) head);
}

-- once a blob is erased
abbrev pub blobs_without : Blobs → Erasure → Blobs
blobs_without b e = record {
  metas = with_changes (map.remove b.metas e.head) (shows_of e.commit);
  marked = map.remove b.marked e.head;
  chains = map.remove b.chains e.head;
  live = with_changes b.live (live_change e.commit);
  guards = with_numbers (guard_removed b.guards e.head) (numbered_in e.commit false e.head);
}

abbrev pub blobs_behind : Blobs → Change → Blobs
blobs_behind b (change.Writes p) = blobs_given b p.head p.new p.chain p.effects
blobs_behind b (change.Erases e) = blobs_without b e

-- ---- what a store is sure of before it

-- There is a place for the chain and the metadata of the blob at a head: that among the marked blobs where it has a
-- mark, and else among the others.
pub record HaveRooms (b : Blobs) (head : ℕ) (new : Meta) (rooms : Rooms) : Type 0 where
  pub chain : HasPlace b.chains head rooms.chain
  pub meta : HasPlace (if is_some (mark_of new) then b.marked else b.metas) head rooms.meta

-- So there is for what the commit changes, in these maps, and for its generations.
pub record HasCommitPlaces (metas : map.FinMap nat_cmp Meta) (live : map.FinMap nat_cmp Xattrs) (guards : GuardsState)
    (commit : Option Commit) (made : List ℕ) : Type 0 where
  pub live_fits : IfSome (live_change commit) (HasPlaceFor live)
  pub shown_fits : IfSome (shows_of commit) (HasPlaceFor metas)
  pub numbers : CanNumber guards made

-- All that new metadata of a blob makes besides has its place.
pub record HasPlaces (b : Blobs) (head : ℕ) (new : Meta) (e : Effects) : Type 0 where
  pub rooms : HaveRooms b head new e.rooms
  pub commit : HasCommitPlaces (metas_given b.metas head new) b.live b.guards e.commit
      (numbered_in e.commit (is_some e.rooms.chain) head)

abbrev pub HasPlacesFor : Blobs → Change → Type 0
HasPlacesFor b (change.Writes p) = HasPlaces b p.head p.new p.effects
HasPlacesFor b (change.Erases e) =
    HasCommitPlaces (map.remove b.metas e.head) b.live (guard_removed b.guards e.head) e.commit
    (numbered_in e.commit false e.head)

abbrev pub head_of : Change → ℕ
head_of (change.Writes p) = p.head
head_of (change.Erases e) = e.head

abbrev pub commit_of : Change → Option Commit
commit_of (change.Writes p) = p.effects.commit
commit_of (change.Erases e) = e.commit

-- A replacement can be kept in memory: it has its places; the blob that its commit shows otherwise, if there is one, is
-- another one, which has a mark; and behind it the store has in memory what the device's metadata resolves to then.
pub record CanBeKept (b : Blobs) (x : Change) : Type 0 where
  pub places : HasPlacesFor b x
  pub shows : IfSome (shows_of (commit_of x)) (λ other. (other.head ≢ head_of x) × IsSome (map.get b.marked other.head))
  pub resolved : AreResolved (blobs_behind b x).metas (blobs_behind b x).marked

-- So can all of a list, each over what those before it leave.
abbrev pub CanAllBeKept : Blobs → List LaidReplacement → Type 0
CanAllBeKept b [] = Unit {0}
CanAllBeKept b (x ∷ xs) = CanBeKept b x.change × CanAllBeKept (blobs_behind b x.change) xs

-- the same, of those that a job has still to make
abbrev pub WillBeKept : Blobs → RunningJob → Type 0
WillBeKept b j = CanAllBeKept b (to_come j)
