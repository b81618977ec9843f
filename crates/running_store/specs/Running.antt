-- The fields of a running store as contracts see them, and how they are kept in order.
use Rattle.std.specs.Prelude.{◌≡◌, ◌↔◌, ℕ, ◌+◌, ◌^◌, ◌<◌, ◌≤◌, Bool, true, [], length, vec_capacity}
use Rattle.std.specs.Prelude.{slice_index_or}
use Rattle.std.specs.Prelude.{IfSome, IsSome, List, if◌then◌else◌, is_some, slice_set, false}
use Rattle.bit_array.specs.Bits.{is_in}
use Rattle.pools.specs.Pool.{freed as freed_page}
use Rattle.super_block.specs.declared.page.Super.{Super}
use Rattle.store_model.specs.Maps.{Metas}
use Rattle.std.specs.List.{sum_by}
use Rattle.std.specs.Option.{option_map}
use Rattle.page_disk.specs.declared.disk.PageDisk.{Ghosts}
use Rattle.store_model.specs.Rows.{Row, entries_of}
use Rattle.running_store.specs.Blobs.{blobs_behind, blobs_of, Blobs, WillBeKept}
use Rattle.running_store.specs.Jobs.{job_seen, IsHeaded}
use Rattle.store_model.specs.Places.{all_set}
use Rattle.running_store.specs.declared.replacements.Change.TheVariants as change
use Rattle.running_store.specs.declared.replacements.Erasure.{Erasure}
use Rattle.running_store.specs.declared.replacements.Planned.{Planned}
use Rattle.running_store.specs.declared.running.Running.{Running}
use Rattle.running_store.specs.StoreView.{base_of, AreResolved, StoreView, WithOpening}

abbrev pub view_of : {D : Type 0} → Running D → StoreView D
view_of running = record {
  disk = running.disk;
  super = running.sup;
  clean = running.is_clean;
  metas = running.metas;
  marked = running.marked;
  chains = running.chains;
  live = running.live;
  pages = running.pages.bits;
  clusters = running.clusters.bits;
  rows = running.rows.items;
  filling = running.filling;
  job = option_map job_seen running.job;
  guards = running.guards;
  serial = running.serial;
  log = running.entries.items;
  marks = running.marks.items;
  stopped = running.stopped;
}

-- the super block that a run leaves: that with which the store was opened, but for whether it is clean
abbrev pub super_left : Bool → Super → Super
super_left clean s = record s { clean = if clean then 1 else 0 }

abbrev pub with_opening : {D : Type 0} → Running D → Running D → ℕ → WithOpening D
with_opening running opening right = record { at = view_of running; opening = view_of opening; right = right }

-- how many commands are left in all rows
abbrev pub left_in : List Row → ℕ
left_in rows = sum_by (λ r. length r.left) rows

-- The places in the set are those of the blobs' heads.
pub record AreHeadPlaces (md_len : ℕ) (metas : Metas) (heads : List Bool) : Type 0 where
  pub count : length heads ≡ md_len
  pub are : (head : ℕ) → head < md_len → (is_in heads head ≡ true) ↔ IsSome (metas head)

-- ---- the store behind a replacement

-- the store with these blobs in memory
abbrev pub with_blobs : {D : Type 0} → Running D → Blobs → Running D
with_blobs running b = record running {
  metas = b.metas;
  marked = b.marked;
  chains = b.chains;
  live = b.live;
  guards = b.guards;
}

-- once a blob has what was planned
abbrev pub blob_adopted : {D : Type 0} → Running D → Planned → Running D
blob_adopted running p = record (with_blobs running (blobs_behind (blobs_of running) (change.Writes p))) {
  clusters = record { bits = all_set running.clusters.bits p.effects.freed false; claims = [] };
  heads = if is_some p.effects.rooms.chain then slice_set running.heads p.head true else running.heads;
}

-- once a blob is erased
abbrev pub forgotten : {D : Type 0} → Running D → Erasure → Running D
forgotten running e = record (with_blobs running (blobs_behind (blobs_of running) (change.Erases e))) {
  pages = freed_page running.pages e.head;
  clusters = record { bits = all_set running.clusters.bits e.freed false; claims = [] };
  heads = slice_set running.heads e.head false;
}

-- There are seventeen rows; the log and the marks have room for all that is left; the entries of each channel are
-- counted; no place is claimed; the metadata region lies on the device, and so do all pages of the store; the heads
-- are set; the metadata is resolved; and each replacement of the job can be kept in memory.
pub record InOrder {D : Type 0} (d : Ghosts D) (running : Running D) : Type 0 where
  pub inside : running.sup.md_start + running.sup.md_len ≤ d.pages running.disk
  pub device : running.sup.device_pages ≤ d.pages running.disk
  pub seventeen : length running.rows.items ≡ 17
  pub entries : length running.entries.items + left_in running.rows.items ≤ vec_capacity running.entries
  pub marks : length running.marks.items + left_in running.rows.items ≤ vec_capacity running.marks
  pub few : length running.entries.items + left_in running.rows.items < 2 ^ 31
  pub counts : length running.logged ≡ 16
  pub counted : (channel : ℕ) → channel < 16
      → slice_index_or running.logged channel 0 ≡ length (entries_of channel running.entries.items)
  pub no_page : running.pages.claims ≡ []
  pub no_cluster : running.clusters.claims ≡ []
  pub headed : IfSome running.job IsHeaded
  pub heads : AreHeadPlaces running.sup.md_len (base_of running.metas running.marked) running.heads
  pub resolves : AreResolved running.metas running.marked
  pub kept : IfSome running.job (WillBeKept (blobs_of running))
