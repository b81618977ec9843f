-- A running store stays in order behind a step: what stays is said here once, so that a step shows only what changes.
use Rattle.std.proofs.Common.{◌≡◌, ◌<◌, ◌≤◌, ◌+◌, ◌^◌, ◌∙◌, ℕ, Bool, List, [], Option, length, slice_index_or}
use Rattle.std.proofs.Common.{slice_set, vec_capacity, sym, subst, subst₂, IfSome}
use Rattle.std.proofs.lemmas.List.{length-set}
use Rattle.page_disk.specs.declared.disk.PageDisk.{Ghosts}
use Rattle.super_block.specs.declared.page.Super.{Super}
use Rattle.volume_model.specs.declared.reply.Entry.{Entry}
use Rattle.store_model.specs.Rows.{Row, entries_of}
use Rattle.running_store.specs.Blobs.{blobs_of, Blobs, WillBeKept}
use Rattle.running_store.specs.Jobs.{IsHeaded}
use Rattle.running_store.specs.Running.{left_in, AreHeadPlaces, InOrder}
use Rattle.running_store.specs.StoreView.{base_of, AreResolved}
use Rattle.running_store.specs.declared.job.RunningJob.{RunningJob}
use Rattle.running_store.specs.declared.running.Running.{Running}
use Rattle.running_store.proofs.Counting.{left_same}

-- the rows, and the log with room for all that is left in them
pub record HasRoom (rows : List Row) (log : List Entry) (room marked mark_room : ℕ) (logged : List ℕ) : Type 0 where
  pub seventeen : length rows ≡ 17
  pub entries : length log + left_in rows ≤ room
  pub marks : marked + left_in rows ≤ mark_room
  pub few : length log + left_in rows < 2 ^ 31
  pub counts : length logged ≡ 16
  pub counted : (channel : ℕ) → channel < 16 → slice_index_or logged channel 0 ≡ length (entries_of channel log)

abbrev pub HasRoomIn : {D : Type 0} → Running D → List Row → Type 0
HasRoomIn running rows = HasRoom rows running.entries.items (vec_capacity running.entries)
    (length running.marks.items) (vec_capacity running.marks) running.logged

-- the metadata with the job on it
pub record HasMetadata (md_len : ℕ) (b : Blobs) (set : List Bool) (job : Option RunningJob) : Type 0 where
  pub headed : IfSome job IsHeaded
  pub heads : AreHeadPlaces md_len (base_of b.metas b.marked) set
  pub resolves : AreResolved b.metas b.marked
  pub kept : IfSome job (WillBeKept b)

-- where the regions lie, and how far the store goes
abbrev pub regions : Super → ℕ × ℕ × ℕ
regions s = (s.md_start, s.md_len, s.device_pages)

module _ {D : Type 0} (d : Ghosts D) (p : Running D) (order : InOrder d p) where
  -- the room of a log to which nothing is added
  pub room_still : HasRoomIn p p.rows.items
  room_still = record {
    seventeen = order.seventeen;
    entries = order.entries;
    marks = order.marks;
    few = order.few;
    counts = order.counts;
    counted = order.counted;
  }

  -- a row with as many commands left leaves it as it is
  pub room_with : (at : ℕ) (row was : Row) → at < length p.rows.items
      → length (slice_index_or p.rows.items at was).left ≡ length row.left
      → HasRoomIn p (slice_set p.rows.items at row)
  room_with at row was low same =
      let left : left_in (slice_set p.rows.items at row) ≡ left_in p.rows.items =
      left_same p.rows.items at row was low same in
      record {
        seventeen = length-set p.rows.items at row ∙ order.seventeen;
        entries = subst (λ n. length p.entries.items + n ≤ vec_capacity p.entries) (sym left) order.entries;
        marks = subst (λ n. length p.marks.items + n ≤ vec_capacity p.marks) (sym left) order.marks;
        few = subst (λ n. length p.entries.items + n < 2 ^ 31) (sym left) order.few;
        counts = order.counts;
        counted = order.counted;
      }

  -- a job on the metadata as it is
  pub job_on : {job : Option RunningJob} → IfSome job IsHeaded → IfSome job (WillBeKept (blobs_of p))
      → HasMetadata p.sup.md_len (blobs_of p) p.heads job
  job_on headed kept = record { headed = headed; heads = order.heads; resolves = order.resolves; kept = kept }

  -- So the store that is left is in order.
  pub order_kept : {q : Running D} → d.pages q.disk ≡ d.pages p.disk → regions q.sup ≡ regions p.sup
      → HasRoomIn q q.rows.items → q.pages.claims ≡ [] → q.clusters.claims ≡ []
      → HasMetadata p.sup.md_len (blobs_of q) q.heads q.job → InOrder d q
  order_kept {q} pages same room no_page no_cluster metadata = record {
    inside = subst₂ (λ (s : ℕ × ℕ × ℕ) (n : ℕ). s.0 + s.1 ≤ n) (sym same) (sym pages) order.inside;
    device = subst₂ (λ (s : ℕ × ℕ × ℕ) (n : ℕ). s.2 ≤ n) (sym same) (sym pages) order.device;
    seventeen = room.seventeen;
    entries = room.entries;
    marks = room.marks;
    few = room.few;
    counts = room.counts;
    counted = room.counted;
    no_page = no_page;
    no_cluster = no_cluster;
    headed = metadata.headed;
    heads = subst (λ (s : ℕ × ℕ × ℕ). AreHeadPlaces s.1 (base_of q.metas q.marked) q.heads) (sym same) metadata.heads;
    resolves = metadata.resolves;
    kept = metadata.kept;
  }
