-- The state of a run in which one row changed.
use Rattle.std.proofs.Common.{◌≡◌, ℕ, Bool, true, false, List, [], Option, Some, None, refl}
use Rattle.std.proofs.Common.{ap, ◌∙◌}
use Rattle.std.specs.Prelude.{◌==◌, if◌then◌else◌, ◌&&◌, is_some, not}
use Rattle.std.specs.List.{find}
use Rattle.std.specs.Option.{option_map, option_map_or}
use Rattle.std.proofs.Math.Path.{fun_ext}
use Rattle.page_disk.specs.Disk.{Image}
use Rattle.super_block.specs.declared.page.Super.{Super}
use Rattle.volume_model.specs.Volumes.{has_name, heads, is_super, Volume}
use Rattle.std.specs.Str.{bytes_eq}
use Rattle.volume_model.specs.Xattrs.{name_key, told, Xattrs}
use Rattle.volume_model.specs.declared.command.Command.{Command}
use Rattle.volume_model.specs.declared.command.VolumeRef.{VolumeRef}
use Rattle.volume_model.specs.declared.command.VolumeRef.TheVariants.{Head, Named}
use Rattle.blob_meta.specs.declared.meta.Meta.{Meta}
use Rattle.blob_meta.specs.Resolving.{resolved}
use Rattle.store_model.specs.Maps.{Map, Metas}
use Rattle.store_model.specs.Rows.{Answered, Decided, Row, Rows, with_row}
use Rattle.store_model.specs.Shown.{fixed_of, shown_by, volume_of}
use Rattle.store_model.specs.StoreState.{JobState, StoreState}
use Rattle.run_work.specs.RunState.{RowInRun}
use Rattle.run_work.specs.Reading.{with_row_in_run}
use Rattle.run_work.specs.ChannelMoves.{moved_row}
use Rattle.run_moves.specs.Projection.{heads_found, job_in_run, row_in_run, rows_in_run, run_by, run_state_of}
use Rattle.run_moves.specs.Projection.{RunMessages}

-- ---- rows

module _ (s : Super) (rows : Rows) (ch : ℕ) (row : Row) where
  at_row : (b : Bool) (k : ℕ) → row_in_run s (if b then row else rows k)
      ≡ (if b then row_in_run s row else row_in_run s (rows k))
  at_row true k = refl
  at_row false k = refl

  -- one row changes
  pub rows_moved : rows_in_run s (with_row rows ch row)
      ≡ with_row_in_run (rows_in_run s rows) ch (row_in_run s row)
  rows_moved = fun_ext (λ k. at_row (k == ch) k)

-- a row that is logged by the metadata thread, of which its channel is to be told
abbrev pub decided_row : List Command → Row
decided_row rest = record { left = rest; stage = Decided Answered; claim = None }

-- a row that changes twice
pub row_twice : (rows : Rows) (ch : ℕ) (first row : Row) → with_row (with_row rows ch first) ch row
    ≡ with_row rows ch row
row_twice rows ch first row = fun_ext (λ k. go (k == ch) k)
  where
    go : (b : Bool) (k : ℕ) → (if b then row else (if b then first else rows k)) ≡ (if b then row else rows k)
    go true k = refl
    go false k = refl

-- ---- what references mean

module _ (s : Super) (a b : Image) (base : Metas) (live : Map Xattrs) where
  abbrev seen_by : Image → ℕ → Option Meta → Option Volume
  seen_by image h o = option_map (λ m. volume_of (fixed_of s).cluster_pages image (resolved base) (fixed_of s).md_len
      (option_map_or (λ xs. xs) (live h) []) h m) o

  there_same : (h : ℕ) (o : Option Meta) → is_some (seen_by a h o) ≡ is_some (seen_by b h o)
  there_same h None = refl
  there_same h (Some m) = refl

  called_same : (name : List ℕ) (h : ℕ) (o : Option Meta)
      → option_map_or (λ (x : Volume). bytes_eq (told x.live name_key) name) (seen_by a h o) false
      ≡ option_map_or (λ (x : Volume). bytes_eq (told x.live name_key) name) (seen_by b h o) false
  called_same name h None = refl
  called_same name h (Some m) = refl

  named_same : (name : List ℕ) → has_name (fixed_of s) (shown_by (fixed_of s) a (resolved base) live) name
      ≡ has_name (fixed_of s) (shown_by (fixed_of s) b (resolved base) live) name
  named_same name = fun_ext (λ h.
      ap (λ y. not (is_super (fixed_of s) h) && y) (called_same name h (resolved base h)))

  found_same : (volume : VolumeRef) → heads_found s a base live volume ≡ heads_found s b base live volume
  found_same (Head h) = ap (λ y. if y then Some h else None) (there_same h (resolved base h))
  found_same (Named name) = ap (λ test. find test (heads (fixed_of s))) (named_same name)

  -- it doesn't depend on the content of pages
  pub finds_same : heads_found s a base live ≡ heads_found s b base live
  finds_same = fun_ext found_same

-- ---- the state

-- A row changes, what the device reads, the job, which blobs are frozen, and messages.
pub moved : (s : Super) (a b : Image) (base : Metas) (generations : Map ℕ) (live : Map Xattrs) (rows : Rows)
    (job other : Option JobState) (frozen now : ℕ → Bool) (d : RunMessages) (ch : ℕ) (row : Row)
    → run_by s b base generations live (with_row rows ch row) other now d
    ≡ record (moved_row (run_by s a base generations live rows job frozen d) ch (row_in_run s row)) {
      job = option_map job_in_run other;
      frozen = now;
    }
moved s a b base generations live rows job other frozen now d ch row =
    ap (λ f. record (run_by s b base generations live (with_row rows ch row) other now d) { finds = f })
    (finds_same s b a base live)
    ∙ ap (λ r. record (run_by s a base generations live rows other now d) { rows = r }) (rows_moved s rows ch row)

module _ (p q : StoreState) (e : RunMessages) where
  -- a turn that changes one row, and maybe the job and which blobs are frozen
  pub changes_row : (ch : ℕ) (image : Image) (after : Row) (to : RowInRun) (other : Option JobState) (now : ℕ → Bool)
      → row_in_run p.super after ≡ to
      → run_state_of q e ≡ run_by p.super image p.base p.generations p.live (with_row p.rows ch after) other now e
      → run_state_of q e
      ≡ record (moved_row (run_state_of p e) ch to) { job = option_map job_in_run other; frozen = now }
  changes_row ch image after to other now is leaves =
      leaves ∙ moved p.super p.device.reads image p.base p.generations p.live p.rows p.job other p.frozen now e ch after
      ∙ ap (λ r. record (moved_row (run_state_of p e) ch r) { job = option_map job_in_run other; frozen = now }) is

  -- one that changes no row
  pub changes_job : (image : Image) (other : Option JobState) (now : ℕ → Bool)
      → run_state_of q e ≡ run_by p.super image p.base p.generations p.live p.rows other now e
      → run_state_of q e ≡ record (run_state_of p e) { job = option_map job_in_run other; frozen = now }
  changes_job image other now leaves =
      leaves ∙ ap (λ f. record (run_by p.super image p.base p.generations p.live p.rows other now e) { finds = f })
      (finds_same p.super image p.device.reads p.base p.live)
