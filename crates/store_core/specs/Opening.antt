-- How a running store begins.
use Rattle.std.specs.Prelude.{◌≡◌, ℕ, ◌+◌, ◌<◌, ◌≤◌, ◌^◌, nat_lt, vec_capacity, Bool, false, if◌then◌else◌, List, []}
use Rattle.std.specs.Prelude.{◌∷◌, length, nat_eq, None, slice_index_or}
use Rattle.std.specs.Option.{option_map}
use Rattle.std.specs.Ordering.{nat_cmp}
use Rattle.std.specs.FinMap as map
use Rattle.std.specs.FinSet as set
use Rattle.page_disk.specs.declared.disk.PageDisk.{Ghosts}
use Rattle.volume_model.specs.Xattrs.{Xattrs}
use Rattle.volume_model.specs.declared.command.Command.{Command}
use Rattle.blob_meta.specs.declared.meta.Meta.{Meta}
use Rattle.io_freeze.specs.Guards.{GuardsState}
use Rattle.store_model.specs.Guarding.{AreGenerations}
use Rattle.store_model.specs.Maps.{Metas}
use Rattle.store_model.specs.Places.{Unclaimed, UsedClusters, UsedPages}
use Rattle.store_model.specs.Filling.{unused_row}
use Rattle.store_model.specs.Rows.{fill_row, Row, Idle, Ended}
use Rattle.running_store.specs.declared.loaded.Loaded.{Loaded}
use Rattle.store_core.specs.declared.starting.AtStart.{AtStart}
use Rattle.running_store.specs.Running.{left_in}
use Rattle.running_store.specs.StoreView.{StoreView, base_of, rows_of}

-- each blob's attributes are live as they are synced
abbrev pub IsLiveAtStart : map.FinMap nat_cmp Meta → map.FinMap nat_cmp Xattrs → Type 0
IsLiveAtStart metas live = (head : ℕ) → map.get live head ≡ option_map (λ m. m.xattrs) (map.get metas head)

-- each blob has a generation of its own, and none is frozen
pub record AreGuardsAtStart (base : Metas) (guards : GuardsState) : Type 0 where
  pub generations : AreGenerations base (map.get guards.generations) guards.drawn
  pub none_frozen : (head : ℕ) → set.contains guards.frozen head ≡ false

-- the row of a channel of the script, or of a number past its channels
abbrev pub row_at_start : List (List Command) → ℕ → ℕ → Row
row_at_start script channels channel =
    if nat_lt channel channels then record { left = slice_index_or script channel []; stage = Idle; claim = None }
    else record { left = []; stage = Ended; claim = None }

-- Seventeen rows: those of the channels, each with its commands, and the fill's, which waits.
pub record AreRows (script : List (List Command)) (rows : List Row) : Type 0 where
  pub channels : ℕ
  pub few : channels ≤ 16
  pub seventeen : length rows ≡ 17
  pub each : (channel : ℕ) → channel < 16 → rows_of rows channel ≡ row_at_start script channels channel
  pub fill : rows_of rows fill_row ≡ unused_row
  pub above : (channel : ℕ) → nat_lt channel channels ≡ false → slice_index_or script channel [] ≡ []

-- the state of a store that was loaded so, with these live attributes, guards and rows, and these pages and clusters in
-- use, of which nothing is posted or logged
abbrev pub opened_with : {D : Type 0} → Ghosts D → Loaded D → map.FinMap nat_cmp Xattrs → GuardsState → List Row
    → List Bool → List Bool → StoreView D
opened_with d loaded live guards rows pages clusters = record {
  disk = loaded.disk;
  super = loaded.sup;
  clean = nat_eq loaded.sup.clean 1;
  metas = loaded.metas;
  marked = loaded.marked;
  chains = loaded.chains;
  live = live;
  pages = pages;
  clusters = clusters;
  rows = rows;
  filling = None;
  job = None;
  guards = guards;
  serial = 0;
  log = [];
  marks = d.clock loaded.disk ∷ [];
  stopped = None;
}

-- A store as it was loaded, with a script of which nothing is posted. In use is what any blob that was read has, those
-- that recovery removes among them.
pub record IsOpened {D : Type 0} (d : Ghosts D) (loaded : Loaded D) (script : List (List Command))
    (p : StoreView D) : Type 0 where
  pub live : IsLiveAtStart loaded.metas p.live
  pub guards : AreGuardsAtStart (base_of loaded.metas loaded.marked) p.guards
  pub rows : AreRows script p.rows
  pub pages : UsedPages loaded.sup.md_len p.pages (map.get loaded.chains) []
  pub clusters : UsedClusters loaded.sup p.clusters (base_of loaded.metas loaded.marked) Unclaimed
  pub at : p ≡ opened_with d loaded p.live p.guards p.rows p.pages p.clusters

-- What a start takes memory for, where this metadata stays and all that was read has these heads: the log has room for
-- every command, and one mark more.
pub record IsAtStart (metas : map.FinMap nat_cmp Meta) (base : Metas) (script : List (List Command)) (clock : ℕ)
    (b : AtStart) : Type 0 where
  pub live : IsLiveAtStart metas b.live
  pub guards : AreGuardsAtStart base b.guards
  pub rows : AreRows script b.rows.items
  pub log : b.entries.items ≡ []
  pub marks : b.marks.items ≡ clock ∷ []
  pub log_room : left_in b.rows.items ≤ vec_capacity b.entries
  pub marks_room : 1 + left_in b.rows.items ≤ vec_capacity b.marks
  pub few : left_in b.rows.items < 2 ^ 31
