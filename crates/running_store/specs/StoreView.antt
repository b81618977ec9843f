-- What contracts see of a running store: the device itself, and the rest as plain data; and the state that follows.
use Rattle.std.specs.Prelude.{◌≡◌, ◌≢◌, None, ℕ, Bool, List, [], Option, Some, refl, slice_index_or}
use Rattle.std.specs.Option.{option_or}
use Rattle.std.specs.Ordering.{nat_cmp}
use Rattle.std.specs.FinMap as map
use Rattle.std.specs.FinSet as set
use Rattle.std.specs.Coded.{Coded, code_by, coded×, coded_ℕ, coded_bool, coded_option, coded_list}
use Rattle.page_disk.specs.declared.disk.PageDisk.{Ghosts}
use Rattle.super_block.specs.declared.page.Super.{Super}
use Rattle.super_block.specs.contracts.page.Super as super_block
use Rattle.volume_model.specs.Xattrs.{Xattrs}
use Rattle.volume_model.specs.contracts.text.Xattr as xattr
use Rattle.volume_model.specs.declared.reply.Entry.{Entry}
use Rattle.volume_model.specs.contracts.reply.Entry as entry
use Rattle.blob_meta.specs.declared.meta.Meta.{Meta}
use Rattle.blob_meta.specs.contracts.meta.Meta as meta
use Rattle.blob_meta.specs.Resolving.{mark_of, resolved}
use Rattle.io_freeze.specs.Guards.{GuardsState, guards_code}
pub use Rattle.store_model.specs.Touches.{device_of, read_now}
use Rattle.store_model.specs.Maps.{Metas}
use Rattle.store_model.specs.Rows.{Row, Rows, Ended}
use Rattle.store_model.specs.StoreState.{JobState, StoreState}
use Rattle.running_store.specs.Stages.{row_code}
use Rattle.running_store.specs.JobCodes.{job_code}

pub record StoreView (D : Type 0) : Type 0 where
  pub disk : D
  pub super : Super
  pub clean : Bool
  pub metas : map.FinMap nat_cmp Meta
  pub marked : map.FinMap nat_cmp Meta
  pub chains : map.FinMap nat_cmp (List ℕ)
  pub live : map.FinMap nat_cmp Xattrs
  pub pages : List Bool
  pub clusters : List Bool
  pub rows : List Row
  pub filling : Option ℕ
  pub job : Option JobState
  pub guards : GuardsState
  pub serial : ℕ
  pub log : List Entry
  pub marks : List ℕ
  pub stopped : Option ℕ

-- a store now, and as it began, with the name of the one right to change its metadata
pub record WithOpening (D : Type 0) : Type 0 where
  pub at : StoreView D
  pub opening : StoreView D
  pub right : ℕ

abbrev pub view_code : {D : Type 0} → Coded D → Coded (StoreView D)
view_code {D} d =
    code_by
    (D × (Super × (Bool × (map.FinMap nat_cmp Meta × (map.FinMap nat_cmp Meta × (map.FinMap nat_cmp (List ℕ)
    × (map.FinMap nat_cmp Xattrs × (List Bool × (List Bool × (List Row × (Option ℕ × (Option JobState
    × (GuardsState × (ℕ × (List Entry × (List ℕ × Option ℕ))))))))))))))))
    (coded× d (coded× super_block.the_row.coded (coded× coded_bool
    (coded× (map.code coded_ℕ meta.the_row.coded) (coded× (map.code coded_ℕ meta.the_row.coded)
    (coded× (map.code coded_ℕ (coded_list coded_ℕ)) (coded× (map.code coded_ℕ (coded_list xattr.the_row.coded))
    (coded× (coded_list coded_bool) (coded× (coded_list coded_bool) (coded× (coded_list row_code)
    (coded× (coded_option coded_ℕ) (coded× (coded_option job_code) (coded× guards_code (coded× coded_ℕ
    (coded× (coded_list entry.the_row.coded) (coded× (coded_list coded_ℕ) (coded_option coded_ℕ)))))))))))))))))
    (λ a. (
      a.disk,
      (
        a.super,
        (
          a.clean,
          (
            a.metas,
            (
              a.marked,
              (
                a.chains,
                (
                  a.live,
                  (
                    a.pages,
                    (a.clusters, (a.rows, (a.filling, (a.job, (a.guards, (a.serial, (a.log, (a.marks, a.stopped)))))))),
                  ),
                ),
              ),
            ),
          ),
        ),
      ),
    ))
    (λ p. record {
      disk = p.0;
      super = p.1.0;
      clean = p.1.1.0;
      metas = p.1.1.1.0;
      marked = p.1.1.1.1.0;
      chains = p.1.1.1.1.1.0;
      live = p.1.1.1.1.1.1.0;
      pages = p.1.1.1.1.1.1.1.0;
      clusters = p.1.1.1.1.1.1.1.1.0;
      rows = p.1.1.1.1.1.1.1.1.1.0;
      filling = p.1.1.1.1.1.1.1.1.1.1.0;
      job = p.1.1.1.1.1.1.1.1.1.1.1.0;
      guards = p.1.1.1.1.1.1.1.1.1.1.1.1.0;
      serial = p.1.1.1.1.1.1.1.1.1.1.1.1.1.0;
      log = p.1.1.1.1.1.1.1.1.1.1.1.1.1.1.0;
      marks = p.1.1.1.1.1.1.1.1.1.1.1.1.1.1.1.0;
      stopped = p.1.1.1.1.1.1.1.1.1.1.1.1.1.1.1.1;
    })
    (λ _. refl)

abbrev pub with_opening_code : {D : Type 0} → Coded D → Coded (WithOpening D)
with_opening_code {D} d =
    code_by (StoreView D × (StoreView D × ℕ)) (coded× (view_code d) (coded× (view_code d) coded_ℕ))
    (λ b. (b.at, (b.opening, b.right))) (λ p. record { at = p.0; opening = p.1.0; right = p.1.1 }) (λ _. refl)

-- the rows by their numbers: one past the seventeenth has ended
abbrev pub rows_of : List Row → Rows
rows_of rows channel = slice_index_or rows channel (record { left = []; stage = Ended; claim = None })

-- the metadata as the device says it: marked blobs with their marks, all others as they are once it is resolved
abbrev pub base_of : map.FinMap nat_cmp Meta → map.FinMap nat_cmp Meta → Metas
base_of metas marked head = option_or (map.get marked head) (map.get metas head)

-- What the device says resolves to this metadata; these are its blobs with a mark.
pub record AreResolved (metas marked : map.FinMap nat_cmp Meta) : Type 0 where
  pub marks : (head : ℕ) (m : Meta) → map.get marked head ≡ Some m → mark_of m ≢ None
  pub resolves : resolved (base_of metas marked) ≡ map.get metas

abbrev pub state_of : {D : Type 0} → Ghosts D → StoreView D → StoreState
state_of d at = record {
  super = at.super;
  clean = at.clean;
  base = base_of at.metas at.marked;
  chains = map.get at.chains;
  live = map.get at.live;
  pages = at.pages;
  clusters = at.clusters;
  rows = rows_of at.rows;
  filling = at.filling;
  job = at.job;
  frozen = set.contains at.guards.frozen;
  generations = map.get at.guards.generations;
  drawn = at.guards.drawn;
  serial = at.serial;
  log = at.log;
  marks = at.marks;
  stopped = at.stopped;
  tells = d.tells;
  device = device_of d at.disk;
}
