-- What the device shows behind a run that didn't stop: the replay of its log, contents and all.
use Rattle.std.proofs.Common.{◌≡◌, ◌∙◌, ℕ, IsTrue, None, ap, subst}
use Rattle.std.specs.FinMap as map
use Rattle.page_disk.specs.Disk.{Image}
use Rattle.page_disk.specs.declared.disk.PageDisk.{Ghosts}
use Rattle.super_block.specs.declared.page.Super.{Super}
use Rattle.volume_model.specs.Logs.{replay, stable}
use Rattle.volume_model.specs.Volumes.{Volumes}
use Rattle.blob_meta.specs.Resolving.{resolved}
use Rattle.store_model.specs.Maps.{Metas}
use Rattle.store_model.specs.Recovers.{HasStore}
use Rattle.store_model.specs.Regions.{region_of}
use Rattle.store_model.specs.Scans.{Says}
use Rattle.store_model.specs.Shown.{fixed_of, shown_by, shows}
use Rattle.store_model.specs.StoreState.{shown}
use Rattle.store_model.proofs.AtStart.{told_reads}
use Rattle.store_model.proofs.Besides.{shows_same, shows_synced}
use Rattle.store_model.proofs.Contents.{synced}
use Rattle.store_model.proofs.StateAgrees.{told_replayed}
use Rattle.running_store.specs.StoreView.{base_of, state_of, WithOpening}
use Rattle.store_core.specs.StoreInvariant.{opening_script, StoreInvariant}
use Rattle.blob_tool.proofs.ClosedStore.{HasSameStore}

module _ {D : Type 0} (d : Ghosts D) (told : IsTrue d.tells) (b : WithOpening D) (kept : StoreInvariant d b)
    (runs : b.at.stopped ≡ None) where
  abbrev s : Super
  s = b.opening.super

  abbrev first : Volumes
  first = shown (state_of d b.opening)

  abbrev base : Metas
  base = base_of b.at.metas b.at.marked

  replayed : shown_by (fixed_of s) (d.now b.at.disk) (resolved base) (map.get b.at.live)
      ≡ replay (fixed_of s) first b.at.log
  replayed = subst
      (λ (now : Image). shown_by (fixed_of s) now (resolved base) (map.get b.at.live)
      ≡ replay (fixed_of s) first b.at.log)
      (told_reads d b.at.disk told)
      (told_replayed s first (opening_script b.opening) (state_of d b.at) kept.facts told runs).shown

  -- another image with this store, which holds all that is read but the super block and masks, shows the replay as it
  -- survives
  pub shown_at_end : (other : Image) → HasStore s other → HasSameStore s (d.now b.at.disk) other
      → Says (region_of s) base (map.get b.at.chains) (d.now b.at.disk) → (head : ℕ)
      → shows (fixed_of s) other (resolved base) head ≡ stable (fixed_of s) first b.at.log head
  shown_at_end other store same says head =
      ap (λ (v : Volumes). v head)
      (shows_same s kept.placed (d.now b.at.disk) other store same.region same.behind base (map.get b.at.chains) says
      kept.facts.lawful)
      ∙ shows_synced (fixed_of s) (d.now b.at.disk) (resolved base) (map.get b.at.live) head
      ∙ ap (λ (v : Volumes). synced (v head)) replayed
