-- What the begin of a job that a channel's command asks for starts from.
use Rattle.std.specs.Prelude.{◌≡◌, ◌≢◌, ◌<◌, ℕ, None, Some}
use Rattle.page_disk.specs.declared.disk.PageDisk.{Ghosts}
use Rattle.super_block.specs.Faults.{IsFaultless}
use Rattle.blob_meta.specs.Repairs.{HasNoMarks}
use Rattle.running_store.specs.Running.{view_of, InOrder}
use Rattle.running_store.specs.RunningState.{IsRunning}
use Rattle.running_store.specs.Steps.{IsPostedAt}
use Rattle.running_store.specs.StoreView.{base_of, state_of}
use Rattle.running_store.specs.declared.running.Running.{Running}

-- A command of the channel is posted, and no slots are filled for it; the store runs, faultless and in order, and has
-- no job and no marked blob.
pub record CanBegin {D : Type 0} (d : Ghosts D) (store : Running D) (channel : ℕ) : Type 0 where
  pub within : channel < 16
  pub order : InOrder d store
  pub faultless : IsFaultless store.sup
  pub posted : IsPostedAt (view_of store) channel
  pub unfilled : store.filling ≢ Some channel
  pub running : IsRunning (state_of d (view_of store))
  pub runs : store.stopped ≡ None
  pub no_job : store.job ≡ None
  pub unmarked : HasNoMarks (base_of store.metas store.marked)
