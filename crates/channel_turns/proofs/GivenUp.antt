-- A channel's first command as one that it logs itself, and a copy that came to nothing.
use Rattle.std.proofs.Common.{◌≡◌, ℕ, ◌<◌, length, refl, subst}
use Rattle.page_disk.specs.declared.disk.PageDisk.{Ghosts}
use Rattle.volume_model.specs.declared.reply.Reply.{Reply}
use Rattle.volume_model.specs.declared.reply.Reply.TheVariants as r
use Rattle.store_model.specs.Claiming.{IsCopying, LogsWork, Works}
use Rattle.store_model.specs.Filling.{FillStands}
use Rattle.store_model.specs.Rows.{Idle, Stage}
use Rattle.store_model.specs.StoreState.{StoreState}
use Rattle.store_model.specs.Turning.{stopped_now}
use Rattle.channel_turns.specs.ClaimTurns.{HoldsClaim}
use Rattle.running_store.specs.GivingBack.{IsGivenUp}
use Rattle.running_store.specs.StoreView.{device_of, state_of, StoreView}
use Rattle.running_store.proofs.Thawed.{state_stopped}
use Rattle.channel_turns.proofs.Thawed.{IsThawed}
use Rattle.running_store.specs.Steps.{stopped_here}
use Rattle.running_store.proofs.WorkLogged.{fill_still, logs_seen, work_disk, work_logged, work_low, works_still}

-- ---- a copy that came to nothing

module _ {D : Type 0} (d : Ghosts D) (p : StoreView D) (row : ℕ) (stage : Stage) (w : HoldsClaim d p row stage) where
  abbrev pub copying : IsCopying (state_of d p) stage
  copying = record { row = row; left = w.left; claim = w.claim; is = w.is; works = w.works }

  module _ (fill : FillStands (state_of d p)) (seventeen : length p.rows ≡ 17) (disk : D) (q : StoreView D) where
    -- the store with the device behind the call that failed, and as it stops
    abbrev called : StoreView D
    called = record p { disk = disk }

    low : row < 17
    low = work_low d p seventeen fill row w.works

    -- the store runs on
    pub logs_still : (reply : Reply) → IsGivenUp called q row Idle reply (d.clock q.disk)
        → LogsWork (state_of d p) row Idle reply (device_of d disk) (state_of d q)
    logs_still reply given =
        logs_seen (state_of d p) (device_of d disk) row Idle reply (device_of d disk) (state_of d q)
        (work_logged d called seventeen (fill_still (state_of d p) (state_of d called) refl refl fill) q row Idle reply
        low (works_still (state_of d p) (state_of d called) refl refl row w.works) given)

    pub disk_still : (reply : Reply) → IsGivenUp called q row Idle reply (d.clock q.disk) → q.disk ≡ disk
    disk_still reply given =
        work_disk d called seventeen (fill_still (state_of d p) (state_of d called) refl refl fill) q row Idle reply
        low (works_still (state_of d p) (state_of d called) refl refl row w.works) given

    module _ (given : IsGivenUp (stopped_here called) q row Idle r.Fault (d.clock q.disk)) where
      abbrev fill_here : FillStands (state_of d (stopped_here called))
      fill_here = fill_still (state_of d p) (state_of d (stopped_here called)) refl refl fill

      abbrev works_here : Works (state_of d (stopped_here called)) row
      works_here = works_still (state_of d p) (state_of d (stopped_here called)) refl refl row w.works

      -- a write or a flush failed, and the store stops
      pub logs_failed : IsThawed p
          → LogsWork (stopped_now (state_of d p)) row Idle r.Fault (device_of d disk) (state_of d q)
      logs_failed thawed =
          logs_seen (stopped_now (state_of d p)) (device_of d disk) row Idle r.Fault (device_of d disk) (state_of d q)
          (subst (λ (s : StoreState). LogsWork s row Idle r.Fault (device_of d disk) (state_of d q))
          (state_stopped d called thawed)
          (work_logged d (stopped_here called) seventeen fill_here q row Idle r.Fault low works_here given))

      pub disk_failed : q.disk ≡ disk
      disk_failed = work_disk d (stopped_here called) seventeen fill_here q row Idle r.Fault low works_here given
