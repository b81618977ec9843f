-- What the flush of a channel's copies makes of the store, and the insert that is posted then.
use Rattle.std.proofs.Common.{None, Some, false, true, ◌≡◌, ℕ, ◌<◌, length, refl, sym, ◌∙◌, ap, arith, subst}
use Rattle.std.proofs.Common.{inl, IsTrue}
use Rattle.page_disk.specs.Disk.{Only}
use Rattle.page_disk.specs.Moments.{CallsLeaveOnly}
use Rattle.page_disk.specs.declared.disk.PageDisk.{Ghosts}
use Rattle.std.specs.Prelude.{slice_set}
use Rattle.volume_model.specs.declared.reply.Reply.TheVariants as r
use Rattle.store_model.specs.Cases as kind
use Rattle.store_model.specs.Cases.{FailsToReplace}
use Rattle.store_model.specs.Cases.CopyFail.{flush}
use Rattle.store_model.specs.Cases.Flush.{IsFlushed}
use Rattle.store_model.specs.Filling.{FillStands}
use Rattle.store_model.specs.Rows.{Idle, Posted, Ready, Row, Rows}
use Rattle.store_model.specs.StoreState.{next_serial, StoreState}
use Rattle.store_model.specs.Touches.{no_new, Touched}
use Rattle.channel_turns.proofs.Thawed.{IsThawed}
use Rattle.running_store.specs.Steps.{stopped_here}
use Rattle.running_store.specs.TurnMade.{TurnMade, TurnsAs}
use Rattle.channel_turns.specs.ClaimTurns.{HoldsClaim, IsOfSend, row_posted}
use Rattle.running_store.specs.GivingBack.{IsGivenUp}
use Rattle.running_store.specs.StoreView.{device_of, state_of, StoreView}
use Rattle.channel_turns.proofs.GivenUp.{copying, disk_failed, logs_failed}
use Rattle.running_store.proofs.Rowing.{rows_set}
use Rattle.running_store.proofs.WorkLogged.{work_low}

module _ {D : Type 0} (d : Ghosts D) (p : StoreView D) (row : ℕ) (seventeen : length p.rows ≡ 17)
    (fill : FillStands (state_of d p)) (runs : p.stopped ≡ None) (w : HoldsClaim d p row Ready) (disk : D)
    (moments : CallsLeaveOnly d p.disk disk (d.images p.disk)) (pages : d.pages disk ≡ d.pages p.disk)
    (q : StoreView D) where
  low : row < length p.rows
  low = let lt = work_low d p seventeen fill row w.works in omega (arith, lt, seventeen)

  pub sent : IsFlushed (device_of d p.disk) (device_of d disk) → (IsTrue d.tells → Only (d.now disk) (d.images disk))
      → q ≡ row_posted (record p { disk = disk }) row → TurnMade d p q kind.sends
  sent flushed durable is =
      let given : Row = record { left = w.left; stage = Posted p.serial; claim = Some w.claim } in
      let s : StoreState = record (state_of d p) { device = device_of d disk } in (
        record {
          copying = copying d p row Ready w;
          runs = runs;
          device = device_of d disk;
          flushed = flushed;
          next =
              ap (state_of d) is
              ∙ ap (λ (x : Row). state_of d (record p {
                disk = disk;
                rows = slice_set p.rows row (record x { stage = Posted p.serial });
                serial = next_serial p.serial;
              })) w.is
              ∙ ap (λ (rows : Rows). record s { rows = rows; serial = next_serial p.serial })
              (rows_set p.rows row given low);
        },
        subst (λ (x : D). Touched d p.disk x (no_new true)) (sym (ap (λ (a : StoreView D). a.disk) is))
            (record { moments = moments; durable = λ _. durable; pages = pages }),
      )

  pub send_failed : IsThawed p → FailsToReplace None (device_of d p.disk) (device_of d disk)
      → IsGivenUp (stopped_here (record p { disk = disk })) q row Idle r.Fault (d.clock q.disk)
      → TurnsAs d IsOfSend p q
  send_failed thawed fails given = record {
    kind = kind.copy_fails;
    is = tt;
    made = (
      record {
        stage = Ready;
        copying = copying d p row Ready w;
        tried = flush refl;
        runs = runs;
        device = device_of d disk;
        fails = record {
          rest = fails.rest;
          clock = fails.clock;
          read_faults = fails.read_faults;
          write_faults = fails.write_faults;
          read_calls = inl fails.read_calls;
        };
        logs = logs_failed d p row Ready w fill seventeen disk q given thawed;
      },
      subst (λ (x : D). Touched d p.disk x (no_new false))
          (sym (disk_failed d p row Ready w fill seventeen disk q given))
          (record { moments = moments; durable = λ never. absurd (cc never); pages = pages }),
    );
  }
