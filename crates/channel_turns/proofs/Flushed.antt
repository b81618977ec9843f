-- What a channel's flush makes of the store.
use Rattle.std.proofs.Common.{None, false, true, ◌≡◌, ℕ, ◌<◌, ◌∷◌, length, sym, ◌∙◌, ap, subst}
use Rattle.std.proofs.Common.{IsTrue}
use Rattle.page_disk.specs.Disk.{Only}
use Rattle.page_disk.specs.Moments.{CallsLeaveOnly}
use Rattle.page_disk.specs.declared.disk.PageDisk.{Ghosts}
use Rattle.volume_model.specs.declared.command.Command.TheVariants as c
use Rattle.volume_model.specs.declared.reply.Reply.TheVariants as r
use Rattle.store_model.specs.Cases.{FailsToReplace}
use Rattle.store_model.specs.Cases.Flush.{IsFlushed}
use Rattle.store_model.specs.Cases as kind
use Rattle.store_model.specs.Rows.{Idle, Row}
use Rattle.store_model.specs.StoreState.{logged_here, StoreState}
use Rattle.store_model.specs.Touches.{Touched, no_new}
use Rattle.channel_turns.specs.ChannelTurns.{IsOfFlush, WaitsToFlush}
use Rattle.running_store.specs.TurnMade.{TurnsAs}
use Rattle.running_store.proofs.Thawed.{state_stopped}
use Rattle.channel_turns.proofs.Thawed.{IsThawed}
use Rattle.running_store.specs.Steps.{stopped_here}
use Rattle.running_store.specs.StoreView.{StoreView, device_of, rows_of}
use Rattle.running_store.proofs.Entered.{disk_same_then, entered_then}
use Rattle.channel_turns.proofs.FirstCommand.{IsLogged}

module _ {D : Type 0} (d : Ghosts D) (p : StoreView D) (channel : ℕ) (low : channel < length p.rows)
    (runs : p.stopped ≡ None) (w : WaitsToFlush p channel) (disk : D)
    (moments : CallsLeaveOnly d p.disk disk (d.images p.disk)) (pages : d.pages disk ≡ d.pages p.disk)
    (q : StoreView D) where
  left : (rows_of p.rows channel).left ≡ c.Flush ∷ w.rest
  left = ap (λ (x : Row). x.left) w.row

  pub flush_made : IsFlushed (device_of d p.disk) (device_of d disk)
      → (IsTrue d.tells → Only (d.now disk) (d.images disk))
      → IsLogged Idle d (record p { disk = disk }) channel r.Ok q
      → TurnsAs d IsOfFlush p q
  flush_made flushed durable logged =
      let is = logged c.Flush w.rest left in
      let same = disk_same_then Idle d (record p { disk = disk }) q channel c.Flush w.rest r.Ok low is in
      record {
        kind = kind.flushes;
        is = tt;
        made = (
          record {
            channel = channel;
            rest = w.rest;
            row = w.row;
            runs = runs;
            device = device_of d disk;
            flushed = flushed;
            next = entered_then Idle d (record p { disk = disk }) q channel c.Flush w.rest r.Ok low is;
          },
          subst (λ (x : D). Touched d p.disk x (no_new true)) (sym same)
              (record { moments = moments; durable = λ _. durable; pages = pages }),
        );
      }

  pub flush_failed : IsThawed p
      → FailsToReplace None (device_of d p.disk) (device_of d disk)
      → IsLogged Idle d (stopped_here (record p { disk = disk })) channel r.Fault q
      → TurnsAs d IsOfFlush p q
  flush_failed thawed fails logged =
      let is = logged c.Flush w.rest left in
      let mid : StoreView D = stopped_here (record p { disk = disk }) in
      let same = disk_same_then Idle d mid q channel c.Flush w.rest r.Fault low is in
      record {
        kind = kind.flush_fails;
        is = tt;
        made = (
          record {
            channel = channel;
            rest = w.rest;
            row = w.row;
            runs = runs;
            device = device_of d disk;
            fails = fails;
            next = entered_then Idle d mid q channel c.Flush w.rest r.Fault low is
                ∙ ap (λ (a : StoreState). logged_here a channel c.Flush w.rest r.Fault (device_of d disk))
                (state_stopped d (record p { disk = disk }) thawed);
          },
          subst (λ (x : D). Touched d p.disk x (no_new false)) (sym same)
              (record { moments = moments; durable = λ never. absurd (cc never); pages = pages }),
        );
      }
