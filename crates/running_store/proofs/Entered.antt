-- The state once an entry is logged.
use Rattle.std.proofs.Common.{None, ◌≡◌, ℕ, ◌<◌, List, length, ◌∙◌, ap}
use Rattle.page_disk.specs.declared.disk.PageDisk.{Ghosts}
use Rattle.volume_model.specs.declared.command.Command.{Command}
use Rattle.volume_model.specs.declared.reply.Reply.{Reply}
use Rattle.store_model.specs.Rows.{Answered, Decided, Rows, Stage}
use Rattle.store_model.specs.StoreState.{logged, logged_to}
use Rattle.running_store.specs.StoreView.{StoreView, device_of, state_of}
use Rattle.running_store.specs.Steps.{logged_at, logged_then}
use Rattle.running_store.proofs.Rowing.{rows_set}

module _ (next : Stage) {D : Type 0} (d : Ghosts D) (old new : StoreView D) (channel : ℕ) (command : Command)
    (rest : List Command) (reply : Reply) (low : channel < length old.rows)
    (is : new ≡ logged_then next old channel command rest reply (d.clock new.disk)) where
  pub disk_same_then : new.disk ≡ old.disk
  disk_same_then = ap (λ (a : StoreView D). a.disk) is

  pub entered_then : state_of d new ≡ logged_to next (state_of d old) channel command rest reply (device_of d old.disk)
  entered_then =
      ap (state_of d)
      (is ∙ ap (λ (disk : D). logged_then next old channel command rest reply (d.clock disk)) disk_same_then)
      ∙ ap (λ (r : Rows).
      record (logged_to next (state_of d old) channel command rest reply (device_of d old.disk)) { rows = r })
      (rows_set old.rows channel (record { left = rest; stage = next; claim = None }) low)

module _ {D : Type 0} (d : Ghosts D) (old new : StoreView D) (channel : ℕ) (command : Command) (rest : List Command)
    (reply : Reply) (low : channel < length old.rows)
    (is : new ≡ logged_at old channel command rest reply (d.clock new.disk)) where
  pub disk_same : new.disk ≡ old.disk
  disk_same = disk_same_then (Decided Answered) d old new channel command rest reply low is

  pub entered : state_of d new ≡ logged (state_of d old) channel command rest reply (device_of d old.disk)
  entered = entered_then (Decided Answered) d old new channel command rest reply low is
