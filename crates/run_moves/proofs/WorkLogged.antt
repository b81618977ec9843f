-- For whom a row worked whose claim is given back: for its own write, or for the fill's command.
use Rattle.std.proofs.Common.{◌≡◌, ◌≢◌, ℕ, [], sym, ◌∙◌}
use Rattle.volume_model.specs.declared.reply.Reply.{Reply}
use Rattle.store_model.specs.Claiming.{logs_filled, LogsFilled, logs_own, LogsOwn, LogsWork}
use Rattle.store_model.specs.Device.{Device}
use Rattle.store_model.specs.Rows.{fill_row, Stage}
use Rattle.store_model.specs.StoreState.{StoreState}

module _ (p q : StoreState) (row : ℕ) (stage : Stage) (reply : Reply) (device : Device) where
  -- a channel's row for its write
  pub of_channel : LogsWork p row stage reply device q → row ≢ fill_row → LogsOwn p row stage reply device q
  of_channel (logs_own x) apart = x
  of_channel (logs_filled x) apart = absurd (apart x.fills)

  -- a row without commands for the fill's
  pub of_fill : LogsWork p row stage reply device q → (p.rows row).left ≡ [] → LogsFilled p row stage reply device q
  of_fill (logs_own x) none = absurd (let bad = sym x.left ∙ none in cc bad)
  of_fill (logs_filled x) none = x
