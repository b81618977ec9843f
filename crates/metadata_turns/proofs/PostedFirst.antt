-- The first command of a channel, where it is posted.
use Rattle.std.proofs.Common.{◌≡◌, ℕ, List, ◌∷◌, ◌∙◌, ap}
use Rattle.volume_model.specs.declared.command.Command.{Command}
use Rattle.store_model.specs.Rows.{Row}
use Rattle.running_store.specs.Steps.{IsPostedAt}
use Rattle.running_store.specs.StoreView.{rows_of, StoreView}

module _ {D : Type 0} {p : StoreView D} {channel : ℕ} (posted : IsPostedAt p channel) where
  left : (rows_of p.rows channel).left ≡ posted.waits.command ∷ posted.waits.rest
  left = ap (λ (r : Row). r.left) posted.waits.row

  -- what is so of the first command is so of it,
  pub of_posted : {P : Command → List Command → Type 0} → ((command : Command) (rest : List Command)
      → (rows_of p.rows channel).left ≡ command ∷ rest → P command rest)
      → P posted.waits.command posted.waits.rest
  of_posted first = first posted.waits.command posted.waits.rest left

  -- and it is the one that is read
  pub posted_read : {rows : List Row} → rows ≡ p.rows → {read : Command} → ((command : Command) (rest : List Command)
      → (rows_of rows channel).left ≡ command ∷ rest → read ≡ command) → read ≡ posted.waits.command
  posted_read same first =
      first posted.waits.command posted.waits.rest (ap (λ (l : List Row). (rows_of l channel).left) same ∙ left)
