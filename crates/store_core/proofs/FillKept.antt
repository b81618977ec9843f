-- What is known of the fill's row of a running store.
use Rattle.std.proofs.Common.{◌≡◌, []}
use Rattle.page_disk.specs.declared.disk.PageDisk.{Ghosts}
use Rattle.store_model.specs.Filling.{FillStands}
use Rattle.store_model.specs.Rows.{fill_row}
use Rattle.store_model.proofs.FillRuns.{fill_stands}
use Rattle.store_core.specs.StoreInvariant.{StoreInvariant}
use Rattle.running_store.specs.StoreView.{rows_of, state_of, WithOpening}

module _ {D : Type 0} (d : Ghosts D) (p : WithOpening D) (kept : StoreInvariant d p) where
  pub fill_kept : FillStands (state_of d p.at)
  fill_kept =
      fill_stands d.tells (state_of d p.opening) (state_of d p.at) kept.run.0 kept.began kept.run.1

  -- it has no commands
  pub fill_left : (rows_of p.at.rows fill_row).left ≡ []
  fill_left = fill_kept.left
