-- Each claim is held for the command that its row works for.
use Rattle.std.specs.Prelude.{◌≡◌, ℕ, Some}
use Rattle.store_model.specs.Claiming.{Works}
use Rattle.store_model.specs.Filling.{FillStands}
use Rattle.store_model.specs.Rows.{InJob, OpenClaim}
use Rattle.store_model.specs.StoreState.{ForInsert, JobState, StoreState}

-- A row that works waits for its insert.
pub record WaitsToInsert (p : StoreState) (row : ℕ) : Type 0 where
  pub stage : (p.rows row).stage ≡ InJob
  pub works : Works p row

-- A row that holds a claim works for a command, and so does one whose insert the running job does.
pub record RowsWork (p : StoreState) : Type 0 where
  pub claims : (row : ℕ) (claim : OpenClaim) → (p.rows row).claim ≡ Some claim → Works p row
  pub inserts : (job : JobState) (row : ℕ) → p.job ≡ Some job → job.serves ≡ ForInsert row → WaitsToInsert p row
  pub fill : FillStands p
