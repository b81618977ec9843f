-- Which rows have a write first: those with a claim, and those that an insert's job serves.
use Rattle.std.specs.Prelude.{◌≡◌, ℕ, List, [], ◌∷◌, Some}
use Rattle.volume_model.specs.declared.command.Command.{Command}
use Rattle.volume_model.specs.declared.command.Command.TheVariants as c
use Rattle.store_model.specs.Rows.{fill_row, InJob, OpenClaim}
use Rattle.store_model.specs.StoreState.{ForInsert, JobState, StoreState}

-- the first command of a row is a write; the row on which slots are filled alone may have none
abbrev pub BeginsWithWrite : ℕ → List Command → Type 0
BeginsWithWrite row [] = row ≡ fill_row
BeginsWithWrite row (c.Write volume page word ∷ commands) = Unit {0}
BeginsWithWrite row _ = ⊥

-- a row with a claim has a write first, and so has one that waits for the job of its insert
pub record HasPlainRows (p : StoreState) : Type 0 where
  pub claimed : (channel : ℕ) (claim : OpenClaim) → (p.rows channel).claim ≡ Some claim
      → BeginsWithWrite channel (p.rows channel).left
  pub inserting : (job : JobState) (channel : ℕ) → p.job ≡ Some job → job.serves ≡ ForInsert channel
      → ((p.rows channel).stage ≡ InJob) × BeginsWithWrite channel (p.rows channel).left
