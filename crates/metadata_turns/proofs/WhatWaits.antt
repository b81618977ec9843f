-- What waits for a job: the first command of a row.
use Rattle.std.proofs.Common.{Option, ◌≡◌, ℕ, ◌<◌, List, ◌∷◌, length, ap, arith}
use Rattle.page_disk.specs.declared.disk.PageDisk.{Ghosts}
use Rattle.volume_model.specs.declared.command.Command.{Command}
use Rattle.volume_model.specs.declared.reply.Reply.TheVariants as r
use Rattle.store_model.specs.Filling.{FillStands}
use Rattle.store_model.specs.Rows.{Answered, Decided}
use Rattle.running_store.specs.GivingBack.{HasCommand, IsGivenUp}
use Rattle.running_store.specs.StoreView.{StoreView, rows_of, state_of}
use Rattle.running_store.proofs.Rowing.{channel_low, low_left}
use Rattle.metadata_turns.specs.JobTurns.{stopped_at}

-- what waits for a job that failed is logged
abbrev pub entered : {D : Type 0} → Ghosts D → StoreView D → Option ℕ → ℕ → D → StoreView D → Type 0
entered d p freeze row disk q =
    IsGivenUp (stopped_at (record p { disk = disk }) freeze) q row (Decided Answered) r.Fault (d.clock q.disk)

-- a row has a first command
pub record HasFirst {D : Type 0} (p : StoreView D) (channel : ℕ) : Type 0 where
  pub command : Command
  pub rest : List Command
  pub left : (rows_of p.rows channel).left ≡ command ∷ rest

pub first_low : {D : Type 0} (p : StoreView D) (channel : ℕ) → HasFirst p channel → channel < length p.rows
first_low p channel x = low_left p.rows channel x.command x.rest x.left

pub first_some : {D : Type 0} (p : StoreView D) (channel : ℕ) → HasFirst p channel
    → 0 < length (rows_of p.rows channel).left
first_some p channel x = let long = ap (λ (l : List Command). length l) x.left in omega (arith, long)

-- so it is a channel's, and has a command
pub has_command : {D : Type 0} (d : Ghosts D) (p : StoreView D) (channel : ℕ) → length p.rows ≡ 17
    → FillStands (state_of d p) → HasFirst p channel → HasCommand p.rows channel
has_command d p channel seventeen fill x =
    (channel_low p.rows channel x.command x.rest seventeen fill.left x.left, first_some p channel x)
