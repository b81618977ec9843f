-- The laws of runs of repairs.
use Rattle.std.specs.Prelude.{◌≡◌, ◌⊎◌, ℕ, ◌<◌, Bool, List, [], length, Some, None}
use Rattle.super_block.specs.declared.page.Super.{Super}
use Rattle.volume_model.specs.Volumes.{Volumes}
use Rattle.volume_model.specs.declared.command.Command.{Command}
use Rattle.blob_meta.specs.Repairs.{repairs}
use Rattle.store_model.specs.Cases.{BeginsRepair, Kind, the, Turn}
use Rattle.store_model.specs.Repairing.{IsRepaired}
use Rattle.store_model.specs.RunInvariant.{RunInvariant}
use Rattle.store_model.specs.StoreState.{StoreState}
use Rattle.repair_runs.specs.RepairRuns.{IsMending, IsOfInsert, IsOfRepair, marks_left, RepairRun, store_turns_left}

-- A repair has begun: it is to mend one of the blobs with a mark, nothing is logged, and the rows are as they were.
pub record HasBegunToMend (p q : StoreState) : Type 0 where
  pub mending : IsMending (marks_left p) q
  pub log : q.log ≡ p.log
  pub rows : q.rows ≡ p.rows
  pub runs : q.stopped ≡ None

-- A turn of a repair's job is made: fewer are left, nothing is logged, and the rows are as they were. The repair goes
-- on or is done, or the store has stopped here, with no job any more.
pub record GoesOnMending (marks : ℕ) (p : StoreState) (kind : Kind) (q : StoreState) : Type 0 where
  pub of_repair : IsOfRepair kind
  pub log : q.log ≡ p.log
  pub rows : q.rows ≡ p.rows
  pub fewer : store_turns_left q < store_turns_left p
  pub after : ((q.stopped ≡ None) × IsMending marks q) ⊎ ((q.stopped ≡ Some (length p.log)) × (q.job ≡ None))

pub record RepairLaws : Type 0 where
  -- a run of repairs has no turn, or one turn of a repair more
  pub none : (told : Bool) (p : StoreState) → RepairRun told p p
  pub go_on : (told : Bool) (p q r : StoreState) (kind : Kind) → RepairRun told p q → IsOfRepair kind
      → Turn told q kind r → RepairRun told p r
  -- a repair begins
  pub begun : (p q : StoreState) → BeginsRepair p q → HasBegunToMend p q
  -- whatever turn its job makes, it is one of a repair, and no insert's
  pub turn : (told : Bool) (s : Super) (first : Volumes) (script : ℕ → List Command) (marks : ℕ) (p q : StoreState)
      (kind : Kind) → RunInvariant s first script p → p.stopped ≡ None → IsMending marks p
      → (the kind).OfJob ⊎ IsOfInsert kind → Turn told p kind q → GoesOnMending marks p kind q
  -- once it is done fewer blobs have a mark
  pub done : (marks : ℕ) (p : StoreState) → IsMending marks p → p.job ≡ None → marks_left p < marks
  -- where no repair is due nothing is left to repair
  pub clean : (s : Super) (first : Volumes) (script : ℕ → List Command) (p : StoreState)
      → RunInvariant s first script p → repairs p.super.md_len p.base ≡ [] → IsRepaired p
