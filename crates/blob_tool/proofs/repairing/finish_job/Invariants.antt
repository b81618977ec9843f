use Rattle.blob_tool.proofs.Mending.{IsFinishing}
use Rattle.repair_runs.specs.RepairRuns.{store_turns_left}
use Rattle.running_store.specs.StoreView.{state_of}
use Rattle.blob_tool.proofs.repairing.finish_job.Given as goal

-- the job has made some of its turns
abbrev pub invariant-loop-plant : goal.invariant-loop-plant
invariant-loop-plant g l = IsFinishing g.D.PageDisk l.fn.plant l.plant l.right

-- how many are left
abbrev pub decreases-loop-plant : goal.decreases-loop-plant
decreases-loop-plant g l = store_turns_left (state_of g.D.PageDisk l.plant.at)
