use Rattle.blob_tool.proofs.Mending.{IsRepairing}
use Rattle.repair_runs.specs.RepairRuns.{marks_left}
use Rattle.running_store.specs.StoreView.{state_of}
use Rattle.blob_tool.proofs.repairing.repair.Given as goal

-- some repairs are made
abbrev pub invariant-loop-end : goal.invariant-loop-end
invariant-loop-end g l = IsRepairing g.D.PageDisk l.fn.plant l.plant l.right

-- how many blobs have a mark
abbrev pub decreases-loop-end : goal.decreases-loop-end
decreases-loop-end g l = marks_left (state_of g.D.PageDisk l.plant.at)
