use Rattle.run_work.specs.Work.{work}
use Rattle.run_moves.specs.DrivenStore.{run_of}
use Rattle.run_moves.specs.Sizes.{sizes_of}
use Rattle.channels.specs.Actors.{actors_in_run}
use Rattle.channels.specs.Driving.{driven}
use Rattle.channels.proofs.Looping.{Rounded}
use Rattle.channels.proofs.driver.Driver.run.Given as goal

-- the schedule's steps, and rounds so far
abbrev pub invariant-loop-alloc : goal.invariant-loop-alloc
invariant-loop-alloc g l = Rounded g.D.PageDisk l.fn.self (actors_in_run l.fn.schedule) l.self

abbrev pub decreases-loop-alloc : goal.decreases-loop-alloc
decreases-loop-alloc g l = work (sizes_of l.fn.self.plant.opening.super) (run_of (driven g.D.PageDisk l.self))
