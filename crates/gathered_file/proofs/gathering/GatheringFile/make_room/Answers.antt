use Rattle.gathered_file.proofs.Steps.{no_step}
use Rattle.gathered_file.proofs.gathering.GatheringFile.make_room.Goals as goal

pub returns-then-is_behind-clause-step : goal.returns-then-is_behind-clause-step
returns-then-is_behind-clause-step g c = rw (← c.self.view_is) (no_step g.C.PageCalls _ c.self.invariant.covered)
