use Rattle.std.proofs.Common.{refl}
use Rattle.gathered_file.proofs.Steps.{no_step, call_step}
use Rattle.gathered_file.proofs.gathering.GatheringFile.send.Goals as goal

pub returns-then-bytes-eq0-clause-step : goal.returns-then-bytes-eq0-clause-step
returns-then-bytes-eq0-clause-step g c = rw (← c.self.view_is) (no_step g.C.PageCalls _ c.self.invariant.covered)

pub returns-then-has_moved-clause-step : goal.returns-then-has_moved-clause-step
returns-then-has_moved-clause-step g c =
    let going = rw (← c.self.view_is) at c.requires in
    let calls = rw c.deref.ensures.value at c.write_at-answer.ensures.calls in
    rw (← c.self.view_is)
    (call_step g.C.PageCalls _ _ refl c.write_at-answer.ensures.opened c.write_at-answer.ensures.pages _ calls
    c.self.invariant.covered (c.self.invariant.gathered going).leaves)

pub returns-clause-step : goal.returns-clause-step
returns-clause-step g c =
    let going = rw (← c.self.view_is) at c.requires in
    let calls = rw c.deref.ensures.value at c.write_at-answer.ensures.calls in
    rw (← c.self.view_is)
    (call_step g.C.PageCalls _ _ refl c.write_at-answer.ensures.opened c.write_at-answer.ensures.pages _ calls
    c.self.invariant.covered (c.self.invariant.gathered going).leaves)
