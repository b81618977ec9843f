use Rattle.std.proofs.Common.{◌≤◌, ◌+◌, ◌^◌, length, arith}
use Rattle.std.proofs.lemmas.Grind.{common_steps}
use Rattle.streams.proofs.Taken.{takes_more}
use Rattle.streams.proofs.reading.read_text.Goals as goal

pub returns-then-count-eq0-clause-taken : goal.returns-then-count-eq0-clause-taken
returns-then-count-eq0-clause-taken g c =
    let few : length c.loop-buffer.text.items + c.in_ok-count.count ≤ 2 ^ 20 + 1 = grind (arith, common_steps) in
    takes_more _ _ c.loop-buffer.text.items _ _ _ _ _ c.in_ok-count.count c.loop-buffer.invariant few
    c.in_ok-count.ensures.moved

pub returns-in_err-extend_from_slice-clause-taken : goal.returns-in_err-extend_from_slice-clause-taken
returns-in_err-extend_from_slice-clause-taken g c =
    let few : length c.loop-buffer.text.items + c.in_ok-count.count ≤ 2 ^ 20 + 1 = grind (arith, common_steps) in
    takes_more _ _ c.loop-buffer.text.items _ _ _ _ _ c.in_ok-count.count c.loop-buffer.invariant few
    c.in_ok-count.ensures.moved
