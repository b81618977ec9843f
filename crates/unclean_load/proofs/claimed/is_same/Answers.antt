use Rattle.std.proofs.Common.{false, arith}
use Rattle.std.proofs.lemmas.List.{ext_get_or}
use Rattle.unclean_load.proofs.claimed.is_same.Goals as goal

pub returns-clause-same : goal.returns-clause-same
returns-clause-same c = λ _.
    let end = c.loop-at-test.false in
    let all = c.len-at-end.ensures in
    ext_get_or false c.args.a.now c.args.b.now c.requires (λ i lt. c.loop-at.invariant i (omega (arith, lt, end, all)))
