use Rattle.std.proofs.Common.{◌≤◌, ◌<◌, ◌+◌, ◌∙◌, ap, arith}
use Rattle.blob_tool.proofs.GeneratedLines.{line_is, part_before, part_of_line, with_line}
use Rattle.blob_tool.proofs.generating.print_script.Goals as goal

pub returns-in_err-push_line-clause-part : goal.returns-in_err-push_line-clause-part
returns-in_err-push_line-clause-part g c = λ t.
    let le : c.loop.counter ≤ c.args.script.size + 4 = omega arith in
    part_before c.args.script.number c.loop.counter (c.args.script.size + 4) le (g.K.Sink.written c.args.out.now)
    (g.K.Sink.written c.loop.out) (c.loop.invariant.0 t)

pub returns-in_err-offer-clause-part : goal.returns-in_err-offer-clause-part
returns-in_err-offer-clause-part g c = λ t.
    let lt : c.loop.counter < c.args.script.size + 4 = omega arith in
    let i = c.loop.invariant in
    let e = line_is c.args.script.number c.loop.counter c.loop.generator.number c.loop.generator.line
    c.new-line.result.items c.push_line.new.into.items c.as_slice.result.now c.new-line.ensures.items
    c.in_ok-push_line.ensures.line c.as_slice.ensures.value i.2 i.3 in
    part_of_line c.args.script.number c.loop.counter (c.args.script.size + 4) lt (g.K.Sink.written c.args.out.now)
    (g.K.Sink.written c.loop.out) (g.K.Sink.written c.offer.new.sink) c.as_slice.result.now e (i.0 t)
    (c.offer.ensures.part t)

pub loop-preserved : goal.loop-preserved
loop-preserved g c =
    let i = c.loop.invariant in
    let e = line_is c.args.script.number c.loop.counter c.loop.generator.number c.loop.generator.line
    c.new-line.result.items c.push_line.new.into.items c.as_slice.result.now c.new-line.ensures.items
    c.in_ok-push_line.ensures.line c.as_slice.ensures.value i.2 i.3 in (
      λ t. with_line c.args.script.number c.loop.counter (g.K.Sink.written c.args.out.now)
          (g.K.Sink.written c.loop.out) (g.K.Sink.written c.offer.new.sink) c.as_slice.result.now e (i.0 t)
          (c.in_ok-offer.ensures.whole t),
      omega (arith, i.1, c.offer.ensures.faults.later),
      c.in_ok-push_line.ensures.number ∙ i.2,
      c.in_ok-push_line.ensures.next ∙ ap (λ n. n + 1) i.3,
    )
