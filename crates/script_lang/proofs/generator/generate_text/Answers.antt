use Rattle.std.proofs.Common.{◌≡◌, ◌+◌, length, ap, ◌∙◌, arith}
use Rattle.script_lang.specs.Generated.{generated_lines}
use Rattle.script_lang.specs.Script.{lines, requests_in}
use Rattle.script_lang.proofs.GeneratedScripts.{one_text_more, lines_said, text_short}
use Rattle.script_lang.proofs.generator.generate_text.Goals as goal

pub loop-preserved : goal.loop-preserved
loop-preserved c =
    let i = c.loop.invariant in (
      one_text_more _ _ _ _ _ _ i.0 i.1 i.2 c.in_ok-push_line.ensures.line,
      c.in_ok-push_line.ensures.number ∙ i.1,
      c.in_ok-push_line.ensures.next ∙ ap (λ n. n + 1) i.2,
    )

pub returns-clause-grammar : goal.returns-clause-grammar
returns-clause-grammar c =
    let n : c.loop.counter ≡ c.args.size + 4 = omega arith in
    ap (λ text. requests_in (lines text)) c.loop.invariant.0
    ∙ ap (λ k. requests_in (lines (generated_lines c.args.number k))) n
    ∙ lines_said c.args.number (c.args.size + 4) (omega arith)

pub returns-clause-short : goal.returns-clause-short
returns-clause-short c = omega (arith, ap length c.loop.invariant.0, text_short c.args.number c.loop.counter)
