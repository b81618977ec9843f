use Rattle.std.proofs.Common.{◌≡◌, ◌+◌, Some, sym, ap, ◌∙◌, arith}
use Rattle.std.specs.Option.{option_map}
use Rattle.script_lang.specs.Generated.{generated_requests}
use Rattle.script_lang.specs.Script.{script_of}
use Rattle.script_lang.proofs.GeneratedScripts.{one_request_more, lines_said, text_read}
use Rattle.script_lang.proofs.generator.generate.Goals as goal

pub loop-preserved : goal.loop-preserved
loop-preserved c =
    let i = c.loop.invariant in
    let e = c.in_ok-push_command.ensures in (
      one_request_more _ _ _ _ _ _ i.0 i.2 i.3 e.script,
      e.one_more ∙ ap (λ n. n + 1) i.1,
      e.number ∙ i.2,
      e.next ∙ ap (λ n. n + 1) i.3,
    )

pub returns-clause-lines : goal.returns-clause-lines
returns-clause-lines c =
    let n : c.loop.counter ≡ c.args.size + 4 = omega arith in
    ap (option_map script_of) (lines_said c.args.number (c.args.size + 4) (omega arith))
    ∙ ap (λ k. Some (script_of (generated_requests c.args.number k))) (sym n) ∙ ap Some (sym c.loop.invariant.0)

pub returns-clause-read : goal.returns-clause-read
returns-clause-read c short =
    let n : c.loop.counter ≡ c.args.size + 4 = omega arith in
    text_read c.args.number (c.args.size + 4) (omega arith) short
    ∙ ap (λ k. Some (script_of (generated_requests c.args.number k))) (sym n) ∙ ap Some (sym c.loop.invariant.0)
