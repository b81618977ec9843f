use Rattle.std.proofs.Common.{◌≡◌, ◌++◌, ℕ, List, arith, subst, ap, ◌∙◌}
use Rattle.std.proofs.lemmas.Grind.{common_steps}
use Rattle.blob_report.specs.Text.{entry_text}
use Rattle.streams.specs.Printing.{IsPartOf}
use Rattle.streams.proofs.Lines.{part_before, part_of_log, log_with_more}
use Rattle.streams.proofs.printing.print.Goals as goal

pub returns-in_err-render_entry-clause-part : goal.returns-in_err-render_entry-clause-part
returns-in_err-render_entry-clause-part g c =
    λ t. part_before _ _ c.args.entries.now c.loop-entry.entry-index (c.loop-entry.invariant.0 t)

pub returns-in_err-offer-clause-part : goal.returns-in_err-offer-clause-part
returns-in_err-offer-clause-part g c = λ t.
    let e : c.as_slice.result.now ≡ entry_text c.entry-item.result = grind (arith, common_steps) in
    part_of_log _ (g.K.Sink.written c.loop-entry.sink) _ c.args.entries.now c.loop-entry.entry-index c.entry-item.result
    (omega arith) c.entry-item.is (c.loop-entry.invariant.0 t)
    (subst (λ (text : List ℕ). IsPartOf (g.K.Sink.written c.loop-entry.sink) (g.K.Sink.written c.offer.new.sink) text) e
    (c.offer.ensures.part t))

pub loop-entry-preserved : goal.loop-entry-preserved
loop-entry-preserved g c =
    let e : c.as_slice.result.now ≡ entry_text c.entry-item.result = grind (arith, common_steps) in (
      λ t. log_with_more _ _ _ c.args.entries.now c.loop-entry.entry-index c.entry-item.result
          (omega arith) c.entry-item.is (c.loop-entry.invariant.0 t)
          (c.in_ok-offer.ensures.whole t ∙ ap (λ (text : List ℕ). g.K.Sink.written c.loop-entry.sink ++ text) e),
      omega (arith, c.loop-entry.invariant.1, c.offer.ensures.faults.later),
    )
