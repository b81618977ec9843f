use Rattle.std.proofs.Common.{IfOk, Err, None, Ok, Result, Some, false, inr, sym, ◌∙◌}
use Rattle.inflate_delete.proofs.FillRefused.{fill_refused}
use Rattle.inflate_delete.proofs.filling.Fill.last_job.Goals as goal

-- what holds anyway
always_ok : {T E P : Type 0} (r : Result T E) → P → IfOk r (λ x. P)
always_ok (Ok x) p = p
always_ok (Err e) p = tt

pub returns-in-Some-refusal_of_fill-clause-refused : goal.returns-in-Some-refusal_of_fill-clause-refused
returns-in-Some-refusal_of_fill-clause-refused c = λ sup unreserved. inr (
  c.in-Some-refusal_of_fill.ensures.caused,
  fill_refused c.args.metas.now sup c.args.self.now.volume c.in-Some.old.now c.args.self.now.kind false
      (Some c.in-Some-refusal_of_fill.reply) (sym c.in-Some.ensures) (sym unreserved)
      (λ fit. sym c.in-Some-refusal_of_fill.is ∙ c.refusal_of_fill.ensures.first fit),
)

pub returns-clause-unrefused : goal.returns-clause-unrefused
returns-clause-unrefused c = always_ok c.map_err.result (λ sup unreserved.
    fill_refused c.args.metas.now sup c.args.self.now.volume c.in-Some.old.now c.args.self.now.kind false None
    (sym c.in-Some.ensures) (sym unreserved)
    (λ fit. sym c.in_default-refusal_of_fill.is ∙ c.refusal_of_fill.ensures.first fit))
