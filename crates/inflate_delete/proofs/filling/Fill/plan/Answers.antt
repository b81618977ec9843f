use Rattle.std.proofs.Common.{Some, sym, ◌∙◌}
use Rattle.inflate_delete.proofs.FillRefused.{fill_refused}
use Rattle.inflate_delete.proofs.filling.Fill.plan.Goals as goal

pub returns-in-Some-refusal_of_fill-clause-refused : goal.returns-in-Some-refusal_of_fill-clause-refused
returns-in-Some-refusal_of_fill-clause-refused c =
    fill_refused c.args.metas.now c.args.sup.now c.args.volume c.in-Some.meta.now c.args.kind c.is_super.result
    (Some c.in-Some-refusal_of_fill.reply) (sym c.in-Some.ensures) c.is_super.ensures
    (λ fit. sym c.in-Some-refusal_of_fill.is ∙ c.refusal_of_fill.ensures.first fit)
