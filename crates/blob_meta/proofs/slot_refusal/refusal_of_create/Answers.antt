use Rattle.std.proofs.Common.{refl, ap, ◌∙◌}
use Rattle.volume_model.specs.Refusals.{refusal}
use Rattle.blob_meta.proofs.Refused.{create_refused}
use Rattle.blob_meta.proofs.slot_refusal.refusal_of_create.Goals as goal

pub returns-then-is_too_large-clause-first : goal.returns-then-is_too_large-clause-first
returns-then-is_too_large-clause-first c = λ f v s.
    ap (refusal f v) c.in-Create.is
    ∙ create_refused c.args.metas.now c.args.sup.now c.in-Create.name c.in-Create.slots c.in-Create.thick
    c.in-Create.uuid c.all_slots.result c.is_taken.result c.is_too_large.result c.is_taken.ensures
    c.all_slots.ensures c.is_too_large.ensures.large f v s
    ∙ rw (c.if-is_taken.false, c.if-is_too_large.true) refl

pub returns-else-is_too_large-clause-first : goal.returns-else-is_too_large-clause-first
returns-else-is_too_large-clause-first c = λ f v s.
    ap (refusal f v) c.in-Create.is
    ∙ create_refused c.args.metas.now c.args.sup.now c.in-Create.name c.in-Create.slots c.in-Create.thick
    c.in-Create.uuid c.all_slots.result c.is_taken.result c.is_too_large.result c.is_taken.ensures
    c.all_slots.ensures c.is_too_large.ensures.large f v s
    ∙ rw (c.if-is_taken.false, c.if-is_too_large.false) refl
