use Rattle.std.proofs.Common.{◌-◌, ◌&&◌, length, sym, ap, ◌∙◌}
use Rattle.std.specs.Prelude.{nat_lt}
use Rattle.volume_model.specs.Refusals.{is_too_large, refusal}
use Rattle.blob_meta.specs.Asked.{first_cause}
use Rattle.blob_meta.specs.Parents.{is_read_only}
use Rattle.blob_meta.specs.SlotCounts.{has_longer_parent}
use Rattle.blob_meta.proofs.Refused.{resize_causes, resize_refused}
use Rattle.blob_meta.proofs.slot_refusal.refusal_of_resize.Goals as goal

pub returns-clause-first : goal.returns-clause-first
returns-clause-first c = λ f v s.
    let metas = c.args.metas.now in
    let m = c.in-Some-get.meta.now in
    let slots = c.in-Resize.slots in
    ap (refusal f v) c.in-Resize.is
    ∙ resize_refused metas c.args.sup.now c.in-Resize.volume slots c.in-Some.head m c.all_slots.result
    c.is_too_large-too_large.result c.refusal_at.result c.in-Some.ensures.meant (sym c.in-Some-get.ensures)
    c.all_slots.ensures
    (λ g w. c.is_too_large-too_large.ensures.large g w
    ∙ ap (λ n. is_too_large g w slots n) (c.saturating_sub-others.ensures
    ∙ ap (λ n. c.all_slots.result - n) (c.from.ensures ∙ c.len.ensures)))
    (λ fit. c.refusal_at.ensures.first fit
    ∙ ap (λ b. first_cause (resize_causes b (is_read_only m.flags)
    (nat_lt (length m.map) slots && has_longer_parent metas m) c.is_too_large-too_large.result)) c.is_super.ensures)
    f v s
