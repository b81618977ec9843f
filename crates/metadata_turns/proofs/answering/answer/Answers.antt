use Rattle.std.proofs.Common.{◌∙◌, ap, inl, inr}
use Rattle.running_store.specs.StoreView.{rows_of}
use Rattle.metadata_turns.proofs.Told.{no_question}
use Rattle.metadata_turns.proofs.answering.answer.Goals as goal

pub answer_on_attributes-requires-clause-asked : goal.answer_on_attributes-requires-clause-asked
answer_on_attributes-requires-clause-asked g c command rest left =
    elim (c.requires.answerable command rest left) [
      | inl on ↦ on
      | inr question ↦
          let seen = ap (λ l. (rows_of l c.args.channel).left) c.deref.ensures.value ∙ left in
          let is = c.first_of.ensures command rest seen in
          absurd (no_question command question (λ volume e. c.in_default.not-Info volume (is ∙ e))
          (λ e. c.in_default.not-List (is ∙ e)) (λ e. c.in_default.not-Df (is ∙ e)))
    ]
