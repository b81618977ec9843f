use Rattle.std.proofs.Common.{◌≡◌, ◌<◌, length, get_or, sym, ap, ◌∙◌, Some, None, rules}
use Rattle.script_lang.specs.declared.form.Form.TheVariants.{Volume}
use Rattle.script_lang.specs.Forms.{says_word, fault_after}
use Rattle.script_lang.proofs.ReadValues.{none_left, one_value, one_fault, as_now}
use Rattle.script_lang.proofs.values.read_values.Goals as goal
use Rattle.script_lang.proofs.values.read_values.Goals.{in-Some+in_ok-value+in-Some-2+in_ok-push-in-Some-2}
use Rattle.script_lang.proofs.values.read_values.Goals.{in-Some+in_ok-value+in-None, in_default}

pub loop-form-preserved : goal.loop-form-preserved
loop-form-preserved c =
    let lt : c.loop-form.form-index < length c.args.forms.now = search rules in
    elim c.match-next_part.branch [
      | in-Some+in_ok-value+in-Some-2+in_ok-push-in-Some-2 w ↦
          let said : says_word (get_or c.args.forms.now c.loop-form.form-index Volume)
          w.in-Some.word.now ≡ Some w.in-Some-2.value = sym w.in_ok-value.ensures ∙ w.in-Some-2.is in
          as_now _ _ _ _ _ _ _ _
          (one_value _ _ _ _ _ _ c.loop-form.invariant Volume lt w.in-Some.word.now _ w.in-Some.ensures.some
          w.in-Some-2.value said)
          (w.values-is ∙ w.in_ok-push-in-Some-2.ensures.ok)
          w.fault-is
      | in-Some+in_ok-value+in-None w ↦
          let said : says_word (get_or c.args.forms.now c.loop-form.form-index Volume)
          w.in-Some.word.now ≡ None = sym w.in_ok-value.ensures ∙ w.in-None.is in
          as_now _ _ _ _ _ _ _ _
          (one_fault _ _ _ _ _ _ c.loop-form.invariant Volume lt w.in-Some.word.now _ w.in-Some.ensures.some said)
          w.values-is
          (w.fault-is ∙ ap Some (w.with_fault.ensures ∙ ap (fault_after c.loop-form.fault) w.kind.ensures))
      | in_default w ↦
          as_now _ _ _ _ _ _ _ _
          (none_left _ _ _ _ _ _ c.loop-form.invariant Volume lt _ w.in_default.ensures.none
          w.in_default.ensures.ended) w.values-is w.fault-is
    ]
