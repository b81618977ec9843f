use Rattle.std.proofs.Common.{◌≡◌, Bool, false, ◌||◌, ap, ◌∙◌}
use Rattle.std.proofs.Math.Bool.{or-false}
use Rattle.std.proofs.lemmas.Result.{IfOk-weaker}
use Rattle.command_words.proofs.command_line.with_script.Goals as goal

-- an argument that is not global leaves the mark of global ones
stays : (old new global : Bool) → new ≡ (old || global) → global ≡ false → new ≡ old
stays old new global is local = is ∙ ap (λ b. old || b) local ∙ or-false old

pub returns-clause-local : goal.returns-clause-local
returns-clause-local c =
    IfOk-weaker c.arg-2.result _ _
    (λ r added. stays _ _ _ added.globals c.placed-2.ensures.local
    ∙ stays _ _ _ c.in_ok-arg.ensures.globals c.placed.ensures.local)
    c.arg-2.ensures
