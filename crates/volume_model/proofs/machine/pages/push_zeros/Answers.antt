use Rattle.std.proofs.Common.{◌≡◌, ◌+◌, ◌++◌, ◌∷◌, [], replicate, append_assoc, ap, ◌∙◌}
use Rattle.std.proofs.lemmas.List.{replicate-append-replicate}
use Rattle.volume_model.specs.Volumes.{zero_page}
use Rattle.volume_model.proofs.machine.pages.push_zeros.Goals as goal

pub loop-done-preserved : goal.loop-done-preserved
unfolding zero_page
loop-done-preserved c =
    let more : replicate c.loop-done.done zero_page ++ zero_page ∷ [] ≡ replicate (c.loop-done.done + 1) zero_page =
    replicate-append-replicate c.loop-done.done 1 zero_page in
    c.in_ok-push.ensures.items ∙ ap (λ ps. ps ++ zero_page ∷ []) c.loop-done.invariant
    ∙ append_assoc c.args.pages.now.items (replicate c.loop-done.done zero_page) (zero_page ∷ [])
    ∙ ap (λ ps. c.args.pages.now.items ++ ps) more
