use Rattle.std.proofs.Common.{◌≡◌, ◌+◌, ◌∷◌, ◌++◌, [], refl, sym, ap, ◌∙◌, arith}
use Rattle.std.specs.List.{range_with_len}
use Rattle.std.proofs.lemmas.List.{map-id}
use Rattle.std.proofs.lemmas.List.FromFn.{map-range_with_len_more}
use Rattle.lvol_store.proofs.slots.slots_from.Goals as goal

pub loop-at-preserved : goal.loop-at-preserved
loop-at-preserved c =
    let first = c.args.first in
    let at = c.loop-at.at in
    c.in_ok-push.ensures.ok ∙ ap (λ slots. slots ++ (first + at) ∷ []) c.loop-at.invariant
    ∙ sym (map-range_with_len_more (λ slot. slot) first at (first + at) refl)

pub returns : goal.returns
returns c =
    let first = c.args.first in
    let end : c.loop-at.at ≡ c.args.count = omega arith in
    c.loop-at.invariant ∙ map-id (range_with_len first c.loop-at.at) ∙ ap (λ count. range_with_len first count) end
