-- What stands first in a text.
use Rattle.std.proofs.Common.{◌≡◌, ◌≤◌, ℕ, List, ◌++◌, length, take, sym, ap, ◌∙◌, arith}
use Rattle.std.proofs.lemmas.List.{take-take}
use Rattle.std.proofs.lemmas.Grind.{common_steps}

-- what begins with a text that begins with another, begins with that
pub still_first : (first more second whole : List ℕ) → second ≡ first ++ more → take (length second) whole ≡ second
    → take (length first) whole ≡ first
still_first first more second whole e kept =
    let le : length first ≤ length second = grind (arith, common_steps, e) in
    let short : take (length first) second ≡ first = grind (arith, common_steps, e) in
    sym (take-take (length first) (length second) whole le) ∙ ap (λ xs. take (length first) xs) kept ∙ short
