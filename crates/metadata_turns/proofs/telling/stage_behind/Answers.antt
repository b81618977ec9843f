use Rattle.std.proofs.Common.{◌≡◌, ◌<◌, ℕ, [], ◌∷◌, List, length, refl, arith}
use Rattle.store_model.specs.Claiming.{stage_behind}
use Rattle.store_model.specs.Phases.{erasing}
use Rattle.store_model.specs.Rows.{InJob}
use Rattle.metadata_turns.proofs.telling.stage_behind.Goals as goal

-- a page is left
behind_some : (old : List ℕ) → 0 < length old → InJob ≡ stage_behind (erasing old old [])
behind_some [] some = absurd (omega (arith, some))
behind_some (o ∷ []) some = refl
behind_some (o ∷ p ∷ ps) some = refl

pub returns-else-len-eq0 : goal.returns-else-len-eq0
returns-else-len-eq0 c =
    let len = c.len.ensures in let some = c.if-len-eq0.false in behind_some c.args.old.now (omega (arith, len, some))
