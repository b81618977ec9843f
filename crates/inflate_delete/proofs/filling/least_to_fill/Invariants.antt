use Rattle.std.proofs.Common.{◌≡◌, ℕ, ◌<◌, false}
use Rattle.std.specs.Prelude.{option_copied}
use Rattle.inflate_delete.specs.Fills.{is_to_fill_over}
use Rattle.inflate_delete.proofs.filling.least_to_fill.Given as goal

abbrev pub invariant-loop-at : goal.invariant-loop-at
invariant-loop-at l = (k : ℕ) → k < l.at → is_to_fill_over l.kind l.meta (option_copied l.parent) k ≡ false
