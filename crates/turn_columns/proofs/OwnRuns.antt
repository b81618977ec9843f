-- In each state of a run a claim is held for the channel's own write, but on the fill's row.
use Rattle.std.proofs.Common.{Bool, List, sym, ◌∙◌}
use Rattle.store_model.specs.Cases.{Kind, Run}
use Rattle.store_model.specs.StoreState.{Opens, StoreState}
use Rattle.turn_columns.proofs.OverRuns.{over_run}
use Rattle.turn_columns.proofs.OwnWrites.{AreOwn, own_after}

-- as a run opens no claim is held
opened : (p : StoreState) → Opens p → AreOwn p
opened p opens = record {
  claims = λ row ne claim is. absurd (let bad = sym (opens.unclaimed row) ∙ is in cc bad);
  inserts = λ j row is serves. absurd (let bad = sym opens.job ∙ is in cc bad);
}

-- of a run that opened: rows with a claim have their write, and so has one that waits for its insert
pub own_in_run : (told : Bool) (kinds : List Kind) (p q : StoreState) → Opens p → Run told p kinds q → AreOwn q
own_in_run told kinds p q opens run =
    over_run told AreOwn (λ k a b turn own. own_after told a b k own turn) kinds p q run (opened p opens)
