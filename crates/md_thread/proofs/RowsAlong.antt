-- In each state of a run, what is posted without a claim is a command for the metadata thread.
use Rattle.std.proofs.Common.{inl, inr, ℕ, Bool, List, [], sym, subst, refl}
use Rattle.store_model.specs.Cases.{Kind, Run, Turn}
use Rattle.store_model.specs.Filling.{FillStands}
use Rattle.store_model.specs.StoreState.{Opens, StoreState}
use Rattle.store_model.proofs.FillRuns.{fill_stands, turn_stands}
use Rattle.turn_columns.proofs.OverRuns.{over_run}
use Rattle.turn_columns.proofs.RowSteps.{IsAsked, IsAskedAt, row_steps}

-- with what is known of the fill's row, which a turn needs to keep it
record AreAsked (p : StoreState) : Type 0 where
  stands : FillStands p
  rows : (k : ℕ) → IsAsked (p.rows k)

keeps : (told : Bool) (x : Kind) (p q : StoreState) → Turn told p x q → AreAsked p → AreAsked q
keeps told x p q turn are = record {
  stands = turn_stands told x p q turn are.stands;
  rows = λ k. (row_steps told p q are.stands x turn k).asked (are.rows k);
}

at_first : (told : Bool) (p : StoreState) → Opens p → AreAsked p
at_first told p opens = record {
  stands = fill_stands told p p [] opens refl;
  rows = λ k. elim (opens.waits k) [
    | inl waits ↦ subst (IsAskedAt (p.rows k).left (p.rows k).claim) (sym waits) tt
    | inr over ↦ subst IsAsked (sym over) tt
  ];
}

-- what is posted without a claim is a command for the metadata thread, in each state that turns lead to
pub asked_along : (told : Bool) (p : StoreState) (kinds : List Kind) (q : StoreState) → Opens p → Run told p kinds q
    → (k : ℕ) → IsAsked (q.rows k)
asked_along told p kinds q opens run =
    let are : AreAsked q = over_run told AreAsked (keeps told) kinds p q run (at_first told p opens) in are.rows
