-- What each turn keeps is kept over a run.
use Rattle.std.proofs.Common.{Bool, List, [], ◌∷◌, sym, subst}
use Rattle.store_model.specs.Cases.{Kind, Run, Turn}
use Rattle.store_model.specs.StoreState.{StoreState}

-- what holds of a state, and is kept by each turn, holds of the state that turns lead to
pub over_run : (told : Bool) (P : StoreState → Type 0)
    → ((k : Kind) (p q : StoreState) → Turn told p k q → P p → P q) → (kinds : List Kind) (p q : StoreState)
    → Run told p kinds q → P p → P q
over_run told P keeps [] p q is holds = subst P (sym is) holds
over_run told P keeps (k ∷ kinds) p q run holds =
    over_run told P keeps kinds run.0 q run.2 (keeps k p run.0 run.1 holds)
