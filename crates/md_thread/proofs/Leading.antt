-- Turns one after another.
use Rattle.std.proofs.Common.{Bool, List, [], ◌∷◌, ◌++◌, refl, subst}
use Rattle.store_model.specs.Cases.{Kind, Run}
use Rattle.store_model.specs.StoreState.{StoreState}
use Rattle.md_thread.specs.Leading.{Leads, stays, turns, TurnsOnceOrStays}

module _ (told : Bool) where
  run_on : (p q r : StoreState) (first then : List Kind) → Run told p first q → Run told q then r
      → Run told p (first ++ then) r
  run_on p q r [] then is run = subst (λ (s : StoreState). Run told s then r) is run
  run_on p q r (kind ∷ first) then run more = (run.0, run.1, run_on run.0 q r first then run.2 more)

  -- turns lead on from where others led to
  pub leads_on : (p q r : StoreState) → Leads told p q → Leads told q r → Leads told p r
  leads_on p q r one two =
      record { kinds = one.kinds ++ two.kinds; run = run_on p q r one.kinds two.kinds one.run two.run }

  -- no turn leads elsewhere
  pub leads_nowhere : (p : StoreState) → Leads told p p
  leads_nowhere p = record { kinds = []; run = refl }

  -- one turn leads to where it leads, and none to where it began
  pub leads_once : (p q : StoreState) → TurnsOnceOrStays told p q → Leads told p q
  leads_once p q (turns kind turn) = record { kinds = kind ∷ []; run = (q, turn, refl) }
  leads_once p q (stays is) = record { kinds = []; run = is }
