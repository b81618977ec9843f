-- What every turn leaves of each row: one that has ended stays, what is posted still is as it was, and what is posted
-- without a claim is a command for the metadata thread.
use Rattle.std.proofs.Common.{◌≡◌, ℕ, zero, suc, Bool, List, [], ◌∷◌, Option, Some, None, refl, sym, ◌∙◌, ap, subst}
use Rattle.volume_model.specs.declared.command.Command.{Command}
use Rattle.store_model.specs.Cases.{Kind, Turn}
use Rattle.store_model.specs.Cases.Copy.{stage_left}
use Rattle.store_model.specs.Claiming.{stage_behind}
use Rattle.store_model.specs.Filling.{FillStands, StandsAt}
use Rattle.store_model.specs.Phases.{Phase}
use Rattle.store_model.specs.Rows.{Claiming, Copying, Decided, Ended, fill_row, Idle, InJob, IsForMetadata, OpenClaim}
use Rattle.store_model.specs.Rows.{Posted, Ready, Row, Stage}
use Rattle.store_model.specs.StoreState.{StoreState}
use Rattle.turn_columns.specs.Columns as edge
use Rattle.turn_columns.specs.Columns.{Edge, MayBeLogged, MayReturn, stage_logged}
use Rattle.turn_columns.proofs.EachRow.{each_row}
use Rattle.turn_columns.proofs.Moving.{moved}

-- a command for the metadata thread comes first
pub record HasMetadata (left : List Command) : Type 0 where
  pub command : Command
  pub rest : List Command
  pub is : left ≡ command ∷ rest
  pub for : IsForMetadata command

-- a row without a claim asks for a command of the metadata thread's
abbrev pub AsksUnclaimed : List Command → Option OpenClaim → Type 0
AsksUnclaimed left None = HasMetadata left
AsksUnclaimed left (Some claim) = Unit {0}

abbrev pub IsAskedAt : List Command → Option OpenClaim → Stage → Type 0
IsAskedAt left claim (Posted serial) = AsksUnclaimed left claim
IsAskedAt left claim _ = Unit {0}

abbrev pub IsAsked : Row → Type 0
IsAsked row = IsAskedAt row.left row.claim row.stage

pub record RowStep (old new : Row) : Type 0 where
  pub ended : old.stage ≡ Ended → new ≡ old
  pub asked : IsAsked old → IsAsked new
  -- a row that is posted still is as it was
  pub posted : (serial other : ℕ) → old.stage ≡ Posted serial → new.stage ≡ Posted other → new ≡ old

-- it stays
pub stays : (row : Row) → RowStep row row
stays row = record { ended = λ e. refl; asked = λ is. is; posted = λ serial other was is. refl }

-- what is no longer posted, of stages at which a row hasn't ended
abbrev IsUnposted : Stage → Type 0
IsUnposted stage = ((left : List Command) (claim : Option OpenClaim) → IsAskedAt left claim stage)
    × ((serial : ℕ) → stage ≡ Posted serial → ⊥)

entry : (stage : Stage) → MayBeLogged stage → (stage ≡ Ended → ⊥) × IsUnposted (stage_logged stage)
entry (Posted serial) may = (λ bad. cc bad, (λ left claim. tt, λ n bad. cc bad))
entry InJob may = (λ bad. cc bad, (λ left claim. tt, λ n bad. cc bad))
entry Idle may = (λ bad. cc bad, (λ left claim. tt, λ n bad. cc bad))
entry Claiming may = (λ bad. cc bad, (λ left claim. tt, λ n bad. cc bad))
entry (Copying n) may = (λ bad. cc bad, (λ left claim. tt, λ n bad. cc bad))
entry Ready may = (λ bad. cc bad, (λ left claim. tt, λ n bad. cc bad))
entry (Decided outcome) may = absurd may
entry Ended may = absurd may

returned : (stage : Stage) → MayReturn stage → stage ≡ Ended → ⊥
returned Claiming may bad = cc bad
returned (Copying left) may bad = cc bad
returned (Decided outcome) may bad = cc bad
returned Idle may bad = may
returned Ready may bad = may
returned (Posted serial) may bad = may
returned InJob may bad = may
returned Ended may bad = may

idle : IsUnposted Idle
idle = (λ left claim. tt, λ n bad. cc bad)

left_at : (n : ℕ) → IsUnposted (stage_left n)
left_at zero = (λ left claim. tt, λ n bad. cc bad)
left_at (suc n) = (λ left claim. tt, λ n bad. cc bad)

behind : (rest : List Phase) → IsUnposted (stage_behind rest)
behind [] = (λ left claim. tt, λ n bad. cc bad)
behind (x ∷ xs) = (λ left claim. tt, λ n bad. cc bad)

module _ (old new : Row) where
  -- it goes on, from this stage to that
  goes : (left : List Command) (claim : Option OpenClaim) (stage next : Stage) → old.stage ≡ stage
      → (stage ≡ Ended → ⊥)
      → IsUnposted next → new ≡ record { left = left; stage = next; claim = claim } → RowStep old new
  goes left claim stage next at alive un is = record {
    ended = λ e. absurd (alive (sym at ∙ e));
    asked = λ was. subst IsAsked (sym is) (un.0 left claim);
    posted = λ serial other was now. absurd (un.1 other (sym (ap (λ (r : Row). r.stage) is) ∙ now));
  }

  posts : (left : List Command) (claim : Option OpenClaim) (stage : Stage) (serial : ℕ) → old.stage ≡ stage
      → (stage ≡ Ended → ⊥) → ((n : ℕ) → stage ≡ Posted n → ⊥) → AsksUnclaimed left claim
      → new ≡ record { left = left; stage = Posted serial; claim = claim } → RowStep old new
  posts left claim stage serial at alive fresh asks is = record {
    ended = λ e. absurd (alive (sym at ∙ e));
    asked = λ was. subst IsAsked (sym is) asks;
    posted = λ n other was now. absurd (fresh n (sym at ∙ was));
  }

  -- (the fill's row has a stage at which it hasn't ended)
  row_step : (pages k : ℕ) → (k ≡ fill_row → old.stage ≡ Ended → ⊥) → Edge pages k old new → RowStep old new
  row_step pages k fill (edge.logs command rest stage left at may is) =
      let x = entry stage may in goes _ _ stage _ at x.0 x.1 is
  row_step pages k fill (edge.gives_up fills stage at may is) =
      let x = entry stage may in goes _ _ stage _ at x.0 x.1 is
  row_step pages k fill (edge.returns stage at may is) = goes _ _ stage _ at (returned stage may) idle is
  row_step pages k fill (edge.ends_use fills is) = goes _ _ old.stage _ refl (fill fills) idle is
  row_step pages k fill (edge.ends at is) = goes _ _ Idle Ended (ap (λ (r : Row). r.stage) at) (λ bad. cc bad)
      (λ left claim. tt, λ n bad. cc bad) is
  row_step pages k fill (edge.asks command rest serial meta at is) = posts _ _ Idle serial
      (ap (λ (r : Row). r.stage) at) (λ bad. cc bad) (λ n bad. cc bad)
      (record { command = command; rest = rest; is = refl; for = meta }) is
  row_step pages k fill (edge.begins command rest serial at is) = goes _ _ (Posted serial) InJob
      (ap (λ (r : Row). r.stage) at) (λ bad. cc bad) (λ left claim. tt, λ n bad. cc bad) is
  row_step pages k fill (edge.finds_empty left write at is) = goes _ _ Idle Claiming
      (ap (λ (r : Row). r.stage) at) (λ bad. cc bad) (λ left claim. tt, λ n bad. cc bad) is
  row_step pages k fill (edge.claims left claim write at is) = goes _ _ Claiming (Copying pages)
      (ap (λ (r : Row). r.stage) at) (λ bad. cc bad) (λ left claim. tt, λ n bad. cc bad) is
  row_step pages k fill (edge.claims_fill fills claim at is) = goes _ _ Idle (Copying pages)
      (ap (λ (r : Row). r.stage) at) (λ bad. cc bad) (λ left claim. tt, λ n bad. cc bad) is
  row_step pages k fill (edge.copies left claim n at is) = goes _ _ (Copying (suc n)) _
      (ap (λ (r : Row). r.stage) at) (λ bad. cc bad) (left_at n) is
  row_step pages k fill (edge.sends left claim serial at is) = posts _ _ Ready serial
      (ap (λ (r : Row). r.stage) at) (λ bad. cc bad) (λ n bad. cc bad) tt is
  row_step pages k fill (edge.loses_insert serial at is) = goes _ _ (Posted serial) _ at (λ bad. cc bad)
      (λ left claim. tt, λ n bad. cc bad) is
  row_step pages k fill (edge.begins_insert left claim serial at is) = goes _ _ (Posted serial) InJob
      (ap (λ (r : Row). r.stage) at) (λ bad. cc bad) (λ left claim. tt, λ n bad. cc bad) is
  row_step pages k fill (edge.inserts rest at is) = goes _ _ InJob _ at (λ bad. cc bad) (behind rest) is

not_ended : (filling : Option ℕ) (stage : Stage) → StandsAt filling stage → stage ≡ Ended → ⊥
not_ended None stage at e = subst (StandsAt None) e at
not_ended (Some channel) stage at e = subst (StandsAt (Some channel)) e at

-- each row takes a step
abbrev pub RowsStep : StoreState → StoreState → Type 0
RowsStep p q = (row : ℕ) → RowStep (p.rows row) (q.rows row)

-- over a turn, where the fill's row is at a stage at which it may be
pub row_steps : (told : Bool) (p q : StoreState) → FillStands p → (k : Kind) → Turn told p k q → RowsStep p q
row_steps told p q stands k t row = each_row _
    (λ n old new. (n ≡ fill_row → old.stage ≡ Ended → ⊥) → RowStep old new) (λ n r alive. stays r)
    (λ n old new e alive. row_step old new _ n alive e) _ p.rows q.rows (moved p q told k t).rows row
    (λ e ended. not_ended p.filling (p.rows fill_row).stage stands.stage
    (subst (λ n. (p.rows n).stage ≡ Ended) e ended))
