-- What serves a command is a turn of some kind, by what its call answers.
use Rattle.std.proofs.Common.{◌≡◌, ℕ, Option, Some, None, refl, sym, ◌∙◌, subst}
use Rattle.std.specs.Prelude.{IsSome}
use Rattle.page_disk.specs.declared.disk.PageDisk.{Ghosts}
use Rattle.store_model.specs.Cases as kind
use Rattle.store_model.specs.Cases.{Kind}
use Rattle.job_begins.specs.Begins.{BeginsOrNot}
use Rattle.job_begins.specs.Inserts.{InsertsOrNot}
use Rattle.job_begins.specs.declared.begin.BeginTurn.{BeginTurn}
use Rattle.job_begins.specs.declared.begin.BeginTurn.TheVariants as begin
use Rattle.job_begins.specs.declared.inserting.InsertTurn.{InsertTurn}
use Rattle.job_begins.specs.declared.inserting.InsertTurn.TheVariants as insert
use Rattle.running_store.specs.GivingBack.{halting}
use Rattle.running_store.specs.TurnMade.{TurnMade}
use Rattle.running_store.specs.StoreView.{state_of, StoreView}
use Rattle.md_thread.proofs.TurnsRepaired.{SomeTurn}

-- a store has stopped, or hasn't
pub by_stop : {A : Type 0} (stopped : Option ℕ) → (stopped ≡ None → A) → (IsSome stopped → A) → A
by_stop None runs halts = runs refl
by_stop (Some at) runs halts = halts refl

module _ {D : Type 0} (d : Ghosts D) (p q : StoreView D) where
  abbrev Some_one : Type 0
  Some_one = SomeTurn d.tells (state_of d p) (state_of d q)

  pub some_logged : (k : Kind) → (p.stopped ≡ None → TurnMade d p q k)
      → (IsSome p.stopped → TurnMade d p q kind.halts) → Some_one
  some_logged k runs stopped = by_stop p.stopped (λ e. (k, (runs e).0)) (λ e. (kind.halts, (stopped e).0))

  begun : (turn : BeginTurn) → BeginsOrNot d p q turn → Some_one
  begun begin.Began made = (kind.begins, made.0)
  begun begin.Logged made = (kind.refuses, made.0)

  pub some_begin : (turn : BeginTurn) → (p.stopped ≡ None → BeginsOrNot d p q turn)
      → (IsSome p.stopped → (turn ≡ begin.Logged) × TurnMade d p q kind.halts) → Some_one
  some_begin turn runs stopped = by_stop p.stopped (λ e. begun turn (runs e)) (λ e. (kind.halts, (stopped e).1.0))

  inserted : (turn : InsertTurn) → InsertsOrNot d p q turn → Some_one
  inserted insert.Began made = (kind.begins_insert, made.0)
  inserted insert.Decided made = (kind.loses_insert, made.0)
  inserted insert.Logged made = (made.kind, made.made.0)

  pub some_insert : (turn : InsertTurn) (row : ℕ) → (p.stopped ≡ None → InsertsOrNot d p q turn)
      → (IsSome p.stopped → (turn ≡ insert.Logged) × TurnMade d p q (halting row)) → Some_one
  some_insert turn row runs stopped =
      by_stop p.stopped (λ e. inserted turn (runs e)) (λ e. (halting row, (stopped e).1.0))

  -- an insert that isn't logged was begun, or not, by a store that runs
  pub not_halted : {turn now : InsertTurn} (row : ℕ) → (p.stopped ≡ None → InsertsOrNot d p q turn)
      → (IsSome p.stopped → (turn ≡ insert.Logged) × TurnMade d p q (halting row)) → turn ≡ now
      → (now ≡ insert.Logged → ⊥) → InsertsOrNot d p q now
  not_halted row runs stopped is other =
      by_stop p.stopped (λ e. subst (InsertsOrNot d p q) is (runs e))
      (λ e. absurd (other (sym is ∙ (stopped e).0)))
