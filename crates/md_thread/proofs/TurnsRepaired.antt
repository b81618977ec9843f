-- A store of which nothing is left to repair stays so over the turns of the metadata thread.
use Rattle.std.proofs.Common.{◌≡◌, ◌≢◌, ◌⊎◌, ℕ, Bool, inl, inr, subst, sym, ap}
use Rattle.std.proofs.lemmas.Bool.{cases_eq}
use Rattle.page_disk.specs.declared.disk.PageDisk.{Ghosts}
use Rattle.store_model.specs.Cases as kind
use Rattle.store_model.specs.Cases.{Kind, Turn}
use Rattle.store_model.specs.Repairing.{IsRepaired}
use Rattle.store_model.specs.Rows.{Claiming, Copying, Decided, Ended, Idle, InJob, Posted, Ready, Stage}
use Rattle.store_model.specs.StateLaws.{StateLaws}
use Rattle.store_model.specs.StoreState.{StoreState}
use Rattle.store_core.specs.StoreInvariant.{StoreInvariant}
use Rattle.running_store.specs.StoreView.{state_of, WithOpening}
use Rattle.md_thread.specs.Leading as once
use Rattle.md_thread.specs.Leading.{TurnsOnceOrStays}
use Rattle.run_moves.specs.DriverSteps as turns
use Rattle.run_moves.specs.DriverSteps.{JobTurn, ServingTurn}

-- ---- each turn is one of a kind

abbrev pub SomeTurn : Bool → StoreState → StoreState → Type 0
SomeTurn told p q = (k : Kind) × Turn told p k q

pub led : (told : Bool) (p q : StoreState) → SomeTurn told p q → TurnsOnceOrStays told p q
led told p q t = once.turns t.0 t.1

pub serving_kind : (told : Bool) (p q : StoreState) (channel : ℕ) → ServingTurn told p q channel → SomeTurn told p q
serving_kind told p q channel (turns.answers t is) = (kind.answers, t)
serving_kind told p q channel (turns.refuses t is) = (kind.refuses, t)
serving_kind told p q channel (turns.begins t is) = (kind.begins, t)
serving_kind told p q channel (turns.loses_insert t is) = (kind.loses_insert, t)
serving_kind told p q channel (turns.begins_insert t is) = (kind.begins_insert, t)
serving_kind told p q channel (turns.lacks_for_insert t is) = (kind.lacks_for_insert, t)
serving_kind told p q channel (turns.lacks_memory_for_insert t is) = (kind.lacks_memory_for_insert, t)
serving_kind told p q channel (turns.halts serial t at is) = (kind.halts, t)

pub job_kind : (told : Bool) (p q : StoreState) → JobTurn told p q → SomeTurn told p q
job_kind told p q (turns.marks_dirty t) = (kind.marks_dirty, t)
job_kind told p q (turns.zeroes t) = (kind.zeroes, t)
job_kind told p q (turns.writes t) = (kind.writes, t)
job_kind told p q (turns.commits t) = (kind.commits, t)
job_kind told p q (turns.erases t) = (kind.erases, t)
job_kind told p q (turns.frees t) = (kind.frees, t)
job_kind told p q (turns.fails t) = (kind.fails, t)
job_kind told p q (turns.breaks_off t) = (kind.breaks_off, t)
job_kind told p q (turns.breaks_down t) = (kind.breaks_down, t)
job_kind told p q (turns.replaces_more t) = (kind.replaces_more, t)
job_kind told p q (turns.more_fails t) = (kind.more_fails, t)
job_kind told p q (turns.more_breaks_off t) = (kind.more_breaks_off, t)
job_kind told p q (turns.inserts t) = (kind.inserts, t)
job_kind told p q (turns.insert_ends t) = (kind.insert_ends, t)
job_kind told p q (turns.insert_fails t apart) = (kind.insert_fails, t)
job_kind told p q (turns.insert_breaks_down t apart) = (kind.insert_breaks_down, t)

-- a turn of any kind leaves it so
pub turned : {D : Type 0} (d : Ghosts D) (laws : StateLaws) (p q : WithOpening D) → StoreInvariant d p
    → SomeTurn d.tells (state_of d p.at) (state_of d q.at) → IsRepaired (state_of d p.at) → IsRepaired (state_of d q.at)
turned d laws p q kept turn repaired =
    laws.repaired_stays d.tells p.opening.super _ _ (state_of d p.at) (state_of d q.at) turn.0 kept.facts turn.1
    repaired

-- a row is posted under a number, or isn't
posted_or_not : (stage : Stage) (serial : ℕ) → (stage ≡ Posted serial) ⊎ (stage ≢ Posted serial)
posted_or_not (Posted n) serial = elim (cases_eq n serial) [
  | inl e ↦ inl (ap Posted e)
  | inr ne ↦ inr (λ e. let same : n ≡ serial = cc e in ne same)
]
posted_or_not Idle serial = inr (λ e. cc e)
posted_or_not Claiming serial = inr (λ e. cc e)
posted_or_not (Copying left) serial = inr (λ e. cc e)
posted_or_not Ready serial = inr (λ e. cc e)
posted_or_not InJob serial = inr (λ e. cc e)
posted_or_not (Decided outcome) serial = inr (λ e. cc e)
posted_or_not Ended serial = inr (λ e. cc e)

-- so does what is done for a message, or isn't where it is out of date
pub served : {D : Type 0} (d : Ghosts D) (laws : StateLaws) (p q : WithOpening D) (channel serial : ℕ) (stage : Stage)
    → StoreInvariant d p
    → (stage ≡ Posted serial → ServingTurn d.tells (state_of d p.at) (state_of d q.at) channel)
    → (stage ≢ Posted serial → q ≡ p) → IsRepaired (state_of d p.at) → IsRepaired (state_of d q.at)
served {D = D} d laws p q channel serial stage kept turn stale repaired = elim (posted_or_not stage serial) [
  | inl posted ↦
      turned d laws p q kept (serving_kind d.tells (state_of d p.at) (state_of d q.at) channel (turn posted)) repaired
  | inr other ↦ subst (λ (x : WithOpening D). IsRepaired (state_of d x.at)) (sym (stale other)) repaired
]
