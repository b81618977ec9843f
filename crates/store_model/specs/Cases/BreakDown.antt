-- The turn breaks_down.
use Rattle.std.specs.Prelude.{◌≡◌, ◌⊎◌, ℕ, Some, None, true}
use Rattle.volume_model.specs.declared.reply.Reply.TheVariants as r
use Rattle.store_model.specs.Phases.{has_commit}
use Rattle.store_model.specs.StoreState.{JobState, logged, StoreState, waiting}
use Rattle.store_model.specs.Turning.{IsServedNow}
use Rattle.store_model.specs.Touches.{TurnKind, untouched}

-- The command that the job serves has no entry yet, and is logged as stopped.
pub record IsUnlogged (p : StoreState) (j : JobState) (at : ℕ) (q : StoreState) : Type 0 where
  pub served : IsServedNow p j
  pub waits : has_commit j.todo ≡ true
  pub next : q
      ≡ logged (record p { job = None }) served.channel served.command served.rest (r.Stopped at) p.device

-- It was logged at the job's commit, or the job serves none.
pub record WasLogged (p : StoreState) (j : JobState) (q : StoreState) : Type 0 where
  pub waits : waiting j.serves j.todo ≡ None
  pub next : q ≡ record p { job = None }

-- A turn of the job on a stopped store: no device call, and no job runs any more. Nothing has been frozen since the
-- store stopped.
pub record BreaksDown (p q : StoreState) : Type 0 where
  pub job : JobState
  pub is : p.job ≡ Some job
  pub at : ℕ
  pub stands : p.stopped ≡ Some at
  pub ends : IsUnlogged p job at q ⊎ WasLogged p job q

abbrev pub kind : TurnKind
kind = record { Case = λ told p q. BreaksDown p q; touch = λ told p q t. untouched; OfJob = Unit {0} }
