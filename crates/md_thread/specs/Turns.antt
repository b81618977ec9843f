-- What the turns of the metadata thread make of the messages that it keeps.
use Rattle.std.specs.Prelude.{◌≡◌, ℕ, List, [], None, Option, Some, Bool, true}
use Rattle.volume_model.specs.declared.reply.Msg.{Msg}
use Rattle.store_model.specs.StoreState.{StoreState}
use Rattle.run_moves.specs.DriverSteps.{driven_at_turn, JobTurn, MetadataActsOn, ServingTurn}
use Rattle.run_moves.specs.FillTurns.{FailedFill, FillEnd, FillTurn, held_beside}
use Rattle.md_thread.specs.Holding.{driven_by, MetadataState}

module _ (told : Bool) (p q : StoreState) where
  -- the running job made its next turn, and what the fill's row does goes on; or its insert failed, and the command
  -- that it works for is logged
  pub data JobMade (s t : MetadataState) : Type 0 where
    goes_on : JobTurn told p q → t ≡ s → JobMade s t
    failed : FailedFill p q → t ≡ record s { held = held_beside s.fill s.held; fill = None } → JobMade s t

  -- the fill of a message's command goes on, or there is none any more
  pub data FillMade (msg : Msg) (s t : MetadataState) : Type 0 where
    goes_on : FillTurn told p q msg.channel → t ≡ record s { fill = Some msg } → FillMade msg s t
    ended : FillEnd told p q msg.channel → t ≡ record s { fill = None } → FillMade msg s t

  -- a message was served, or its command has become the fill, of which the first turn was made
  pub data ServiceMade (msg : Msg) (s t : MetadataState) : Type 0 where
    served : ServingTurn told p q msg.channel → t ≡ s → ServiceMade msg s t
    filled : s.fill ≡ None → FillMade msg s t → ServiceMade msg s t

  -- once no command has to wait the step that is due was made
  abbrev pub ActsNow : MetadataState → MetadataState → Type 0
  ActsNow s t = (unsent : ℕ → Option ℕ) (queue : List Msg) → (s.found_none ≡ true → queue ≡ [])
      → MetadataActsOn told (driven_by p s unsent queue) (driven_by q t unsent queue)

-- a command that has to wait stands behind the others
abbrev pub HasJoined : StoreState → MetadataState → MetadataState → Type 0
HasJoined p s t = (unsent : ℕ → Option ℕ) (queue : List Msg)
    → driven_by p t unsent queue ≡ driven_at_turn (driven_by p s unsent queue)
