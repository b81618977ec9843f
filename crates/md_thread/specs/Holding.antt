-- What the metadata thread keeps between its steps, and which step it makes.
use Rattle.std.specs.Prelude.{◌≡◌, ◌≢◌, ℕ, ◌<◌, nat_lt, Bool, true, false, ◌&&◌, not, is_none, is_some, List, [], ◌∷◌}
use Rattle.std.specs.Prelude.{length}
use Rattle.std.specs.Prelude.{Option, None, Some}
use Rattle.volume_model.specs.declared.reply.Msg.{Msg}
use Rattle.store_model.specs.Rows.{Ended, Posted, Row}
use Rattle.store_model.specs.StoreState.{JobState, StoreState}
use Rattle.page_disk.specs.declared.disk.PageDisk.{Ghosts}
use Rattle.store_model.specs.Filling.{IsFilledFor}
use Rattle.running_store.specs.StoreView.{rows_of, state_of, StoreView}
use Rattle.run_work.specs.Reading.{has_any}
use Rattle.run_work.specs.RunFacts.{IsAmongThese}
use Rattle.run_work.specs.Steps.{can_metadata, due_in, MoveKind, TakeStep}
use Rattle.run_moves.specs.DrivenStore.{DrivenStore, run_of}
use Rattle.run_moves.specs.DriverSteps.{driven_at_turn, MetadataActsOn}
use Rattle.run_moves.specs.FillTurns.{HoldsFill}
use Rattle.run_moves.specs.Projection.{RunMessages}
use Rattle.md_thread.specs.declared.state.Next.{Next}
use Rattle.md_thread.specs.declared.state.Next.TheVariants as on
use Rattle.md_thread.specs.declared.state.Turn.{Turn}
use Rattle.md_thread.specs.declared.state.Turn.TheVariants as turn

-- the message that it holds, those of the commands that wait, that of the command whose fill goes on, whether none was
-- queued when it last looked, with no turn made since, and what its next step is made on
pub record MetadataState : Type 0 where
  pub held : Option Msg
  pub waiting : List Msg
  pub fill : Option Msg
  pub found_none : Bool
  pub next : Next

-- what it keeps before its first step, which is made on the store
abbrev pub at_first : Option Msg → MetadataState
at_first held = record { held = held; waiting = []; fill = None; found_none = false; next = on.Plant }

-- ---- its messages

-- it keeps the message: it holds it, or its command waits or is filled for
abbrev pub KeepsMessage : MetadataState → Msg → Type 0
KeepsMessage s msg = IsAmongThese (λ k. None) [] s.held s.waiting s.fill msg

-- each message that it keeps is a channel's, whose row is posted under its number
abbrev pub AreCurrent : List Row → MetadataState → Type 0
AreCurrent rows s = (msg : Msg) → KeepsMessage s msg
    → (msg.channel < 16) × ((rows_of rows msg.channel).stage ≡ Posted msg.serial)

-- its messages, beside those that are still to be sent and that are queued
abbrev pub messages_by : MetadataState → (ℕ → Option ℕ) → List Msg → RunMessages
messages_by s unsent queue =
    record { unsent = unsent; queue = queue; held = s.held; waiting = s.waiting; fill = s.fill }

-- a store with all of these
abbrev pub driven_by : StoreState → MetadataState → (ℕ → Option ℕ) → List Msg → DrivenStore
driven_by p s unsent queue = record { store = p; messages = messages_by s unsent queue }

-- What is known of its messages along a run: each is current; the command whose fill goes on is an inflate or a
-- decouple; and the fill's row works for that one alone.
pub record IsKept {D : Type 0} (d : Ghosts D) (p : StoreView D) (s : MetadataState) : Type 0 where
  pub current : AreCurrent p.rows s
  pub asked : (msg : Msg) → s.fill ≡ Some msg → IsFilledFor (rows_of p.rows msg.channel)
  pub works : HoldsFill (state_of d p) (messages_by s (λ k. None) [])

-- What was held still is; or the fill's row worked for its command behind a takeover, and that one is logged.
pub data IsHeldOn (rows : List Row) (s : MetadataState) (held : Option Msg) : Type 0 where
  still_held : held ≡ s.held → IsHeldOn rows s held
  let_go : (msg : Msg) → s.fill ≡ None → s.held ≡ Some msg → (rows_of rows msg.channel).stage ≢ Posted msg.serial
      → held ≡ None → IsHeldOn rows s held

-- ---- its step

-- the step that is due, with these messages still to be sent and queued
abbrev pub due_at : StoreState → MetadataState → (ℕ → Option ℕ) → List Msg → MoveKind
due_at p s unsent queue = due_in (run_of (driven_at_turn (driven_by p s unsent queue)))

-- The step that is due is made on the store, whatever is still to be sent and queued; where no message was found none
-- is queued.
abbrev pub MakesStep : Bool → StoreState → MetadataState → StoreState → MetadataState → Type 0
MakesStep told p s q t = (unsent : ℕ → Option ℕ) (queue : List Msg) → (s.found_none ≡ true → queue ≡ [])
    → MetadataActsOn told (driven_at_turn (driven_by p s unsent queue)) (driven_by q t unsent queue)

-- the message that is served where no job runs and no fill goes on: what is held, where no other waits, or else the
-- first that waits
pub data ComesNext (s : MetadataState) (msg : Msg) : Type 0 where
  the_held : s.held ≡ Some msg → s.waiting ≡ [] → ComesNext s msg
  the_first : s.held ≡ None → (rest : List Msg) → s.waiting ≡ msg ∷ rest → ComesNext s msg

-- those that wait behind it
abbrev pub waiting_behind : Option Msg → List Msg → List Msg
waiting_behind None [] = []
waiting_behind None (msg ∷ rest) = rest
waiting_behind (Some msg) waiting = waiting

-- the state without it
abbrev pub without_next : MetadataState → MetadataState
without_next s = record s { held = None; waiting = waiting_behind s.held s.waiting }

-- There is nothing to do on the store before the queue is looked at. A command that has to wait does; where a message
-- is queued it is to be taken; and where none was found nothing can be done.
pub record LooksForMessage (p : StoreState) (s t : MetadataState) : Type 0 where
  pub joined : (unsent : ℕ → Option ℕ) (queue : List Msg)
      → driven_by p t unsent queue ≡ driven_at_turn (driven_by p s unsent queue)
  pub takes : (unsent : ℕ → Option ℕ) (queue : List Msg) → has_any queue ≡ true → due_at p s unsent queue ≡ TakeStep
  pub ends : s.found_none ≡ true → (unsent : ℕ → Option ℕ)
      → can_metadata (run_of (driven_by p s unsent [])) ≡ false

-- While a fill goes on, no job runs and nothing is held, a message is looked for before the fill makes its turn, as
-- long as fewer than 16 commands wait.
abbrev pub looks_first : Option JobState → MetadataState → Bool
looks_first job s = not (is_some job) && is_none s.held && is_some s.fill && nat_lt (length s.waiting) 16

-- ---- the next step

-- every channel has ended
abbrev pub HaveEnded : List Row → Type 0
HaveEnded rows = (channel : ℕ) → channel < 16 → (rows_of rows channel).stage ≡ Ended

-- Where a message is looked for first the next step is made on the queue. Else behind a turn of the store comes
-- another; and where there was nothing to do a message is to be taken, unless every channel has ended.
abbrev pub IsNextAfter : Turn → List Row → Bool → Next → Type 0
IsNextAfter made rows true on.Queue = Unit {0}
IsNextAfter turn.Moved rows false on.Plant = Unit {0}
IsNextAfter turn.Idle rows false on.Queue = ¬ HaveEnded rows
IsNextAfter turn.Idle rows false on.Ended = HaveEnded rows
IsNextAfter _ rows looks _ = ⊥
