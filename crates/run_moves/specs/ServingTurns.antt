-- Each turn of the metadata thread that serves a message is a move.
use Rattle.std.specs.Prelude.{◌≡◌, ◌≢◌, ℕ, Option, List, length}
use Rattle.super_block.specs.Numbers.{clusters_of}
use Rattle.volume_model.specs.declared.reply.Msg.{Msg}
use Rattle.store_model.specs.Cases.Answer.{Answers}
use Rattle.store_model.specs.Cases.Begin.{Begins}
use Rattle.store_model.specs.Cases.BeginInsert.{BeginsInsert}
use Rattle.store_model.specs.Cases.Halt.{Halts}
use Rattle.store_model.specs.Cases.LackForInsert.{LacksForInsert}
use Rattle.store_model.specs.Cases.LackMemoryForInsert.{LacksMemoryForInsert}
use Rattle.store_model.specs.Cases.LoseInsert.{LosesInsert}
use Rattle.store_model.specs.Cases.Refuse.{Refuses}
use Rattle.store_model.specs.Rows.{fill_row, Posted}
use Rattle.store_model.specs.RunInvariant.{HaveChains}
use Rattle.store_model.specs.StoreState.{StoreState}
use Rattle.run_work.specs.ServingMoves.{AnswerMove, BeginInsertMove, BeginJobMove, LoseInsertMove, Serves}
use Rattle.run_moves.specs.Projection.{run_state_of, RunMessages}
use Rattle.run_moves.specs.Sizes.{sizes_of}

-- a message is taken out of what is held and of those that wait
abbrev pub with_taken : RunMessages → Option Msg → List Msg → RunMessages
with_taken d held waiting = record d { held = held; waiting = waiting }

-- The masks of a store are as long as its regions, and its chains are sound.
pub record IsMeasured (p : StoreState) : Type 0 where
  pub pages : length p.pages ≡ p.super.md_len
  pub clusters : length p.clusters ≡ clusters_of p.super
  pub chains : HaveChains p.super p.base p.chains

module _ (p q : StoreState) (d : RunMessages) (held : Option Msg) (waiting : List Msg) where
  -- the row of this number is served, and this is held and waits then
  abbrev pub ServesRow : ℕ → Type 0
  ServesRow ch = Serves (run_state_of p d) ch held waiting

  -- its first command is logged, so that its channel is to be told
  abbrev pub IsAnswer : ℕ → Type 0
  IsAnswer ch = AnswerMove (sizes_of p.super) (run_state_of p d) ch (run_state_of q (with_taken d held waiting))

  -- turns that log the command of a message, or of an insert that comes to nothing
  pub record AnsweringTurns : Type 0 where
    pub answers : (t : Answers p q) → ServesRow t.posted.channel → IsAnswer t.posted.channel
    pub refuses : (t : Refuses p q) → ServesRow t.posted.channel → IsAnswer t.posted.channel
    pub lacks_for_insert : (t : LacksForInsert p q) → t.posted.row ≢ fill_row → ServesRow t.posted.row
        → IsAnswer t.posted.row
    pub lacks_memory_for_insert : (t : LacksMemoryForInsert p q) → t.posted.row ≢ fill_row → ServesRow t.posted.row
        → IsAnswer t.posted.row
    pub halts : (serial : ℕ) (t : Halts p q) → t.stage ≡ Posted serial → ServesRow t.channel → IsAnswer t.channel

  -- an insert is lost or begins, and the job of a command begins
  pub record BeginningTurns : Type 0 where
    pub loses_insert : (t : LosesInsert p q) → ServesRow t.posted.row
        → LoseInsertMove (sizes_of p.super) (run_state_of p d) t.posted.row (run_state_of q (with_taken d held waiting))
    pub begins_insert : IsMeasured p → (t : BeginsInsert p q) → ServesRow t.posted.row
        → BeginInsertMove (sizes_of p.super) (run_state_of p d) t.posted.row
        (run_state_of q (with_taken d held waiting))
    pub begins : IsMeasured p → (t : Begins p q) → ServesRow t.posted.channel
        → BeginJobMove (sizes_of p.super) (run_state_of p d) t.posted.channel
        (run_state_of q (with_taken d held waiting))

pub record ServingTurnLaws : Type 0 where
  pub answering : (p q : StoreState) (d : RunMessages) (held : Option Msg) (waiting : List Msg)
      → AnsweringTurns p q d held waiting
  pub beginning : (p q : StoreState) (d : RunMessages) (held : Option Msg) (waiting : List Msg)
      → BeginningTurns p q d held waiting
