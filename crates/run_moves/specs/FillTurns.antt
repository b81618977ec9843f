-- The turns of a fill: those on its own row by which it goes on, and those with which it ends.
use Rattle.std.specs.Prelude.{◌≡◌, ℕ, Option, None, Some, Bool}
use Rattle.volume_model.specs.declared.reply.Msg.{Msg}
use Rattle.store_model.specs.Cases.Answer.{Answers}
use Rattle.store_model.specs.Cases.Begin.{Begins}
use Rattle.store_model.specs.Cases.BeginInsert.{BeginsInsert}
use Rattle.store_model.specs.Cases.ClaimFill.{ClaimsFill}
use Rattle.store_model.specs.Cases.Copy.{Copies}
use Rattle.store_model.specs.Cases.CopyFail.{CopyFails}
use Rattle.store_model.specs.Cases.CopyNotRead.{CopyNotRead}
use Rattle.store_model.specs.Cases.Halt.{Halts}
use Rattle.store_model.specs.Cases.HaltFill.{HaltsFill}
use Rattle.store_model.specs.Cases.InsertBreakDown.{InsertBreaksDown}
use Rattle.store_model.specs.Cases.InsertFail.{InsertFails}
use Rattle.store_model.specs.Cases.LackForFill.{LacksForFill}
use Rattle.store_model.specs.Cases.LackForInsert.{LacksForInsert}
use Rattle.store_model.specs.Cases.LackMemoryForInsert.{LacksMemoryForInsert}
use Rattle.store_model.specs.Cases.LoseCopy.{LosesCopy}
use Rattle.store_model.specs.Cases.LoseInsert.{LosesInsert}
use Rattle.store_model.specs.Cases.Refuse.{Refuses}
use Rattle.store_model.specs.Cases.Send.{Sends}
use Rattle.store_model.specs.Cases.Settle.{Settles}
use Rattle.store_model.specs.Filling.{unused_row}
use Rattle.store_model.specs.Rows.{fill_row, Posted}
use Rattle.store_model.specs.StoreState.{StoreState}
use Rattle.run_moves.specs.Projection.{RunMessages}

module _ (told : Bool) (p q : StoreState) where
  -- The fill of a channel's command goes on, on the fill's row: a cluster is claimed for its next slot, a page is
  -- copied or the claim is lost, the insert is posted, begins or is lost, or the row takes the word of what was
  -- decided.
  pub data FillTurn (channel : ℕ) : Type 0 where
    claims_fill : (t : ClaimsFill p q) → t.fill.posted.channel ≡ channel → FillTurn channel
    copies : (t : Copies told p q) → t.copying.row ≡ fill_row → FillTurn channel
    loses_copy : (t : LosesCopy p q) → t.copying.row ≡ fill_row → FillTurn channel
    sends : (t : Sends p q) → t.copying.row ≡ fill_row → FillTurn channel
    begins_insert : (t : BeginsInsert p q) → t.posted.row ≡ fill_row → FillTurn channel
    loses_insert : (t : LosesInsert p q) → t.posted.row ≡ fill_row → FillTurn channel
    settles : (t : Settles p q) → t.channel ≡ fill_row → FillTurn channel

  -- It ends: while its row isn't used, its last job begins, or the command is refused (or answered, if it is another),
  -- lacks a cluster, or finds the store stopped; or on its row a copy can't be read or fails, the insert lacks pages or
  -- memory, or the store has stopped.
  pub data FillEnd (channel : ℕ) : Type 0 where
    begins : (t : Begins p q) → t.posted.channel ≡ channel → p.rows fill_row ≡ unused_row → FillEnd channel
    answers : (t : Answers p q) → t.posted.channel ≡ channel → p.rows fill_row ≡ unused_row → FillEnd channel
    refuses : (t : Refuses p q) → t.posted.channel ≡ channel → p.rows fill_row ≡ unused_row → FillEnd channel
    halts : (serial : ℕ) (t : Halts p q) → t.stage ≡ Posted serial → t.channel ≡ channel
        → p.rows fill_row ≡ unused_row → FillEnd channel
    lacks_for_fill : (t : LacksForFill p q) → t.fill.posted.channel ≡ channel → FillEnd channel
    halts_fill : (t : HaltsFill p q) → t.posted.channel ≡ channel → FillEnd channel
    copy_not_read : (t : CopyNotRead p q) → t.copying.row ≡ fill_row → FillEnd channel
    copy_fails : (t : CopyFails p q) → t.copying.row ≡ fill_row → FillEnd channel
    lacks_for_insert : (t : LacksForInsert p q) → t.posted.row ≡ fill_row → FillEnd channel
    lacks_memory_for_insert : (t : LacksMemoryForInsert p q) → t.posted.row ≡ fill_row → FillEnd channel

-- It ends with the job of its insert, in which a write or a flush failed, or which the store's stop ends.
pub data FailedFill (p q : StoreState) : Type 0 where
  insert_fails : (t : InsertFails p q) → t.inserting.row ≡ fill_row → FailedFill p q
  insert_breaks_down : (t : InsertBreaksDown p q) → t.inserting.row ≡ fill_row → FailedFill p q

-- the fill goes on for this command, or for none any more
abbrev pub with_fill : RunMessages → Msg → RunMessages
with_fill d message = record d { fill = Some message }

abbrev pub without_fill : RunMessages → RunMessages
without_fill d = record d { fill = None }

-- The message of the command that the fill's row works for, by the fill and what is held: that of the fill, or, where
-- none goes on, the one held, since a metadata thread has just taken over from another.
abbrev pub worked_for : Option Msg → Option Msg → Option Msg
worked_for None held = held
worked_for (Some message) held = Some message

-- what is held once that command is logged
abbrev pub held_beside : Option Msg → Option Msg → Option Msg
held_beside None held = None
held_beside (Some message) held = held

abbrev pub without_worked : RunMessages → RunMessages
without_worked d = record d { held = held_beside d.fill d.held; fill = None }

-- The driver has the message of the command that the fill's row works for.
abbrev pub HoldsFill : StoreState → RunMessages → Type 0
HoldsFill p d = (channel : ℕ) → p.filling ≡ Some channel → (message : Msg)
    × (worked_for d.fill d.held ≡ Some message) × (message.channel ≡ channel)
