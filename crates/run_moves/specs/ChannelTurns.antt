-- Each turn of a channel is a move of it. That a page is copied, that a claim is lost and that an insert is posted are
-- also turns of the metadata thread's own row.
use Rattle.std.specs.Prelude.{◌≡◌, ◌≢◌, ℕ, ◌<◌, ◌==◌, ◌&&◌, if◌then◌else◌, nat_lt, Some, None, Bool, true, length, ◌++◌}
use Rattle.std.specs.Prelude.{◌∷◌, []}
use Rattle.super_block.specs.Numbers.{cluster_pages_of}
use Rattle.store_model.specs.Cases.Flush.{Flushes}
use Rattle.store_model.specs.Cases.FlushFail.{FlushFails}
use Rattle.store_model.specs.Cases.Read.{Reads}
use Rattle.store_model.specs.Cases.RefuseWrite.{RefusesWrite}
use Rattle.store_model.specs.Cases.WritePage.{WritesPage}
use Rattle.store_model.specs.Cases.WritePageFail.{FailsToWrite}
use Rattle.store_model.specs.Cases.FindEmpty.{FindsEmpty}
use Rattle.store_model.specs.Cases.FindFilled.{FindsFilled}
use Rattle.store_model.specs.Cases.Claim.{Claims}
use Rattle.store_model.specs.Cases.RefuseClaim.{RefusesClaim}
use Rattle.store_model.specs.Cases.Copy.{Copies}
use Rattle.store_model.specs.Cases.LoseCopy.{LosesCopy}
use Rattle.store_model.specs.Cases.CopyNotRead.{CopyNotRead}
use Rattle.store_model.specs.Cases.CopyFail.{CopyFails}
use Rattle.store_model.specs.Cases.Send.{Sends}
use Rattle.store_model.specs.Cases.Post.{Posts}
use Rattle.store_model.specs.Cases.Settle.{Settles}
use Rattle.store_model.specs.Cases.End.{Ends}
use Rattle.store_model.specs.Cases.Halt.{Halts}
use Rattle.store_model.specs.Guarding.{AreGenerations}
use Rattle.store_model.specs.Rows.{fill_row}
use Rattle.store_model.specs.StoreState.{StoreState}
use Rattle.run_work.specs.ChannelMoves.{ChannelMove, logs_itself, RowMove}
use Rattle.run_moves.specs.Projection.{run_state_of, RunMessages, stage_in_run}
use Rattle.run_moves.specs.Sizes.{sizes_of}

-- Where a row is posted a channel has the message of it to send; the metadata thread sends itself none.
abbrev pub with_unsent : RunMessages → ℕ → ℕ → RunMessages
with_unsent d ch serial =
    record d { unsent = λ k. if k == ch && nat_lt ch 16 then Some serial else d.unsent k }

-- the message of a channel is sent
abbrev pub with_sent : RunMessages → ℕ → ℕ → RunMessages
with_sent d ch serial = record d {
  unsent = λ k. if k == ch then None else d.unsent k;
  queue = d.queue ++ record { channel = ch; serial = serial } ∷ [];
}

-- a move of a channel between the runs of two states of a store with their messages
abbrev pub IsChannelMove : StoreState → RunMessages → ℕ → StoreState → RunMessages → Type 0
IsChannelMove p d ch q e = ChannelMove (sizes_of p.super) (run_state_of p d) ch (run_state_of q e)

-- the same of a row, a channel's or the metadata thread's own
abbrev pub IsRowMove : StoreState → RunMessages → ℕ → StoreState → RunMessages → Type 0
IsRowMove p d row q e = RowMove (sizes_of p.super) (run_state_of p d) row (run_state_of q e)

-- turns that log the first command of a channel
pub record LoggingTurns (p q : StoreState) (d : RunMessages) : Type 0 where
  pub flush : (t : Flushes p q) → IsChannelMove p d t.channel q d
  pub flush_fails : (t : FlushFails p q) → IsChannelMove p d t.channel q d
  pub reads : (t : Reads p q) → IsChannelMove p d t.channel q d
  pub refuses_write : (t : RefusesWrite p q) → IsChannelMove p d t.channel q d
  pub writes_page : (told : Bool) (t : WritesPage told p q) → IsChannelMove p d t.at.channel q d
  pub fails_to_write : (t : FailsToWrite p q) → IsChannelMove p d t.at.channel q d
  pub refuses_claim : (t : RefusesClaim p q) → IsChannelMove p d t.write.channel q d
  pub copy_not_read : (t : CopyNotRead p q) → t.copying.row ≢ fill_row → IsChannelMove p d t.copying.row q d
  pub copy_fails : (t : CopyFails p q) → t.copying.row ≢ fill_row → IsChannelMove p d t.copying.row q d
  -- what is posted is logged by the metadata thread
  pub halts : (t : Halts p q) → logs_itself (stage_in_run t.stage) ≡ true → IsChannelMove p d t.channel q d

-- turns of a write that finds its slot empty
pub record WritingTurns (p q : StoreState) (d : RunMessages) : Type 0 where
  pub finds_empty : (t : FindsEmpty p q) → IsChannelMove p d t.write.channel q d
  pub finds_filled : AreGenerations p.base p.generations p.drawn → (t : FindsFilled p q)
      → IsChannelMove p d t.write.channel q d
  pub claims : 0 < cluster_pages_of p.super → (t : Claims p q) → IsRowMove p d t.write.channel q d
  pub copies : (told : Bool) (t : Copies told p q) → IsRowMove p d t.copying.row q d
  pub loses_copy : (t : LosesCopy p q) → IsRowMove p d t.copying.row q d
  pub sends : (t : Sends p q) → IsRowMove p d t.copying.row q (with_unsent d t.copying.row p.serial)

-- turns by which a row is posted and goes on, and the end
pub record WaitingTurns (p q : StoreState) (d : RunMessages) : Type 0 where
  pub posts : (t : Posts p q) → IsRowMove p d t.channel q (with_unsent d t.channel p.serial)
  pub settles : (t : Settles p q) → IsRowMove p d t.channel q d
  pub ends : (t : Ends p q) → IsChannelMove p d t.channel q d

pub record ChannelTurnLaws : Type 0 where
  pub logging : (p q : StoreState) (d : RunMessages) → LoggingTurns p q d
  pub writing : (p q : StoreState) (d : RunMessages) → WritingTurns p q d
  pub waiting : (p q : StoreState) (d : RunMessages) → WaitingTurns p q d
  -- a move of a row is one of its channel
  pub row : (p q : StoreState) (d e : RunMessages) (ch : ℕ) → IsRowMove p d ch q e → IsChannelMove p d ch q e
  -- and so is the driver's sending of a message
  pub message : (p : StoreState) (d : RunMessages) (ch serial : ℕ) → d.unsent ch ≡ Some serial → length d.queue < 8
      → IsChannelMove p d ch p (with_sent d ch serial)
