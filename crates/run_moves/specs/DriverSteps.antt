-- The steps of the actors of a run, exactly: what a channel does by the stage of its row, and what the metadata thread
-- does by what is due.
use Rattle.std.specs.Prelude.{◌≡◌, ◌≢◌, ◌⊎◌, ℕ, ◌<◌, if◌then◌else◌, Option, Some, None, Bool, true, false, List, []}
use Rattle.std.specs.Prelude.{◌∷◌}
use Rattle.std.specs.Prelude.{◌++◌, length}
use Rattle.volume_model.specs.declared.reply.Msg.{Msg}
use Rattle.store_model.specs.Cases.Answer.{Answers}
use Rattle.store_model.specs.Cases.Begin.{Begins}
use Rattle.store_model.specs.Cases.BeginInsert.{BeginsInsert}
use Rattle.store_model.specs.Cases.BreakDown.{BreaksDown}
use Rattle.store_model.specs.Cases.BreakOff.{BreaksOff}
use Rattle.store_model.specs.Cases.BreakOffMore.{MoreBreaksOff}
use Rattle.store_model.specs.Cases.Claim.{Claims}
use Rattle.store_model.specs.Cases.Commit.{Commits}
use Rattle.store_model.specs.Cases.Copy.{Copies}
use Rattle.store_model.specs.Cases.CopyFail.{CopyFails}
use Rattle.store_model.specs.Cases.CopyNotRead.{CopyNotRead}
use Rattle.store_model.specs.Cases.End.{Ends}
use Rattle.store_model.specs.Cases.EndFill.{EndsFill}
use Rattle.store_model.specs.Cases.Erase.{Erases}
use Rattle.store_model.specs.Cases.Fail.{Fails}
use Rattle.store_model.specs.Cases.FailMore.{MoreFails}
use Rattle.store_model.specs.Cases.FindEmpty.{FindsEmpty}
use Rattle.store_model.specs.Cases.FindFilled.{FindsFilled}
use Rattle.store_model.specs.Cases.Flush.{Flushes}
use Rattle.store_model.specs.Cases.FlushFail.{FlushFails}
use Rattle.store_model.specs.Cases.Free.{Frees}
use Rattle.store_model.specs.Cases.Halt.{Halts}
use Rattle.store_model.specs.Cases.Insert.{Inserts}
use Rattle.store_model.specs.Cases.InsertBreakDown.{InsertBreaksDown}
use Rattle.store_model.specs.Cases.InsertEnd.{InsertEnds}
use Rattle.store_model.specs.Cases.InsertFail.{InsertFails}
use Rattle.store_model.specs.Cases.LackForInsert.{LacksForInsert}
use Rattle.store_model.specs.Cases.LackMemoryForInsert.{LacksMemoryForInsert}
use Rattle.store_model.specs.Cases.LoseCopy.{LosesCopy}
use Rattle.store_model.specs.Cases.LoseInsert.{LosesInsert}
use Rattle.store_model.specs.Cases.Post.{Posts}
use Rattle.store_model.specs.Cases.Read.{Reads}
use Rattle.store_model.specs.Cases.Refuse.{Refuses}
use Rattle.store_model.specs.Cases.RefuseClaim.{RefusesClaim}
use Rattle.store_model.specs.Cases.RefuseWrite.{RefusesWrite}
use Rattle.store_model.specs.Cases.ReplaceMore.{ReplacesMore}
use Rattle.store_model.specs.Cases.Send.{Sends}
use Rattle.store_model.specs.Cases.Settle.{Settles}
use Rattle.store_model.specs.Cases.WriteFresh.{WritesFresh}
use Rattle.store_model.specs.Cases.WritePage.{WritesPage}
use Rattle.store_model.specs.Cases.WritePageFail.{FailsToWrite}
use Rattle.store_model.specs.Cases.MarkDirty.{MarksDirty}
use Rattle.store_model.specs.Cases.Zero.{Zeroes}
use Rattle.store_model.specs.Rows.{fill_row, Posted}
use Rattle.store_model.specs.StoreState.{StoreState}
use Rattle.run_work.specs.ChannelMoves.{logs_itself}
use Rattle.run_work.specs.Following.{ActorInRun, ChannelActs, MetadataActs}
use Rattle.run_work.specs.Following as following
use Rattle.run_work.specs.ServingMoves.{TakesOut}
use Rattle.run_work.specs.Steps.{all_ended, can_move, CloseStep, due_in, FillStep, has_to_wait, JobStep, MessageStep}
use Rattle.run_work.specs.Steps.{TakeStep}
use Rattle.run_moves.specs.ChannelTurns.{with_sent, with_unsent}
use Rattle.run_moves.specs.DrivenStore.{DrivenStore, run_of}
use Rattle.run_moves.specs.FillTurns.{FailedFill, FillEnd, FillTurn, with_fill, without_fill, without_worked}
use Rattle.run_moves.specs.Projection.{RunMessages, stage_in_run}
use Rattle.run_moves.specs.ServingTurns.{with_taken}

-- a command that is held and has to wait stands behind the others that wait
abbrev pub behind_others : RunMessages → Option Msg → RunMessages
behind_others d None = d
behind_others d (Some message) = record d { held = None; waiting = d.waiting ++ message ∷ [] }

abbrev pub messages_at_turn : DrivenStore → RunMessages
messages_at_turn w = if has_to_wait (run_of w) then behind_others w.messages w.messages.held else w.messages

-- the store with its messages once a message is taken out for a fill
abbrev pub taken_up : DrivenStore → Option Msg → List Msg → Msg → DrivenStore
taken_up w held waiting message =
    record w { messages = with_fill (with_taken w.messages held waiting) message }

-- the store with its messages once a command that has to wait does
abbrev pub driven_at_turn : DrivenStore → DrivenStore
driven_at_turn w = record w { messages = messages_at_turn w }

-- every channel has ended, and there is nothing to do for the metadata thread
abbrev pub has_all_ended : DrivenStore → Bool
has_all_ended w = all_ended (run_of w)

module _ (told : Bool) where
  -- ---- turns

  module _ (p q : StoreState) where
    -- A channel's own turn logs its first command, goes on with its write, takes the word of what was decided of its
    -- row, or ends it. Each says itself at which stage its row has to be, so that there is one for a row at most.
    pub data ChannelTurn (channel : ℕ) : Type 0 where
      reads : (t : Reads p q) → t.channel ≡ channel → ChannelTurn channel
      refuses_write : (t : RefusesWrite p q) → t.channel ≡ channel → ChannelTurn channel
      writes_page : (t : WritesPage told p q) → t.at.channel ≡ channel → ChannelTurn channel
      fails_to_write : (t : FailsToWrite p q) → t.at.channel ≡ channel → ChannelTurn channel
      finds_empty : (t : FindsEmpty p q) → t.write.channel ≡ channel → ChannelTurn channel
      finds_filled : (t : FindsFilled p q) → t.write.channel ≡ channel → ChannelTurn channel
      claims : (t : Claims p q) → t.write.channel ≡ channel → ChannelTurn channel
      refuses_claim : (t : RefusesClaim p q) → t.write.channel ≡ channel → ChannelTurn channel
      copies : (t : Copies told p q) → t.copying.row ≡ channel → ChannelTurn channel
      loses_copy : (t : LosesCopy p q) → t.copying.row ≡ channel → ChannelTurn channel
      copy_not_read : (t : CopyNotRead p q) → t.copying.row ≡ channel → ChannelTurn channel
      copy_fails : (t : CopyFails p q) → t.copying.row ≡ channel → ChannelTurn channel
      flushes : (t : Flushes p q) → t.channel ≡ channel → ChannelTurn channel
      flush_fails : (t : FlushFails p q) → t.channel ≡ channel → ChannelTurn channel
      settles : (t : Settles p q) → t.channel ≡ channel → ChannelTurn channel
      ends : (t : Ends p q) → t.channel ≡ channel → ChannelTurn channel
      halts : (t : Halts p q) → t.channel ≡ channel → logs_itself (stage_in_run t.stage) ≡ true → ChannelTurn channel

    -- a channel posts its command, or the insert of its cluster
    pub data PostingTurn (channel : ℕ) : Type 0 where
      posts : (t : Posts p q) → t.channel ≡ channel → PostingTurn channel
      sends : (t : Sends p q) → t.copying.row ≡ channel → PostingTurn channel

    -- The message of a channel is served: its command is answered or refused, or its job begins; its insert is lost or
    -- begins, or it lacks pages or memory; or the store has stopped.
    pub data ServingTurn (channel : ℕ) : Type 0 where
      answers : (t : Answers p q) → t.posted.channel ≡ channel → ServingTurn channel
      refuses : (t : Refuses p q) → t.posted.channel ≡ channel → ServingTurn channel
      begins : (t : Begins p q) → t.posted.channel ≡ channel → ServingTurn channel
      loses_insert : (t : LosesInsert p q) → t.posted.row ≡ channel → ServingTurn channel
      begins_insert : (t : BeginsInsert p q) → t.posted.row ≡ channel → ServingTurn channel
      lacks_for_insert : (t : LacksForInsert p q) → t.posted.row ≡ channel → ServingTurn channel
      lacks_memory_for_insert : (t : LacksMemoryForInsert p q) → t.posted.row ≡ channel → ServingTurn channel
      halts : (serial : ℕ) (t : Halts p q) → t.stage ≡ Posted serial → t.channel ≡ channel → ServingTurn channel

    -- the running job makes its next turn, with which no fill ends
    pub data JobTurn : Type 0 where
      marks_dirty : MarksDirty told p q → JobTurn
      zeroes : Zeroes told p q → JobTurn
      writes : WritesFresh told p q → JobTurn
      commits : Commits told p q → JobTurn
      erases : Erases told p q → JobTurn
      frees : Frees told p q → JobTurn
      fails : Fails p q → JobTurn
      breaks_off : BreaksOff p q → JobTurn
      breaks_down : BreaksDown p q → JobTurn
      replaces_more : ReplacesMore told p q → JobTurn
      more_fails : MoreFails p q → JobTurn
      more_breaks_off : MoreBreaksOff p q → JobTurn
      inserts : Inserts told p q → JobTurn
      insert_ends : InsertEnds told p q → JobTurn
      insert_fails : (t : InsertFails p q) → t.inserting.row ≢ fill_row → JobTurn
      insert_breaks_down : (t : InsertBreaksDown p q) → t.inserting.row ≢ fill_row → JobTurn

  -- ---- steps

  -- what a channel does: one turn, a posting among them, or it sends its message where fewer than 8 are queued
  pub data ChannelActsOn (w : DrivenStore) (channel : ℕ) (v : DrivenStore) : Type 0 where
    by_turn : ChannelTurn w.store v.store channel → v.messages ≡ w.messages → ChannelActsOn w channel v
    by_posting : PostingTurn w.store v.store channel → v.messages ≡ with_unsent w.messages channel w.store.serial
        → ChannelActsOn w channel v
    by_sending : (serial : ℕ) → w.messages.unsent channel ≡ Some serial → length w.messages.queue < 8
        → v ≡ record w { messages = with_sent w.messages channel serial } → ChannelActsOn w channel v

  -- what the fill of a message's command does: it goes on, or there is none any more
  pub data FillActsOn (w : DrivenStore) (message : Msg) (v : DrivenStore) : Type 0 where
    fill_goes_on : FillTurn told w.store v.store message.channel → v.messages ≡ w.messages → FillActsOn w message v
    fill_ends : FillEnd told w.store v.store message.channel → v.messages ≡ without_fill w.messages
        → FillActsOn w message v

  -- What the metadata thread does: a turn of the running job, the turn that serves a message, a turn of the fill, or it
  -- takes the front message or ends the use of its row, whichever is due. A command that becomes the fill makes the
  -- fill's first turn.
  pub data MetadataActsOn (w v : DrivenStore) : Type 0 where
    by_job : due_in (run_of w) ≡ JobStep → JobTurn w.store v.store → v.messages ≡ w.messages → MetadataActsOn w v
    by_failed_fill : due_in (run_of w) ≡ JobStep → FailedFill w.store v.store → v.messages ≡ without_worked w.messages
        → MetadataActsOn w v
    by_closing : due_in (run_of w) ≡ CloseStep → EndsFill w.store v.store → v.messages ≡ w.messages
        → MetadataActsOn w v
    by_fill : (message : Msg) → due_in (run_of w) ≡ FillStep → w.messages.fill ≡ Some message
        → FillActsOn w message v → MetadataActsOn w v
    by_taking_up : (message : Msg) (held : Option Msg) (waiting : List Msg) → due_in (run_of w) ≡ MessageStep message
        → w.messages.fill ≡ None → TakesOut (run_of w) message held waiting
        → FillActsOn (taken_up w held waiting message) message v → MetadataActsOn w v
    by_message : (message : Msg) (held : Option Msg) (waiting : List Msg) → due_in (run_of w) ≡ MessageStep message
        → TakesOut (run_of w) message held waiting → ServingTurn w.store v.store message.channel
        → v.messages ≡ with_taken w.messages held waiting → MetadataActsOn w v
    by_taking : (front : Msg) (rest : List Msg) → due_in (run_of w) ≡ TakeStep → w.messages.queue ≡ front ∷ rest
        → v ≡ record w { messages = record w.messages { queue = rest; held = Some front } } → MetadataActsOn w v

  abbrev pub ActsOn : ActorInRun → DrivenStore → DrivenStore → Type 0
  ActsOn (ChannelActs channel) w v = ChannelActsOn w channel v
  ActsOn MetadataActs w v = MetadataActsOn (driven_at_turn w) v

  -- the step of an actor: it acts exactly where it can, and else nothing changes
  abbrev pub DriverStep : ActorInRun → DrivenStore → DrivenStore → Type 0
  DriverStep actor w v =
      ((can_move (run_of w) actor ≡ true) × ActsOn actor w v) ⊎ ((can_move (run_of w) actor ≡ false) × (v ≡ w))

  -- a run over a store that follows a schedule, and then makes rounds until all have ended
  abbrev pub StoreFollows : List ActorInRun → DrivenStore → DrivenStore → Type 0
  StoreFollows = following.Follows DriverStep has_all_ended
