-- The turns of the metadata thread that log the command of a message.
use Rattle.std.proofs.Common.{◌≡◌, ◌≢◌, ℕ, List, ◌∷◌}
use Rattle.std.proofs.Common.{Option, None, refl, ap, ◌∙◌}
use Rattle.std.specs.Prelude.{map}
use Rattle.page_disk.specs.Disk.{Image}
use Rattle.volume_model.specs.Steps.{change}
use Rattle.volume_model.specs.Xattrs.{Xattrs}
use Rattle.volume_model.specs.declared.command.Command.{Command}
use Rattle.volume_model.specs.declared.reply.Msg.{Msg}
use Rattle.store_model.specs.Cases.Answer.{Answers}
use Rattle.store_model.specs.Cases.Halt.{Halts, stage_after}
use Rattle.store_model.specs.Cases.LackForInsert.{LacksForInsert}
use Rattle.store_model.specs.Cases.LackMemoryForInsert.{LacksMemoryForInsert}
use Rattle.store_model.specs.Cases.Refuse.{Refuses}
use Rattle.store_model.specs.Maps.{Map}
use Rattle.store_model.specs.Rows.{fill_row, Posted, Row, with_row}
use Rattle.store_model.specs.Shown.{fixed_of}
use Rattle.store_model.specs.StoreState.{live_of, shown, StoreState}
use Rattle.run_work.specs.Steps.{served_step}
use Rattle.run_moves.specs.Projection.{command_in_run, heads_found}
use Rattle.run_moves.specs.Projection.{run_by, run_state_of, RunMessages, stage_in_run}
use Rattle.run_moves.specs.ServingTurns.{AnsweringTurns, IsAnswer, ServesRow, with_taken}
use Rattle.run_moves.proofs.Moved.{decided_row, row_twice, rows_moved}
use Rattle.run_moves.proofs.WorkLogged.{of_channel}

module _ (p q : StoreState) (d : RunMessages) (held : Option Msg) (waiting : List Msg) where
  abbrev e : RunMessages
  e = with_taken d held waiting

  -- an answer that serves its row in this step
  abbrev pub AnswersSo : (ch : ℕ) → ServesRow p q d held waiting ch → Type 0
  AnswersSo ch serves = (move : IsAnswer p q d held waiting ch)
      × (served_step move.serves ≡ served_step serves)

  answer_moves : (ch : ℕ) (command : Command) (rest : List Command) (serial : ℕ) (live : Map Xattrs) (image : Image)
      → (p.rows ch).left ≡ command ∷ rest → (p.rows ch).stage ≡ Posted serial
      → (serves : ServesRow p q d held waiting ch)
      → run_state_of q e
      ≡ run_by p.super image p.base p.generations live (with_row p.rows ch (decided_row rest)) p.job p.frozen e
      → AnswersSo ch serves
  answer_moves ch command rest serial live image left at serves leaves = (
    record {
      command = command_in_run p.super command;
      commands = map (command_in_run p.super) rest;
      left = ap (map (command_in_run p.super)) left;
      serial = serial;
      stage = ap stage_in_run at;
      finds = heads_found p.super image p.base live;
      held = held;
      waiting = waiting;
      serves = serves;
      next = leaves
          ∙ ap (λ r. record (run_by p.super image p.base p.generations live p.rows p.job p.frozen e) { rows = r })
          (rows_moved p.super p.rows ch (decided_row rest));
    },
    refl,
  )

  -- an insert gives its claim back before
  insert_answer_moves : (ch : ℕ) (command : Command) (rest : List Command) (serial : ℕ) (first : Row)
      → (p.rows ch).left ≡ command ∷ rest → (p.rows ch).stage ≡ Posted serial
      → (serves : ServesRow p q d held waiting ch)
      → run_state_of q e ≡ run_by p.super p.device.reads p.base p.generations p.live
      (with_row (with_row p.rows ch first) ch (decided_row rest)) p.job p.frozen e
      → AnswersSo ch serves
  insert_answer_moves ch command rest serial first left at serves leaves =
      answer_moves ch command rest serial p.live p.device.reads left at serves
      (leaves ∙ ap (λ r. run_by p.super p.device.reads p.base p.generations p.live r p.job p.frozen e)
      (row_twice p.rows ch first (decided_row rest)))

  -- a command of a message is answered
  pub answers_so : (t : Answers p q) (serves : ServesRow p q d held waiting t.posted.channel)
      → AnswersSo t.posted.channel serves
  answers_so t serves = answer_moves t.posted.channel t.posted.command t.posted.rest t.posted.serial
      (live_of (change (fixed_of p.super) (shown p) t.posted.command t.reply)) p.device.reads
      (ap (λ (r : Row). r.left) t.posted.row) (ap (λ (r : Row). r.stage) t.posted.row) serves
      (ap (λ v. run_state_of v e) t.next)

  -- or refused
  pub refuses_so : (t : Refuses p q) (serves : ServesRow p q d held waiting t.posted.channel)
      → AnswersSo t.posted.channel serves
  refuses_so t serves = answer_moves t.posted.channel t.posted.command t.posted.rest t.posted.serial p.live
      p.device.reads (ap (λ (r : Row). r.left) t.posted.row) (ap (λ (r : Row). r.stage) t.posted.row) serves
      (ap (λ v. run_state_of v e) t.next)

  -- an insert lacks pages
  pub lacks_so : (t : LacksForInsert p q) → t.posted.row ≢ fill_row
      → (serves : ServesRow p q d held waiting t.posted.row) → AnswersSo t.posted.row serves
  lacks_so t apart serves =
      let logs = of_channel p q t.posted.row _ _ p.device t.logs apart in
      insert_answer_moves t.posted.row _ logs.rest t.serial _ logs.left
      (ap (λ (r : Row). r.stage) t.posted.is) serves (ap (λ v. run_state_of v e) logs.next)

  -- or memory
  pub lacks_memory_so : (t : LacksMemoryForInsert p q) → t.posted.row ≢ fill_row
      → (serves : ServesRow p q d held waiting t.posted.row) → AnswersSo t.posted.row serves
  lacks_memory_so t apart serves =
      let logs = of_channel p q t.posted.row _ _ p.device t.logs apart in
      insert_answer_moves t.posted.row _ logs.rest t.serial _ logs.left
      (ap (λ (r : Row). r.stage) t.posted.is) serves (ap (λ v. run_state_of v e) logs.next)

  -- the store has stopped
  pub halts_so : (serial : ℕ) (t : Halts p q) → t.stage ≡ Posted serial
      → (serves : ServesRow p q d held waiting t.channel) → AnswersSo t.channel serves
  halts_so serial t posted serves =
      answer_moves t.channel t.command t.rest serial p.live p.device.reads (ap (λ (r : Row). r.left) t.row)
      (ap (λ (r : Row). r.stage) t.row ∙ posted) serves
      (ap (λ v. run_state_of v e) t.next ∙ ap (λ x. run_by p.super p.device.reads p.base p.generations p.live
      (with_row p.rows t.channel (record {
        left = t.rest;
        stage = stage_after x;
        claim = None;
      })) p.job p.frozen e) posted)

  -- all of them
  pub answering_turns : AnsweringTurns p q d held waiting
  answering_turns = record {
    answers = λ t serves. (answers_so t serves).0;
    refuses = λ t serves. (refuses_so t serves).0;
    lacks_for_insert = λ t apart serves. (lacks_so t apart serves).0;
    lacks_memory_for_insert = λ t apart serves. (lacks_memory_so t apart serves).0;
    halts = λ serial t posted serves. (halts_so serial t posted serves).0;
  }
