-- A turn of the running job, and one that serves a message, is a move of the metadata thread that is due then.
use Rattle.std.proofs.Common.{◌≡◌, ◌≢◌, ℕ, ◌<◌, Bool, false, List, [], ◌∷◌, ◌++◌, Option, None, refl, sym, ap, ◌∙◌}
use Rattle.std.proofs.Common.{inl, inr, arith}
use Rattle.std.specs.Prelude.{map}
use Rattle.std.proofs.lemmas.Bool.{cases_lt}
use Rattle.super_block.specs.declared.page.Super.{Super}
use Rattle.volume_model.specs.Volumes.{Volumes}
use Rattle.volume_model.specs.declared.command.Command.{Command}
use Rattle.volume_model.specs.declared.command.Command.TheVariants as c
use Rattle.volume_model.specs.declared.reply.Msg.{Msg}
use Rattle.store_model.specs.Claiming.{fill, own, Works}
use Rattle.store_model.specs.RunInvariant.{RunInvariant}
use Rattle.store_model.specs.Rows.{fill_row}
use Rattle.store_model.specs.StoreState.{StoreState}
use Rattle.run_work.specs.JobMoves.{FailMove}
use Rattle.run_work.specs.Reading.{asks_metadata}
use Rattle.run_work.specs.RunState.{CommandInRun, RunSizes, RunState}
use Rattle.run_work.specs.ServingMoves.{TakesOut, the_message}
use Rattle.run_work.specs.Steps.{by_answer, by_begin_insert, by_begin_job, by_commit, by_drop, by_fail, by_insert}
use Rattle.run_work.specs.Steps.{by_lose_insert, by_page, by_replace, by_win, JobStep, kind_of, MessageStep, MoveKind}
use Rattle.run_work.specs.Steps.{OneMove}
use Rattle.run_moves.specs.DriverLaws.{IsOfChannels}
use Rattle.run_moves.specs.DriverSteps.{JobTurn, ServingTurn}
use Rattle.run_moves.specs.DriverSteps as turn
use Rattle.run_moves.specs.JobTurns.{IsJobMoveOf}
use Rattle.run_moves.specs.PlainRows.{BeginsWithWrite, HasPlainRows}
use Rattle.run_moves.specs.Projection.{command_in_run, run_state_of, RunMessages}
use Rattle.run_moves.specs.ServingTurns.{IsMeasured, ServesRow, with_taken}
use Rattle.run_moves.specs.Sizes.{sizes_of}
use Rattle.run_moves.proofs.Answering.{answers_so, AnswersSo, halts_so, lacks_memory_so, lacks_so, refuses_so}
use Rattle.run_moves.proofs.Beginning.{begins_insert_so, begins_so, loses_insert_so}
use Rattle.run_moves.proofs.JobTurning.{failing_turns, page_turns}
use Rattle.run_moves.proofs.Replacing.{replacing_turns}

-- a move of the metadata thread, which is due then
pub record MovesIn (z : RunSizes) (w v : RunState) (kind : MoveKind) : Type 0 where
  pub move : OneMove z w v
  pub due : kind_of z move ≡ kind

-- a row with a write first asks for nothing
write_first : (s : Super) (row : ℕ) (l : List Command) → BeginsWithWrite row l
    → asks_metadata (map (command_in_run s) l) ≡ false
write_first s row [] begins = refl
write_first s row (c.Write volume page word ∷ commands) begins = refl
write_first s row _ begins = absurd begins

none_behind : (made left : List Command) → made ++ left ≡ [] → left ≡ []
none_behind [] left is = is
none_behind (x ∷ xs) left is = absurd (cc is)

module _ (s : Super) (first : Volumes) (script : ℕ → List Command) (channels : IsOfChannels script) (p : StoreState)
    (has : RunInvariant s first script p) where
  -- ---- whose rows these are

  -- a row with a command is a channel's
  pub left_low : (row : ℕ) (command : CommandInRun) (commands : List CommandInRun)
      → map (command_in_run p.super) (p.rows row).left ≡ command ∷ commands → row < 16
  left_low row command commands left = elim (cases_lt row 16) [
    | inl low ↦ low
    | inr high ↦
        let way = has.way row in
        let none : (p.rows row).left ≡ [] =
        none_behind way.made (p.rows row).left (way.all ∙ channels row high) in
        let bad : [] ≡ command ∷ commands = sym (ap (map (command_in_run p.super)) none) ∙ left in
        absurd (cc bad)
  ]

  -- one with a claim, or in an insert, is a channel's or the metadata thread's own
  writing_low : (row : ℕ) (l : List Command) → (p.rows row).left ≡ l → BeginsWithWrite row l → row < 17
  writing_low row [] left begins = let is : row ≡ 16 = begins in omega (arith, is)
  writing_low row (command ∷ commands) left begins =
      let low = left_low row (command_in_run p.super command) (map (command_in_run p.super) commands)
      (ap (map (command_in_run p.super)) left) in
      omega (arith, low)

  works_low : (row : ℕ) → Works p row → row < 17
  works_low row (own volume page word rest left) =
      let low = left_low row (command_in_run p.super (c.Write volume page word)) (map (command_in_run p.super) rest)
      (ap (map (command_in_run p.super)) left) in
      omega (arith, low)
  works_low row (fill channel is filling) = let e : row ≡ 16 = is in omega (arith, e)

  pub measured : p.stopped ≡ None → IsMeasured p
  measured runs =
      let well = has.well runs in
      record { pages = well.pages.count; clusters = well.clusters.count; chains = well.chains }

  module _ (told : Bool) (q : StoreState) (d : RunMessages) where
    -- ---- a turn of the job

    abbrev JobMoves : Type 0
    JobMoves = MovesIn (sizes_of p.super) (run_state_of p d) (run_state_of q d) JobStep

    failed : (row : ℕ) → IsJobMoveOf p q d FailMove row → JobMoves
    failed row move = record {
      move = by_fail row (left_low row move.command move.commands move.left) move;
      due = refl;
    }

    module _ (later : RunInvariant s first script q) (plain : HasPlainRows p) where
      -- whichever it is
      pub job_moves : JobTurn told p q → JobMoves
      job_moves (turn.marks_dirty t) = record {
        move = by_page ((page_turns p q d).marks_dirty later.unfinished told t);
        due = refl;
      }
      job_moves (turn.zeroes t) = record {
        move = by_page ((page_turns p q d).zeroes later.unfinished told t);
        due = refl;
      }
      job_moves (turn.writes t) = record {
        move = by_page ((page_turns p q d).writes later.unfinished told t);
        due = refl;
      }
      job_moves (turn.commits t) =
          let move = (replacing_turns p q d).commits first (has.well t.running.runs)
          (later.well (ap (λ (v : StoreState). v.stopped) t.next ∙ t.running.runs)) told t in
          record {
            move = by_commit t.served.channel (left_low t.served.channel _ move.commands move.left) move;
            due = refl;
          }
      job_moves (turn.erases t) = record {
        move = by_page ((page_turns p q d).erases later.unfinished told t);
        due = refl;
      }
      job_moves (turn.frees t) = record { move = by_page ((page_turns p q d).frees told t); due = refl }
      job_moves (turn.fails t) = failed t.served.channel ((failing_turns p q d).fails t)
      job_moves (turn.breaks_off t) = record { move = by_drop ((failing_turns p q d).breaks_off t); due = refl }
      job_moves (turn.breaks_down t) = elim ((failing_turns p q d).breaks_down has.guarded t) [
        | inl x ↦ failed x.0 x.1
        | inr x ↦ record { move = by_drop x; due = refl }
      ]
      job_moves (turn.replaces_more t) = record {
        move = by_replace ((replacing_turns p q d).replaces_more first (has.well t.running.runs)
            (later.well (ap (λ (v : StoreState). v.stopped) t.next ∙ t.running.runs)) told t);
        due = refl;
      }
      job_moves (turn.more_fails t) = failed t.served.channel ((failing_turns p q d).more_fails t)
      job_moves (turn.more_breaks_off t) = record {
        move = by_drop ((failing_turns p q d).more_breaks_off t);
        due = refl;
      }
      job_moves (turn.inserts t) =
          let begins = (plain.inserting t.running.job t.inserting.row t.running.is t.inserting.serves).1 in
          record {
            move = by_insert t.inserting.row (writing_low t.inserting.row _ refl begins)
                ((replacing_turns p q d).inserts first (has.well t.running.runs)
                (later.well (ap (λ (v : StoreState). v.stopped) t.next ∙ t.running.runs)) told t
                (write_first p.super t.inserting.row _ begins));
            due = refl;
          }
      job_moves (turn.insert_ends t) =
          let begins = (plain.inserting t.running.job t.inserting.row t.running.is t.inserting.serves).1 in
          record {
            move = by_win t.inserting.row (writing_low t.inserting.row _ refl begins)
                ((replacing_turns p q d).insert_ends first (has.well t.running.runs) told t
                (write_first p.super t.inserting.row _ begins));
            due = refl;
          }
      job_moves (turn.insert_fails t apart) = failed t.inserting.row ((failing_turns p q d).insert_fails t apart)
      job_moves (turn.insert_breaks_down t apart) =
          failed t.inserting.row ((failing_turns p q d).insert_breaks_down has.guarded t apart)

    -- ---- a message that is served

    module _ (message : Msg) (low : message.channel < 16) (held : Option Msg) (waiting : List Msg)
        (takes : TakesOut (run_state_of p d) message held waiting) where
      -- it isn't the fill's
      apart : (row : ℕ) → row ≡ message.channel → row ≢ fill_row
      apart row is fills = let same = sym is ∙ fills in omega (arith, low, same)

      abbrev ServingMoves : Type 0
      ServingMoves = MovesIn (sizes_of p.super) (run_state_of p d) (run_state_of q (with_taken d held waiting))
          (MessageStep message)

      -- of the row of its channel
      abbrev serves : (row : ℕ) → row ≡ message.channel → ServesRow p q d held waiting row
      serves row is = the_message message (sym is) takes

      answered : (row : ℕ) (is : row ≡ message.channel) → AnswersSo p q d held waiting row (serves row is)
          → ServingMoves
      answered row is x = record {
        move = by_answer row (left_low row x.0.command x.0.commands x.0.left) x.0;
        due = x.1;
      }

      -- whichever turn serves it
      pub serving_moves : ServingTurn told p q message.channel → ServingMoves
      serving_moves (turn.answers t is) = answered t.posted.channel is
          (answers_so p q d held waiting t (serves t.posted.channel is))
      serving_moves (turn.refuses t is) = answered t.posted.channel is
          (refuses_so p q d held waiting t (serves t.posted.channel is))
      serving_moves (turn.begins t is) =
          let x = begins_so p q d held waiting (measured t.runs) t (serves t.posted.channel is) in
          record {
            move = by_begin_job t.posted.channel (left_low t.posted.channel _ x.0.commands x.0.left) x.0;
            due = x.1;
          }
      serving_moves (turn.loses_insert t is) =
          let x = loses_insert_so p q d held waiting t (serves t.posted.row is) in
          record { move = by_lose_insert t.posted.row (works_low t.posted.row t.posted.works) x.0; due = x.1 }
      serving_moves (turn.begins_insert t is) =
          let x = begins_insert_so p q d held waiting (measured t.runs) t (serves t.posted.row is) in
          record { move = by_begin_insert t.posted.row (works_low t.posted.row t.posted.works) x.0; due = x.1 }
      serving_moves (turn.lacks_for_insert t is) = answered t.posted.row is
          (lacks_so p q d held waiting t (apart t.posted.row is) (serves t.posted.row is))
      serving_moves (turn.lacks_memory_for_insert t is) = answered t.posted.row is
          (lacks_memory_so p q d held waiting t (apart t.posted.row is) (serves t.posted.row is))
      serving_moves (turn.halts serial t posted is) = answered t.channel is
          (halts_so p q d held waiting serial t posted (serves t.channel is))
