-- Each turn with which a fill ends is a move of the metadata thread: its command is logged, or its last job begins.
use Rattle.std.proofs.Common.{◌≡◌, ◌≢◌, ◌⊎◌, ℕ, ◌<◌, Bool, true, false, List, [], ◌∷◌, Option, Some, None, refl, sym}
use Rattle.std.proofs.Common.{ap, ◌∙◌, subst, inl, inr}
use Rattle.std.specs.Prelude.{map}
use Rattle.std.specs.Option.{option_map}
use Rattle.std.proofs.Math.Path.{fun_ext}
use Rattle.std.proofs.lemmas.Bool.{cases_eq, eq-eqb, ne_eqb}
use Rattle.page_disk.specs.Disk.{Image}
use Rattle.volume_model.specs.Steps.{change}
use Rattle.volume_model.specs.Xattrs.{Xattrs}
use Rattle.volume_model.specs.declared.command.Command.{Command}
use Rattle.volume_model.specs.declared.reply.Msg.{Msg}
use Rattle.store_model.specs.Cases.Halt.{stage_after}
use Rattle.store_model.specs.Cases.LackForInsert.{LacksForInsert}
use Rattle.store_model.specs.Cases.LackMemoryForInsert.{LacksMemoryForInsert}
use Rattle.store_model.specs.Filling.{FillStands, unused_row}
use Rattle.store_model.specs.Guarding.{IsGuarded}
use Rattle.store_model.specs.Maps.{Map}
use Rattle.store_model.specs.Rows.{Answered, Claiming, Copying, Decided, Ended, fill_row, Idle, InJob, Posted, Ready}
use Rattle.store_model.specs.Rows.{Row, Rows, Stage, with_row}
use Rattle.store_model.specs.Shown.{fixed_of}
use Rattle.store_model.specs.StoreState.{ForInsert, JobState, live_of, shown, StoreState, waiting}
use Rattle.store_model.specs.Turning.{stopped_now}
use Rattle.run_work.specs.Reading.{logged_row, with_row_in_run, is_in_use}
use Rattle.run_work.specs.RunState.{AtDecided, AtIdle, RowsInRun}
use Rattle.run_work.specs.ServingMoves.{EndsFillIn, for_filled, in_fill, in_insert, the_filled, the_taken_over}
use Rattle.run_work.specs.ServingMoves.{WorksFor}
use Rattle.run_work.specs.Steps.{by_begin_job, by_log_fill, end_step, FillStep, JobStep, MoveKind}
use Rattle.run_moves.specs.FillTurns as turn
use Rattle.run_moves.specs.FillTurns.{FailedFill, FillEnd, held_beside, HoldsFill, worked_for}
use Rattle.run_moves.specs.Projection.{command_in_run, heads_found, job_in_run, row_in_run, rows_in_run, run_by}
use Rattle.run_moves.specs.Projection.{run_state_of, RunMessages, stage_in_run}
use Rattle.run_moves.specs.ServingTurns.{IsMeasured}
use Rattle.run_moves.specs.Sizes.{sizes_of}
use Rattle.run_moves.proofs.Beginning.{begins_for}
use Rattle.run_moves.proofs.MetadataSteps.{MovesIn}
use Rattle.run_moves.proofs.Moved.{decided_row, rows_moved}
use Rattle.run_moves.proofs.WorkLogged.{of_fill}

-- two rows change, in either order
rows_swapped : (rows : RowsInRun) (ch other : ℕ) → ch ≢ other → (x y : _)
    → with_row_in_run (with_row_in_run rows other y) ch x ≡ with_row_in_run (with_row_in_run rows ch x) other y
rows_swapped rows ch other apart x y = fun_ext (λ k. elim (cases_eq k other) [
  | inl e ↦ rw (eq-eqb k other e, ne_eqb k ch (λ same. apart (sym same ∙ e))) refl
  | inr ne ↦ rw (ne_eqb k other ne) refl
])

-- behind a turn that logs it the fill's row waits or is decided
own_after : (stage : Stage) → (stage_in_run (stage_after stage) ≡ AtIdle)
    ⊎ (stage_in_run (stage_after stage) ≡ AtDecided)
own_after Idle = inl refl
own_after Claiming = inl refl
own_after (Copying left) = inl refl
own_after Ready = inl refl
own_after (Posted serial) = inr refl
own_after InJob = inl refl
own_after (Decided outcome) = inl refl
own_after Ended = inl refl

-- the message of the command that the own row works for, as the run has it
pub worked_message : (p : StoreState) (d : RunMessages) (message : Msg) (held : Option Msg)
    → WorksFor (run_state_of p d) message held → worked_for d.fill d.held ≡ Some message
worked_message p d message held (the_filled fills same) = ap (λ o. worked_for o d.held) fills
worked_message p d message held (the_taken_over none was gone) = ap (λ o. worked_for o d.held) none ∙ was

-- and as the driver has it
pub works_by : (p : StoreState) (d : RunMessages) (message : Msg) → worked_for d.fill d.held ≡ Some message
    → WorksFor (run_state_of p d) message (held_beside d.fill d.held)
works_by p d message is = go d.fill refl
  where
    go : (o : Option Msg) → d.fill ≡ o → WorksFor (run_state_of p d) message (held_beside d.fill d.held)
    go None none = the_taken_over none (sym (ap (λ o. worked_for o d.held) none) ∙ is)
        (ap (λ o. held_beside o d.held) none)
    go (Some x) fills = the_filled (fills ∙ (sym (ap (λ o. worked_for o d.held) fills) ∙ is))
        (ap (λ o. held_beside o d.held) fills)

module _ (p q : StoreState) (d : RunMessages) (stands : FillStands p) (message : Msg) (held : Option Msg)
    (works : WorksFor (run_state_of p d) message held) (low : message.channel < 16) (holds : HoldsFill p d) where
  abbrev e : RunMessages
  e = record d { held = held; fill = None }

  -- it moves so, and there is no fill any more
  abbrev EndsIn : MoveKind → Type 0
  EndsIn kind = MovesIn (sizes_of p.super) (run_state_of p d) (run_state_of q e) kind

  -- the rows behind it: the own one at this stage, and that of the command decided
  abbrev rows_behind : ℕ → Stage → ℕ → List Command → Rows
  rows_behind row stage ch rest = with_row
      (with_row p.rows row (record { left = (p.rows row).left; stage = stage; claim = None })) ch (decided_row rest)

  own_seen : (stage : Stage)
      → row_in_run p.super (record { left = (p.rows fill_row).left; stage = stage; claim = None })
      ≡ logged_row [] (stage_in_run stage)
  own_seen stage = ap (λ l. logged_row (map (command_in_run p.super) l) (stage_in_run stage)) stands.left

  rows_seen : (ch : ℕ) (rest : List Command) (stage : Stage) → ch ≢ fill_row
      → rows_in_run p.super (rows_behind fill_row stage ch rest)
      ≡ with_row_in_run (with_row_in_run (rows_in_run p.super p.rows) ch
      (logged_row (map (command_in_run p.super) rest) AtDecided)) fill_row (logged_row [] (stage_in_run stage))
  rows_seen ch rest stage apart =
      rows_moved p.super _ ch (decided_row rest)
      ∙ ap (λ r. with_row_in_run r ch (logged_row (map (command_in_run p.super) rest) AtDecided))
      (rows_moved p.super p.rows fill_row _
      ∙ ap (with_row_in_run (rows_in_run p.super p.rows) fill_row) (own_seen stage))
      ∙ rows_swapped (rows_in_run p.super p.rows) ch fill_row apart _ _

  -- the row of a command isn't the fill's
  apart_from : (ch : ℕ) (command : Command) (rest : List Command) → (p.rows ch).left ≡ command ∷ rest → ch ≢ fill_row
  apart_from ch command rest left is =
      let bad : command ∷ rest ≡ [] = sym left ∙ ap (λ k. (p.rows k).left) is ∙ stands.left in cc bad

  module _ (ch : ℕ) (command : Command) (rest : List Command) (serial : ℕ) (left : (p.rows ch).left ≡ command ∷ rest)
      (at : (p.rows ch).stage ≡ Posted serial) (own : message.channel ≡ ch) where
    logs_fill : (stage : Stage) (live : Map Xattrs) (image : Image) (job : Option JobState) (frozen : ℕ → Bool)
        → (stage_in_run stage ≡ AtIdle) ⊎ (stage_in_run stage ≡ AtDecided)
        → (ends : EndsFillIn (run_state_of p d) (option_map job_in_run job) frozen)
        → run_state_of q e
        ≡ run_by p.super image p.base p.generations live (rows_behind fill_row stage ch rest) job frozen e
        → EndsIn (end_step ends)
    logs_fill stage live image job frozen may ends leaves = record {
      due = refl;
      move = by_log_fill ch (subst (λ n. n < 16) own low) (record {
        command = command_in_run p.super command;
        commands = map (command_in_run p.super) rest;
        message = message;
        held = held;
        works = works;
        channel = own;
        left = ap (map (command_in_run p.super)) left;
        serial = serial;
        stage = ap stage_in_run at;
        own = stage_in_run stage;
        own_is = may;
        none_left = ap (map (command_in_run p.super)) stands.left;
        job = option_map job_in_run job;
        frozen = frozen;
        ends = ends;
        finds = heads_found p.super image p.base live;
        next = leaves
            ∙ ap (λ r. record (run_by p.super image p.base p.generations live p.rows job frozen e) { rows = r })
            (rows_seen ch rest stage (apart_from ch command rest left));
      });
    }

  -- where it isn't used the own row is as it was
  same_unused : p.rows fill_row ≡ unused_row
      → p.rows ≡ with_row p.rows fill_row (record { left = (p.rows fill_row).left; stage = Idle; claim = None })
  same_unused unused = fun_ext (λ k. elim (cases_eq k fill_row) [
    | inl e ↦ ap p.rows e ∙ unused
        ∙ sym (ap (λ l. record { left = l; stage = Idle; claim = None }) stands.left)
        ∙ sym (rw (eq-eqb k fill_row e) refl)
    | inr ne ↦ sym (rw (ne_eqb k fill_row ne) refl)
  ])

  -- what the fill's row works for is that command
  is_worked_for : (ch : ℕ) → p.filling ≡ Some ch → message.channel ≡ ch
  is_worked_for ch filling =
      let x = holds ch filling in
      let both : Some message ≡ Some x.0 = sym (worked_message p d message held works) ∙ x.1 in
      let same : message ≡ x.0 = cc both in
      ap (λ (m : Msg). m.channel) same ∙ x.2

  -- a row that has none of its own gives its claim back
  given_up : (row ch : ℕ) → row ≡ fill_row → (command : Command) (rest : List Command) (serial : ℕ)
      → p.rows ch ≡ record { left = command ∷ rest; stage = Posted serial; claim = None } → p.filling ≡ Some ch
      → (stage : Stage) (image : Image) (job : Option JobState) (frozen : ℕ → Bool)
      → (stage_in_run stage ≡ AtIdle) ⊎ (stage_in_run stage ≡ AtDecided)
      → (ends : EndsFillIn (run_state_of p d) (option_map job_in_run job) frozen)
      → run_state_of q e
      ≡ run_by p.super image p.base p.generations p.live (rows_behind row stage ch rest) job frozen e
      → EndsIn (end_step ends)
  given_up row ch is command rest serial posted filling stage image job frozen may ends leaves =
      logs_fill ch command rest serial (ap (λ (r : Row). r.left) posted) (ap (λ (r : Row). r.stage) posted)
      (is_worked_for ch filling) stage p.live image job frozen may ends
      (leaves ∙ ap (λ r. run_by p.super image p.base p.generations p.live (rows_behind r stage ch rest) job frozen e)
      is)

  none_left : (row : ℕ) → row ≡ fill_row → (p.rows row).left ≡ []
  none_left row is = ap (λ k. (p.rows k).left) is ∙ stands.left

  -- ---- in a turn of the fill

  module _ (no_job : (run_state_of p d).job ≡ None) where
    abbrev still : (frozen : ℕ → Bool) → ((h : ℕ) → frozen h ≡ true → p.frozen h ≡ true)
        → EndsFillIn (run_state_of p d) (option_map job_in_run p.job) frozen
    still frozen fewer = in_fill no_job no_job fewer

    -- while the own row isn't used
    unused_ends : (ch : ℕ) (command : Command) (rest : List Command) (serial : ℕ) (live : Map Xattrs)
        → p.rows fill_row ≡ unused_row → (p.rows ch).left ≡ command ∷ rest → (p.rows ch).stage ≡ Posted serial
        → message.channel ≡ ch
        → run_state_of q e ≡ run_by p.super p.device.reads p.base p.generations live
        (with_row p.rows ch (decided_row rest)) p.job p.frozen e → EndsIn FillStep
    unused_ends ch command rest serial live unused left at own leaves =
        logs_fill ch command rest serial left at own Idle live p.device.reads p.job p.frozen (inl refl)
        (still p.frozen (λ h is. is))
        (leaves ∙ ap (λ r. run_by p.super p.device.reads p.base p.generations live (with_row r ch (decided_row rest))
        p.job p.frozen e) (same_unused unused))

    lacks_insert : (t : LacksForInsert p q) → t.posted.row ≡ fill_row → EndsIn FillStep
    lacks_insert t is =
        let logs = of_fill p q t.posted.row _ _ p.device t.logs (none_left t.posted.row is) in
        given_up t.posted.row logs.posted.channel is logs.posted.command logs.posted.rest logs.posted.serial
        logs.posted.row logs.works (Decided Answered) p.device.reads p.job p.frozen (inr refl)
        (still p.frozen (λ h is. is)) (ap (λ v. run_state_of v e) logs.next)

    lacks_memory : (t : LacksMemoryForInsert p q) → t.posted.row ≡ fill_row → EndsIn FillStep
    lacks_memory t is =
        let logs = of_fill p q t.posted.row _ _ p.device t.logs (none_left t.posted.row is) in
        given_up t.posted.row logs.posted.channel is logs.posted.command logs.posted.rest logs.posted.serial
        logs.posted.row logs.works (Decided Answered) p.device.reads p.job p.frozen (inr refl)
        (still p.frozen (λ h is. is)) (ap (λ v. run_state_of v e) logs.next)

    pub ending_moves : (told : Bool) → d.fill ≡ Some message → held ≡ d.held → (p.stopped ≡ None → IsMeasured p)
        → FillEnd told p q message.channel → EndsIn FillStep
    ending_moves told fill same measured (turn.begins t is unused) =
        let x = begins_for p q d d.held d.waiting (measured t.runs) t None
        (for_filled message fill (sym is) (ap (λ (r : Row). is_in_use (stage_in_run r.stage)) unused) refl refl refl) in
        subst (λ o. MovesIn (sizes_of p.super) (run_state_of p d) (run_state_of q (record d { held = o; fill = None }))
        FillStep) (sym same)
        (record { move = by_begin_job t.posted.channel (subst (λ n. n < 16) (sym is) low) x.0; due = x.1 })
    ending_moves told fill same measured (turn.answers t is unused) =
        unused_ends t.posted.channel t.posted.command t.posted.rest t.posted.serial
        (live_of (change (fixed_of p.super) (shown p) t.posted.command t.reply)) unused
        (ap (λ (r : Row). r.left) t.posted.row) (ap (λ (r : Row). r.stage) t.posted.row) (sym is)
        (ap (λ v. run_state_of v e) t.next)
    ending_moves told fill same measured (turn.refuses t is unused) =
        unused_ends t.posted.channel t.posted.command t.posted.rest t.posted.serial p.live unused
        (ap (λ (r : Row). r.left) t.posted.row) (ap (λ (r : Row). r.stage) t.posted.row) (sym is)
        (ap (λ v. run_state_of v e) t.next)
    ending_moves told fill same measured (turn.halts serial t posted is unused) =
        unused_ends t.channel t.command t.rest serial p.live unused
        (ap (λ (r : Row). r.left) t.row) (ap (λ (r : Row). r.stage) t.row ∙ posted) (sym is)
        (ap (λ v. run_state_of v e) t.next ∙ ap (λ x. run_by p.super p.device.reads p.base p.generations p.live
        (with_row p.rows t.channel (record { left = t.rest; stage = stage_after x; claim = None })) p.job p.frozen e)
        posted)
    ending_moves told fill same measured (turn.lacks_for_fill t is) =
        let posted = t.fill.posted in
        unused_ends posted.channel posted.command posted.rest posted.serial p.live t.fill.unused
        (ap (λ (r : Row). r.left) posted.row) (ap (λ (r : Row). r.stage) posted.row) (sym is)
        (ap (λ v. run_state_of v e) t.next)
    ending_moves told fill same measured (turn.halts_fill t is) =
        logs_fill t.posted.channel t.posted.command t.posted.rest t.posted.serial
        (ap (λ (r : Row). r.left) t.posted.row) (ap (λ (r : Row). r.stage) t.posted.row) (sym is)
        (stage_after (p.rows fill_row).stage) p.live p.device.reads p.job p.frozen (own_after (p.rows fill_row).stage)
        (still p.frozen (λ h is. is)) (ap (λ v. run_state_of v e) t.next)
    ending_moves told fill same measured (turn.copy_not_read t is) =
        let logs = of_fill p q t.copying.row _ _ t.device t.logs (none_left t.copying.row is) in
        given_up t.copying.row logs.posted.channel is logs.posted.command logs.posted.rest logs.posted.serial
        logs.posted.row logs.works Idle t.device.reads p.job p.frozen (inl refl) (still p.frozen (λ h is. is))
        (ap (λ v. run_state_of v e) logs.next)
    ending_moves told fill same measured (turn.copy_fails t is) =
        let logs = of_fill (stopped_now p) q t.copying.row _ _ t.device t.logs (none_left t.copying.row is) in
        given_up t.copying.row logs.posted.channel is logs.posted.command logs.posted.rest logs.posted.serial
        logs.posted.row logs.works Idle t.device.reads p.job (λ h. false) (inl refl)
        (still (λ h. false) (λ h bad. absurd (cc bad))) (ap (λ v. run_state_of v e) logs.next)
    ending_moves told fill same measured (turn.lacks_for_insert t is) = lacks_insert t is
    ending_moves told fill same measured (turn.lacks_memory_for_insert t is) = lacks_memory t is

  -- ---- in the job of its insert

  failed_job : (job : JobState) (row ch : ℕ) → p.job ≡ Some job → job.serves ≡ ForInsert row → row ≡ fill_row
      → (command : Command) (rest : List Command) (serial : ℕ)
      → p.rows ch ≡ record { left = command ∷ rest; stage = Posted serial; claim = None } → p.filling ≡ Some ch
      → (image : Image) (frozen : ℕ → Bool) → ((h : ℕ) → frozen h ≡ false)
      → run_state_of q e ≡ run_by p.super image p.base p.generations p.live
      (rows_behind row (Decided Answered) ch rest) None frozen e → EndsIn JobStep
  failed_job job row ch runs serves is command rest serial posted filling image frozen thaws leaves =
      given_up row ch is command rest serial posted filling (Decided Answered) image None frozen (inr refl)
      (in_insert (
        job_in_run job,
        ap (option_map job_in_run) runs,
        ap (λ s. waiting s job.todo) serves ∙ ap (λ (n : ℕ). Some n) is,
      ) refl thaws) leaves

  pub failing_moves : IsGuarded p → FailedFill p q → EndsIn JobStep
  failing_moves guarded (turn.insert_fails t is) =
      let logs = of_fill (record (stopped_now p) { job = None }) q t.inserting.row _ _ t.device t.logs
      (none_left t.inserting.row is) in
      failed_job t.running.job t.inserting.row logs.posted.channel t.running.is t.inserting.serves is
      logs.posted.command logs.posted.rest logs.posted.serial logs.posted.row logs.works t.device.reads (λ h. false)
      (λ h. refl) (ap (λ v. run_state_of v e) logs.next)
  failing_moves guarded (turn.insert_breaks_down t is) =
      let logs = of_fill (record p { job = None }) q t.inserting.row _ _ p.device t.logs
      (none_left t.inserting.row is) in
      failed_job t.job t.inserting.row logs.posted.channel t.is t.inserting.serves is
      logs.posted.command logs.posted.rest logs.posted.serial logs.posted.row logs.works p.device.reads p.frozen
      (guarded.stopped t.at t.stands) (ap (λ v. run_state_of v e) logs.next)
