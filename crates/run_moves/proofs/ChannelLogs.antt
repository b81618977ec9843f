-- The turns of a channel that log its first command.
use Rattle.std.proofs.Common.{◌≡◌, ℕ, Bool, true, false, List, ◌∷◌, None, refl}
use Rattle.std.proofs.Common.{ap, ◌∙◌}
use Rattle.std.specs.Prelude.{map}
use Rattle.page_disk.specs.Disk.{Image}
use Rattle.volume_model.specs.declared.command.Command.{Command}
use Rattle.store_model.specs.Cases.CopyFail.{copy, flush, TriedCopy}
use Rattle.store_model.specs.Cases.Halt.{Halts, stage_after}
use Rattle.store_model.specs.Rows.{Claiming, Copying, Decided, Ended, Idle, InJob, OpenClaim, Posted, Ready, Row}
use Rattle.store_model.specs.Rows.{Stage, with_row}
use Rattle.store_model.specs.StoreState.{StoreState}
use Rattle.run_work.specs.ChannelMoves.{by_log, logs_itself}
use Rattle.run_moves.specs.ChannelTurns.{IsChannelMove, LoggingTurns}
use Rattle.run_moves.specs.Projection.{command_in_run, run_by, run_state_of, RunMessages, stage_in_run}
use Rattle.run_moves.proofs.Moved.{moved, row_twice}
use Rattle.run_moves.proofs.WorkLogged.{of_channel}

-- a row behind its entry
abbrev pub behind_entry : List Command → Row
behind_entry rest = record { left = rest; stage = Idle; claim = None }

module _ (p q : StoreState) (d : RunMessages) where
  -- what a turn that logs leaves of the run
  abbrev LeavesRun : ℕ → List Command → Image → (ℕ → Bool) → Type 0
  LeavesRun ch rest image frozen = run_state_of q d
      ≡ run_by p.super image p.base p.generations p.live (with_row p.rows ch (behind_entry rest)) p.job frozen d

  -- whatever it reads then, and whichever blobs are still frozen
  pub logs_move : (ch : ℕ) (command : Command) (rest : List Command) (stage : Stage) (image : Image) (frozen : ℕ → Bool)
      → (p.rows ch).left ≡ command ∷ rest → (p.rows ch).stage ≡ stage → logs_itself (stage_in_run stage) ≡ true
      → ((h : ℕ) → frozen h ≡ true → p.frozen h ≡ true) → LeavesRun ch rest image frozen → IsChannelMove p d ch q d
  logs_move ch command rest stage image frozen left at may fewer leaves = by_log (record {
    command = command_in_run p.super command;
    commands = map (command_in_run p.super) rest;
    left = ap (map (command_in_run p.super)) left;
    stage = ap (λ x. logs_itself (stage_in_run x)) at ∙ may;
    frozen = frozen;
    fewer = fewer;
    next = leaves ∙ moved p.super p.device.reads image p.base p.generations p.live p.rows p.job p.job p.frozen frozen
        d ch (behind_entry rest);
  })

  -- a row that waits
  idle_moves : (ch : ℕ) (command : Command) (rest : List Command) (image : Image) (frozen : ℕ → Bool)
      → p.rows ch ≡ record { left = command ∷ rest; stage = Idle; claim = None }
      → ((h : ℕ) → frozen h ≡ true → p.frozen h ≡ true) → LeavesRun ch rest image frozen → IsChannelMove p d ch q d
  idle_moves ch command rest image frozen row fewer leaves = logs_move ch command rest Idle image frozen
      (ap (λ (r : Row). r.left) row) (ap (λ (r : Row). r.stage) row) refl fewer leaves

  none_frozen : (h : ℕ) → false ≡ true → p.frozen h ≡ true
  none_frozen h bad = absurd (cc bad)

  -- a row that copies gives its claim back before
  copying_moves : (ch : ℕ) (command : Command) (rest : List Command) (first : Row) (stage : Stage) (image : Image)
      (frozen : ℕ → Bool) → (p.rows ch).left ≡ command ∷ rest → (p.rows ch).stage ≡ stage
      → logs_itself (stage_in_run stage) ≡ true → ((h : ℕ) → frozen h ≡ true → p.frozen h ≡ true)
      → run_state_of q d ≡ run_by p.super image p.base p.generations p.live
      (with_row (with_row p.rows ch first) ch (behind_entry rest)) p.job frozen d → IsChannelMove p d ch q d
  copying_moves ch command rest first stage image frozen left at may fewer leaves =
      logs_move ch command rest stage image frozen left at may fewer
      (leaves ∙ ap (λ r. run_by p.super image p.base p.generations p.live r p.job frozen d)
      (row_twice p.rows ch first (behind_entry rest)))

  tried_itself : (claim : OpenClaim) (stage : Stage) → TriedCopy p claim stage → logs_itself (stage_in_run stage) ≡ true
  tried_itself claim stage (copy left page content at current next) = rw at refl
  tried_itself claim stage (flush at) = rw at refl

  idle_after : (stage : Stage) → logs_itself (stage_in_run stage) ≡ true → stage_after stage ≡ Idle
  idle_after Idle may = refl
  idle_after Claiming may = refl
  idle_after (Copying left) may = refl
  idle_after Ready may = refl
  idle_after (Posted serial) may = absurd (cc may)
  idle_after InJob may = absurd (cc may)
  idle_after (Decided outcome) may = absurd (cc may)
  idle_after Ended may = absurd (cc may)

  halts_move : (t : Halts p q) → logs_itself (stage_in_run t.stage) ≡ true → IsChannelMove p d t.channel q d
  halts_move t may = logs_move t.channel t.command t.rest t.stage p.device.reads p.frozen
      (ap (λ (r : Row). r.left) t.row) (ap (λ (r : Row). r.stage) t.row) may (λ h is. is)
      (ap (λ v. run_state_of v d) t.next ∙ ap (λ x. run_by p.super p.device.reads p.base p.generations p.live
      (with_row p.rows t.channel (record { left = t.rest; stage = x; claim = None })) p.job p.frozen d)
      (idle_after t.stage may))

  -- all of them
  pub logging_turns : LoggingTurns p q d
  logging_turns = record {
    flush = λ t. idle_moves t.channel _ t.rest t.device.reads p.frozen t.row (λ h is. is)
        (ap (λ v. run_state_of v d) t.next);
    flush_fails = λ t. idle_moves t.channel _ t.rest t.device.reads (λ h. false) t.row none_frozen
        (ap (λ v. run_state_of v d) t.next);
    reads = λ t. idle_moves t.channel _ t.rest t.device.reads p.frozen t.row (λ h is. is)
        (ap (λ v. run_state_of v d) t.next);
    refuses_write = λ t. idle_moves t.channel _ t.rest p.device.reads p.frozen t.row (λ h is. is)
        (ap (λ v. run_state_of v d) t.next);
    writes_page = λ told t. idle_moves t.at.channel _ t.at.rest t.device.reads p.frozen t.at.row (λ h is. is)
        (ap (λ v. run_state_of v d) t.next);
    fails_to_write = λ t. idle_moves t.at.channel _ t.at.rest t.device.reads (λ h. false) t.at.row none_frozen
        (ap (λ v. run_state_of v d) t.next);
    refuses_claim = λ t. logs_move t.write.channel _ t.write.rest _ p.device.reads p.frozen
        (ap (λ (r : Row). r.left) t.write.row) (ap (λ (r : Row). r.stage) t.write.row) refl (λ h is. is)
        (ap (λ v. run_state_of v d) t.next);
    copy_not_read = λ t apart.
        let logs = of_channel p q t.copying.row _ _ t.device t.logs apart in
        copying_moves t.copying.row _ logs.rest _ _ t.device.reads p.frozen logs.left
        (ap (λ (r : Row). r.stage) t.copying.is) refl (λ h is. is) (ap (λ v. run_state_of v d) logs.next);
    copy_fails = λ t apart.
        let logs = of_channel _ q t.copying.row _ _ t.device t.logs apart in
        copying_moves t.copying.row _ logs.rest _ t.stage t.device.reads (λ h. false) logs.left
        (ap (λ (r : Row). r.stage) t.copying.is) (tried_itself t.copying.claim t.stage t.tried) none_frozen
        (ap (λ v. run_state_of v d) logs.next);
    halts = halts_move;
  }
