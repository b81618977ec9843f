-- A driver can start on a store, at whatever stages its rows are.
use Rattle.std.proofs.Common.{◌≡◌, ℕ, ◌<◌, true, List, Option, Some, None, refl, sym, ap, ◌∙◌, subst}
use Rattle.std.specs.Prelude.{◌&&◌, if◌then◌else◌, map, nat_lt, not}
use Rattle.std.specs.Option.{option_and_then, option_map}
use Rattle.std.proofs.Math.Path.{fun_ext}
use Rattle.super_block.specs.declared.page.Super.{Super}
use Rattle.volume_model.specs.Volumes.{Volumes}
use Rattle.volume_model.specs.declared.command.Command.{Command}
use Rattle.volume_model.specs.declared.reply.Msg.{Msg}
use Rattle.store_model.specs.Filling.{FillStands}
use Rattle.store_model.specs.RunInvariant.{RunInvariant}
use Rattle.store_model.specs.Rows.{Claiming, Copying, Decided, Ended, Idle, InJob, Posted, Ready, Row, Stage}
use Rattle.store_model.specs.StoreState.{StoreState}
use Rattle.run_work.specs.RunFacts.{at_start, comes_from, RunFacts, serial_posted}
use Rattle.run_work.specs.RunLaws.{FactLaws}
use Rattle.run_work.specs.RunState.{AtInJob, AtPosted, JobInRun, RunState}
use Rattle.run_work.specs.ServingMoves.{WaitsInJob}
use Rattle.run_moves.specs.DrivenStore.{driven_at_start, message_filled_for, run_of, serial_in}
use Rattle.run_moves.specs.DriverLaws.{IsOfChannels}
use Rattle.run_moves.specs.FillTurns.{HoldsFill}
use Rattle.run_moves.specs.Projection.{command_in_run, job_in_run, stage_in_run}
use Rattle.run_moves.proofs.MetadataSteps.{left_low}

serial_seen : (stage : Stage) → serial_in stage ≡ serial_posted (stage_in_run stage)
serial_seen Idle = refl
serial_seen Claiming = refl
serial_seen (Copying left) = refl
serial_seen Ready = refl
serial_seen (Posted serial) = refl
serial_seen InJob = refl
serial_seen (Decided outcome) = refl
serial_seen Ended = refl

in_job_seen : (stage : Stage) → stage_in_run stage ≡ AtInJob → stage ≡ InJob
in_job_seen InJob is = refl
in_job_seen Idle is = absurd (cc is)
in_job_seen Claiming is = absurd (cc is)
in_job_seen (Copying left) is = absurd (cc is)
in_job_seen Ready is = absurd (cc is)
in_job_seen (Posted serial) is = absurd (cc is)
in_job_seen (Decided outcome) is = absurd (cc is)
in_job_seen Ended is = absurd (cc is)

module _ (p : StoreState) where
  abbrev w : RunState
  w = run_of (driven_at_start p)

  abbrev held : Option Msg
  held = message_filled_for p

  -- a driver begins on a store as a run does
  start_is : at_start w held ≡ w
  start_is = ap (λ unsent. record w { unsent = unsent }) (fun_ext (λ k.
      ap (λ o. if nat_lt k 16 && not (comes_from k held) then o else None) (sym (serial_seen (p.rows k).stage))))

  -- the message of the command that the fill's row works for is the one under which that command's row is posted
  filled_for : (channel : ℕ) (serial : ℕ) → p.filling ≡ Some channel → (p.rows channel).stage ≡ Posted serial
      → held ≡ Some (record { channel = channel; serial = serial })
  filled_for channel serial works at =
      ap (λ o. option_and_then (λ k. option_map (λ n. record { channel = k; serial = n }) (serial_in (p.rows k).stage))
      o)
      works
      ∙ ap (λ x. option_map (λ n. record { channel = channel; serial = n }) (serial_in x)) at

-- a driver that begins has it
pub starts_with_fill : (p : StoreState) → FillStands p → HoldsFill p (driven_at_start p).messages
starts_with_fill p stands channel works =
    let x = stands.filled channel works in (
      record { channel = channel; serial = x.serial },
      filled_for p channel x.serial works (ap (λ (r : Row). r.stage) x.is),
      refl,
    )

-- what it holds is the message of a channel's row, which is posted
held_posted : (s : Super) (first : Volumes) (script : ℕ → List Command) → IsOfChannels script → (p : StoreState)
    → RunInvariant s first script p → FillStands p → (m : Msg) → message_filled_for p ≡ Some m
    → (m.channel < 16) × (stage_in_run (p.rows m.channel).stage ≡ AtPosted m.serial)
held_posted s first script channels p has stands m is = go p.filling refl
  where
    go : (o : Option ℕ) → p.filling ≡ o → (m.channel < 16) × (stage_in_run (p.rows m.channel).stage ≡ AtPosted m.serial)
    go None none =
        let bad : None
        ≡ Some m = sym (ap (λ o. option_and_then (λ k. option_map (λ n. record { channel = k; serial = n })
        (serial_in (p.rows k).stage)) o) none) ∙ is in absurd (cc bad)
    go (Some channel) works =
        let x = stands.filled channel works in
        let both = sym (filled_for p channel x.serial works (ap (λ (r : Row). r.stage) x.is)) ∙ is in
        let same : record { channel = channel; serial = x.serial } ≡ m = cc both in
        subst (λ (y : Msg). (y.channel < 16) × (stage_in_run (p.rows y.channel).stage ≡ AtPosted y.serial)) same (
          left_low s first script channels p has channel (command_in_run p.super x.command)
              (map (command_in_run p.super) x.rest)
              (ap (λ (r : Row). map (command_in_run p.super) r.left) x.is),
          ap (λ (r : Row). stage_in_run r.stage) x.is,
        )

-- whatever stages the rows are at
pub starts_on : FactLaws → (s : Super) (first : Volumes) (script : ℕ → List Command) (p : StoreState)
    → IsOfChannels script → RunInvariant s first script p → FillStands p → RunFacts (run_of (driven_at_start p))
starts_on facts s first script p channels has stands =
    let w = run_of (driven_at_start p) in
    let frozen : (h : ℕ) → p.frozen h ≡ true → (job : JobInRun) × (w.job ≡ Some job) × (job.freeze ≡ Some h) =
    λ h is. let x = has.guarded.frozen h is in (job_in_run x.0, ap (option_map job_in_run) x.1, x.2) in
    let waits : (ch : ℕ) → (w.rows ch).stage ≡ AtInJob → WaitsInJob w ch =
    λ ch at.
    let x = has.shaped.in_job ch (in_job_seen (p.rows ch).stage at) in
    (job_in_run x.0, ap (option_map job_in_run) x.1, x.2) in
    subst RunFacts (start_is p)
    (facts.start w (message_filled_for p) (held_posted s first script channels p has stands) frozen waits)
