-- Which step is due, and whether a command that is held has to wait, by what the metadata thread keeps.
use Rattle.std.proofs.Common.{◌≡◌, ◌≢◌, ℕ, Bool, true, false, ◌&&◌, List, [], ◌∷◌, Option, Some, None, refl, ap}
use Rattle.std.proofs.Common.{◌∙◌}
use Rattle.std.specs.Prelude.{◌||◌, ◌++◌, if◌then◌else◌, IsSome, length, nat_lt, not}
use Rattle.std.specs.Option.{option_map}
use Rattle.volume_model.specs.declared.command.Command.{Command}
use Rattle.volume_model.specs.declared.reply.Msg.{Msg}
use Rattle.store_model.specs.Filling.{StandsAt}
use Rattle.store_model.specs.Rows.{Claiming, Copying, Decided, Ended, Idle, InJob, OpenClaim, Posted}
use Rattle.store_model.specs.Rows.{Ready, Row, Stage}
use Rattle.store_model.specs.StoreState.{JobState, StoreState}
use Rattle.running_store.specs.Stages.{is_stage}
use Rattle.running_store.specs.declared.rows.RowStage.TheVariants.{Over}
use Rattle.run_work.specs.Reading.{has_any, is_in_use, is_there}
use Rattle.run_work.specs.Steps.{can_metadata, CloseStep, due, due_in, FillStep, has_to_wait, holds_command, JobStep}
use Rattle.run_work.specs.Steps.{MessageStep, MoveKind, TakeStep}
use Rattle.run_moves.specs.DrivenStore.{DrivenStore, run_of}
use Rattle.run_moves.specs.DriverSteps.{behind_others, driven_at_turn}
use Rattle.run_moves.specs.Projection.{job_in_run, stage_in_run}
use Rattle.md_thread.specs.Holding.{driven_by, MetadataState}

-- ---- parts

pub job_there : (o : Option JobState) → IsSome o → is_there (option_map job_in_run o) ≡ true
job_there None is = absurd (cc is)
job_there (Some j) is = refl

pub no_job : (o : Option JobState) → o ≡ None → is_there (option_map job_in_run o) ≡ false
no_job None is = refl
no_job (Some j) is = absurd (cc is)

-- a row of which no command is left and which is at no stage is over
pub over_idle : (left : List Command) (stage : Stage) (claim : Option OpenClaim) (row : ℕ)
    → is_stage (record { left = left; stage = stage; claim = claim }) row ≡ Over → stage ≡ Idle
over_idle left Idle claim row is = refl
over_idle left Claiming claim row is = absurd (cc is)
over_idle left (Copying count) claim row is = absurd (cc is)
over_idle left Ready claim row is = absurd (cc is)
over_idle left (Posted serial) claim row is = absurd (cc is)
over_idle left InJob claim row is = absurd (cc is)
over_idle left (Decided outcome) claim row is = absurd (cc is)
over_idle left Ended claim row is = absurd (cc is)

pub unused : (row : Row) (n : ℕ) → is_stage row n ≡ Over → is_in_use (stage_in_run row.stage) ≡ false
unused row n is = ap (λ (s : Stage). is_in_use (stage_in_run s)) (over_idle row.left row.stage row.claim n is)

-- the fill's row is used where it isn't over
pub used_at : (filling : Option ℕ) (stage : Stage) → StandsAt filling stage → stage ≢ Idle
    → is_in_use (stage_in_run stage) ≡ true
used_at filling Idle at not = absurd (not refl)
used_at filling Claiming at not = refl
used_at filling (Copying left) at not = refl
used_at filling Ready at not = refl
used_at filling (Posted serial) at not = refl
used_at filling InJob at not = refl
used_at filling (Decided outcome) at not = refl
used_at None Ended at not = absurd at
used_at (Some channel) Ended at not = absurd at

pub used : (filling : Option ℕ) (row : Row) (n : ℕ) → StandsAt filling row.stage → row.left ≡ []
    → is_stage row n ≢ Over → is_in_use (stage_in_run row.stage) ≡ true
used filling row n at none not = used_at filling row.stage at (λ idle. not (
    ap (λ (s : Stage). is_stage (record { left = row.left; stage = s; claim = row.claim }) n) idle
    ∙ ap (λ (l : List Command). is_stage (record { left = l; stage = Idle; claim = row.claim }) n) none))

-- ---- waiting

-- by whether a job runs, a fill goes on, the fill's row is used, a command is held, and others wait
abbrev waits : Bool → Bool → Bool → Bool → Bool → Bool
waits job fill in_hand command others = not job && (fill || not in_hand) && command && (fill || others)

waits_in_job : (fill in_hand command others : Bool) → waits true fill in_hand command others ≡ false
waits_in_job fill in_hand command others = refl

waits_closing : (job command others : Bool) → waits job false true command others ≡ false
waits_closing true command others = refl
waits_closing false command others = refl

waits_insert : (job fill in_hand others : Bool) → waits job fill in_hand false others ≡ false
waits_insert true fill in_hand others = refl
waits_insert false true in_hand others = refl
waits_insert false false true others = refl
waits_insert false false false others = refl

waits_alone : (job in_hand command : Bool) → waits job false in_hand command false ≡ false
waits_alone true in_hand command = refl
waits_alone false true command = refl
waits_alone false false true = refl
waits_alone false false false = refl

waits_behind : (fill in_hand others : Bool) → (fill || not in_hand) ≡ true → (fill || others) ≡ true
    → waits false fill in_hand true others ≡ true
waits_behind true in_hand others unused some = refl
waits_behind false true others unused some = absurd (cc unused)
waits_behind false false true unused some = refl
waits_behind false false false unused some = absurd (cc some)

module _ (p : StoreState) (s : MetadataState) (unsent : ℕ → Option ℕ) (queue : List Msg) where
  abbrev w : DrivenStore
  w = driven_by p s unsent queue

  abbrev job_runs : Bool
  job_runs = is_there (option_map job_in_run p.job)

  abbrev in_use : Bool
  in_use = is_in_use (stage_in_run (p.rows 16).stage)

  abbrev command_held : Bool
  command_held = holds_command (run_of w) s.held

  unwaiting : has_to_wait (run_of w) ≡ false → driven_at_turn w ≡ w
  unwaiting e =
      ap (λ (b : Bool). record w { messages = if b then behind_others w.messages s.held else w.messages }) e

  -- nothing waits where nothing is held,
  pub none_held : s.held ≡ None → driven_at_turn w ≡ w
  none_held none = ap (λ m. record w { messages = m }) (go (has_to_wait (run_of w)) s.held none)
    where
      go : (b : Bool) (o : Option Msg) → o ≡ None → (if b then behind_others w.messages o else w.messages) ≡ w.messages
      go true None is = refl
      go true (Some x) is = absurd (cc is)
      go false o is = refl

  -- while a job runs,
  pub in_job : IsSome p.job → driven_at_turn w ≡ w
  in_job some = unwaiting (ap (λ j. waits j (is_there s.fill) in_use command_held (has_any s.waiting))
      (job_there p.job some) ∙ waits_in_job (is_there s.fill) in_use command_held (has_any s.waiting))

  -- where the fill's row is used without a fill,
  pub closing : is_there s.fill ≡ false → in_use ≡ true → driven_at_turn w ≡ w
  closing none in_hand = unwaiting (ap (λ f. waits job_runs f in_use command_held (has_any s.waiting)) none
      ∙ ap (λ u. waits job_runs false u command_held (has_any s.waiting)) in_hand
      ∙ waits_closing job_runs command_held (has_any s.waiting))

  -- where an insert is held,
  pub insert_held : command_held ≡ false → driven_at_turn w ≡ w
  insert_held insert = unwaiting (ap (λ c. waits job_runs (is_there s.fill) in_use c (has_any s.waiting)) insert
      ∙ waits_insert job_runs (is_there s.fill) in_use (has_any s.waiting))

  -- and where no fill goes on and no other command waits.
  pub held_alone : is_there s.fill ≡ false → has_any s.waiting ≡ false → driven_at_turn w ≡ w
  held_alone none alone = unwaiting (ap (λ f. waits job_runs f in_use command_held (has_any s.waiting)) none
      ∙ ap (λ o. waits job_runs false in_use command_held o) alone ∙ waits_alone job_runs in_use command_held)

  -- Else a command that is held waits behind the others.
  pub command_waits : (msg : Msg) → s.held ≡ Some msg → p.job ≡ None
      → (is_there s.fill || not in_use) ≡ true → command_held ≡ true → (is_there s.fill || has_any s.waiting) ≡ true
      → driven_at_turn w ≡ driven_by p (record s { held = None; waiting = s.waiting ++ msg ∷ [] }) unsent queue
  command_waits msg held none free command some =
      ap (λ (b : Bool). record w { messages = if b then behind_others w.messages s.held else w.messages })
      (ap (λ j. waits j (is_there s.fill) in_use command_held (has_any s.waiting)) (no_job p.job none)
      ∙ ap (λ c. waits false (is_there s.fill) in_use c (has_any s.waiting)) command
      ∙ waits_behind (is_there s.fill) in_use (has_any s.waiting) free some)
      ∙ ap (λ o. record w { messages = behind_others w.messages o }) held

  -- ---- what is due

  abbrev due_here : MoveKind
  due_here = due_in (run_of w)

  pub job_due : IsSome p.job → due_here ≡ JobStep
  job_due some = ap (λ j. due j s.held s.fill in_use s.waiting queue) (job_there p.job some)

  module _ (none : p.job ≡ None) where
    due_now : (held fill : Option Msg) (in_hand : Bool) (waiting : List Msg) → s.held ≡ held → s.fill ≡ fill → in_use
        ≡ in_hand
        → s.waiting ≡ waiting → due_here ≡ due false held fill in_hand waiting queue
    due_now held fill in_hand waiting h f u l = ap (λ j. due j s.held s.fill in_use s.waiting queue) (no_job p.job none)
        ∙ ap (λ x. due false x s.fill in_use s.waiting queue) h ∙ ap (λ x. due false held x in_use s.waiting queue) f
        ∙ ap (λ x. due false held fill x s.waiting queue) u ∙ ap (λ x. due false held fill in_hand x queue) l

    pub close_due : s.fill ≡ None → in_use ≡ true → due_here ≡ CloseStep
    close_due fill in_hand = due_now s.held None true s.waiting refl fill in_hand refl ∙ go s.held
      where
        go : (o : Option Msg) → due false o None true s.waiting queue ≡ CloseStep
        go None = refl
        go (Some x) = refl

    pub held_due : (msg : Msg) → s.held ≡ Some msg → (s.fill ≡ None → in_use ≡ false) → due_here ≡ MessageStep msg
    held_due msg held free = by s.fill refl
      where
        by : (o : Option Msg) → s.fill ≡ o → due_here ≡ MessageStep msg
        by None fill = due_now (Some msg) None false s.waiting held fill (free fill) refl
        by (Some x) fill = due_now (Some msg) (Some x) in_use s.waiting held fill refl refl

    pub fill_due : (msg : Msg) → s.held ≡ None → s.fill ≡ Some msg
        → due_here ≡ (if has_any queue && nat_lt (length s.waiting) 16 then TakeStep else FillStep)
    fill_due msg held fill = due_now None (Some msg) in_use s.waiting held fill refl refl

    pub first_due : (msg : Msg) (rest : List Msg) → s.held ≡ None → s.fill ≡ None → in_use ≡ false
        → s.waiting ≡ msg ∷ rest → due_here ≡ MessageStep msg
    first_due msg rest held fill in_hand waiting = due_now None None false (msg ∷ rest) held fill in_hand waiting

    pub take_due : s.held ≡ None → s.fill ≡ None → in_use ≡ false → s.waiting ≡ [] → due_here ≡ TakeStep
    take_due held fill in_hand waiting = due_now None None false [] held fill in_hand waiting

    -- nothing can be done
    pub nothing_left : s.held ≡ None → s.fill ≡ None → in_use ≡ false → s.waiting ≡ [] → queue ≡ []
        → can_metadata (run_of w) ≡ false
    nothing_left held fill in_hand waiting empty =
        ap (λ j. can j s.held queue s.waiting s.fill in_use) (no_job p.job none)
        ∙ ap (λ x. can false x queue s.waiting s.fill in_use) held
        ∙ ap (λ x. can false None x s.waiting s.fill in_use) empty
        ∙ ap (λ x. can false None [] x s.fill in_use) waiting
        ∙ ap (λ x. can false None [] [] x in_use) fill ∙ ap (λ x. can false None [] [] None x) in_hand
      where
        can : Bool → Option Msg → List Msg → List Msg → Option Msg → Bool → Bool
        can job held queue waiting fill in_hand = job || is_there held || has_any queue || has_any waiting
            || is_there fill || in_hand
