-- The turns of a job that write a page, and those of a job that fails.
use Rattle.std.proofs.Common.{◌≡◌, ◌≢◌, ℕ, Bool, true, false, List, [], ◌∷◌, Option, Some, None, refl, sym, ap, ◌∙◌}
use Rattle.std.proofs.Common.{inl, inr}
use Rattle.std.specs.Prelude.{◌⊎◌, map, if◌then◌else◌}
use Rattle.std.specs.Option.{option_map}
use Rattle.page_disk.specs.Disk.{Image}
use Rattle.volume_model.specs.declared.command.Command.{Command}
use Rattle.store_model.specs.Cases.BreakDown.{BreaksDown}
use Rattle.store_model.specs.Guarding.{frozen_behind, IsGuarded, releasing}
use Rattle.store_model.specs.Phases.{Erases as Erasing, Frees as Freeing, has_commit, Marks, Phase, Writes, Zeros}
use Rattle.store_model.specs.Rows.{InJob, Row, with_row}
use Rattle.store_model.specs.StoreState.{ForCommand, ForInsert, ForRepair, going_on, JobState, Service, StoreState}
use Rattle.store_model.specs.StoreState.{waiting}
use Rattle.run_work.specs.JobMoves.{DropMove, FailMove, PageMove}
use Rattle.run_work.specs.Reading.{frozen_left, frozen_set, job_left_in_run}
use Rattle.run_work.specs.RunState.{MetadataCommand, PagePhase}
use Rattle.run_moves.specs.JobTurns.{FailingTurns, HasTurnsLeft, IsJobMove, IsJobMoveOf, PageTurns}
use Rattle.run_moves.specs.Projection.{command_in_run, job_in_run, phase_in_run, phases_in_run, run_by, run_state_of}
use Rattle.run_moves.specs.Projection.{RunMessages, stage_in_run}
use Rattle.run_moves.proofs.JobPhases.{commit_seen}
use Rattle.run_moves.proofs.Moved.{changes_job, changes_row, decided_row, row_twice}
use Rattle.run_moves.proofs.WorkLogged.{of_channel}

-- ---- a job that goes on

-- behind a phase that is no commit the same row waits
pub waits_on : (serves : Service) (phase : Phase) (rest : List Phase) → has_commit (phase ∷ rest) ≡ has_commit rest
    → waiting serves (phase ∷ rest) ≡ waiting serves rest
waits_on (ForCommand channel) phase rest same = ap (λ b. if b then Some channel else None) same
waits_on (ForInsert channel) phase rest same = refl
waits_on ForRepair phase rest same = refl

-- the job of a run that goes on, with this row waiting
pub goes_on : (job : JobState) (rest : List Phase) (written : List ℕ) (waits : Option ℕ)
    → waiting job.serves rest ≡ waits
    → option_map job_in_run (going_on job written rest)
    ≡ job_left_in_run (record (job_in_run job) { waits = waits }) (phases_in_run job.serves rest)
goes_on job [] written waits same = refl
goes_on job (x ∷ xs) written waits same =
    ap (λ o. Some (record { phases = phases_in_run job.serves (x ∷ xs); waits = o; freeze = job.freeze })) same

released : (frozen : ℕ → Bool) (o : Option ℕ) → releasing frozen o ≡ frozen_set frozen o false
released frozen None = refl
released frozen (Some blob) = refl

-- its blob is frozen as long
pub frozen_on : (frozen : ℕ → Bool) (job : JobState) (rest : List Phase)
    → frozen_behind frozen job rest ≡ frozen_left frozen (job_in_run job) (phases_in_run job.serves rest)
frozen_on frozen job [] = released frozen job.freeze
frozen_on frozen job (x ∷ xs) = refl

-- with something left to do
more_left : (job : JobState) (written : List ℕ) (rest : List Phase) → rest ≢ []
    → Some (record job { written = written; todo = rest }) ≡ going_on job written rest
more_left job written [] some = absurd (some refl)
more_left job written (x ∷ xs) some = refl

still_frozen : (frozen : ℕ → Bool) (job : JobState) (rest : List Phase) → rest ≢ []
    → frozen ≡ frozen_behind frozen job rest
still_frozen frozen job [] some = absurd (some refl)
still_frozen frozen job (x ∷ xs) some = refl

pub nothing_left : (serves : Service) (rest : List Phase) → phases_in_run serves rest ≡ [] → rest ≡ []
nothing_left serves [] none = refl
nothing_left serves (x ∷ xs) none = absurd (cc none)

-- behind the last old pages no row waits, if the job is no insert
none_waits : (serves : Service) (place : ℕ) (old : List ℕ) → ((channel : ℕ) → serves ≢ ForInsert channel)
    → waiting serves (Freeing place old ∷ []) ≡ None
none_waits (ForCommand channel) place old other = refl
none_waits (ForInsert channel) place old other = absurd (other channel refl)
none_waits ForRepair place old other = refl

module _ (p q : StoreState) (d : RunMessages) where
  -- ---- pages

  module _ (job : JobState) (phase : Phase) (rest : List Phase) (is : p.job ≡ Some job)
      (next : job.todo ≡ phase ∷ rest) (page : phase_in_run job.serves phase ≡ PagePhase)
      (same : has_commit (phase ∷ rest) ≡ has_commit rest) (image : Image) (written : List ℕ) where
    page_moves : (rest ≡ [] → waiting job.serves (phase ∷ rest) ≡ None)
        → run_state_of q d ≡ run_by p.super image p.base p.generations p.live p.rows (going_on job written rest)
        (frozen_behind p.frozen job rest) d → IsJobMove p q d PageMove
    page_moves ends leaves = record {
      job = job_in_run job;
      rest = phases_in_run job.serves rest;
      runs = ap (option_map job_in_run) is;
      here = ap (phases_in_run job.serves) next ∙ ap (λ x. x ∷ phases_in_run job.serves rest) page;
      ends = λ none. ap (waiting job.serves) next ∙ ends (nothing_left job.serves rest none);
      next = changes_job p q d image (going_on job written rest) (frozen_behind p.frozen job rest) leaves
          ∙ ap (λ j. record (run_state_of p d) { job = j; frozen = frozen_behind p.frozen job rest })
          (goes_on job rest written (waiting job.serves job.todo)
          (sym (ap (waiting job.serves) next ∙ waits_on job.serves phase rest same)))
          ∙ ap (λ f. record (run_state_of p d) {
            job = job_left_in_run (job_in_run job) (phases_in_run job.serves rest);
            frozen = f;
          }) (frozen_on p.frozen job rest);
    }

    -- with something left to do
    page_goes_on : HasTurnsLeft q → q.job ≡ Some (record job { written = written; todo = rest })
        → run_state_of q d ≡ run_by p.super image p.base p.generations p.live p.rows
        (Some (record job { written = written; todo = rest })) p.frozen d → IsJobMove p q d PageMove
    page_goes_on left job_is leaves =
        let some : rest ≢ [] = left _ job_is in
        page_moves (λ none. absurd (some none))
        (leaves
        ∙ ap (λ j. run_by p.super image p.base p.generations p.live p.rows j p.frozen d)
        (more_left job written rest some)
        ∙ ap (λ f. run_by p.super image p.base p.generations p.live p.rows (going_on job written rest) f d)
        (still_frozen p.frozen job rest some))

  -- those that write a page
  pub page_turns : PageTurns p q d
  page_turns = record {
    marks_dirty = λ left told t. page_goes_on t.running.job Marks t.running.rest t.running.is t.running.next refl refl
        t.device.reads t.running.job.written left (ap (λ (v : StoreState). v.job) t.next)
        (ap (λ v. run_state_of v d) t.next);
    zeroes = λ left told t. page_goes_on t.running.job (Zeros t.page) t.running.rest t.running.is t.running.next refl
        refl t.device.reads t.running.job.written left (ap (λ (v : StoreState). v.job) t.next)
        (ap (λ v. run_state_of v d) t.next);
    writes = λ left told t. page_goes_on t.running.job (Writes t.place) t.running.rest t.running.is t.running.next refl
        refl t.device.reads _ left (ap (λ (v : StoreState). v.job) t.next) (ap (λ v. run_state_of v d) t.next);
    erases = λ left told t. page_goes_on t.running.job (Erasing t.place) t.running.rest t.running.is t.running.next
        refl refl t.device.reads t.running.job.written left (ap (λ (v : StoreState). v.job) t.next)
        (ap (λ v. run_state_of v d) t.next);
    frees = λ told t. page_moves t.running.job (Freeing t.place t.old) t.running.rest t.running.is t.running.next refl
        refl t.device.reads []
        (λ none. ap (λ l. waiting t.running.job.serves (Freeing t.place t.old ∷ l)) none
        ∙ none_waits t.running.job.serves t.place t.old t.no_insert)
        (ap (λ v. run_state_of v d) t.next);
  }

  -- ---- failures

  module _ (job : JobState) (is : p.job ≡ Some job) (image : Image) (frozen : ℕ → Bool)
      (thaws : (h : ℕ) → frozen h ≡ false) where
    fail_moves : (ch : ℕ) (command : Command) (rest : List Command) → waiting job.serves job.todo ≡ Some ch
        → (p.rows ch).left ≡ command ∷ rest → (p.rows ch).stage ≡ InJob
        → (command_in_run p.super command ≡ MetadataCommand → has_commit job.todo ≡ true)
        → run_state_of q d
        ≡ run_by p.super image p.base p.generations p.live (with_row p.rows ch (decided_row rest)) None frozen d
        → IsJobMoveOf p q d FailMove ch
    fail_moves ch command rest waits left at unlogged leaves = record {
      job = job_in_run job;
      command = command_in_run p.super command;
      commands = map (command_in_run p.super) rest;
      runs = ap (option_map job_in_run) is;
      waits = waits;
      left = ap (map (command_in_run p.super)) left;
      stage = ap stage_in_run at;
      unlogged = λ asks. commit_seen job.serves job.todo ∙ unlogged asks;
      frozen = frozen;
      thaws = thaws;
      next = changes_row p q d ch image (decided_row rest) _ None frozen refl leaves;
    }

    drop_moves : waiting job.serves job.todo ≡ None
        → run_state_of q d ≡ run_by p.super image p.base p.generations p.live p.rows None frozen d
        → IsJobMove p q d DropMove
    drop_moves waits leaves = record {
      job = job_in_run job;
      runs = ap (option_map job_in_run) is;
      waits = waits;
      frozen = frozen;
      thaws = thaws;
      next = changes_job p q d image None frozen leaves;
    }

    -- the command waits for the commit
    command_fails : (ch : ℕ) (command : Command) (rest : List Command) → job.serves ≡ ForCommand ch
        → has_commit job.todo ≡ true → p.rows ch ≡ record { left = command ∷ rest; stage = InJob; claim = None }
        → run_state_of q d
        ≡ run_by p.super image p.base p.generations p.live (with_row p.rows ch (decided_row rest)) None frozen d
        → IsJobMoveOf p q d FailMove ch
    command_fails ch command rest serves waits row leaves = fail_moves ch command rest
        (ap (λ s. waiting s job.todo) serves ∙ ap (λ b. if b then Some ch else None) waits)
        (ap (λ (r : Row). r.left) row) (ap (λ (r : Row). r.stage) row) (λ asks. waits) leaves

    -- the write waits for its insert, and gives its claim back
    insert_fails_by : (ch : ℕ) (command : Command) (rest : List Command) (first : Row) → job.serves ≡ ForInsert ch
        → (p.rows ch).stage ≡ InJob → (p.rows ch).left ≡ command ∷ rest
        → (command_in_run p.super command ≡ MetadataCommand → ⊥)
        → run_state_of q d ≡ run_by p.super image p.base p.generations p.live
        (with_row (with_row p.rows ch first) ch (decided_row rest)) None frozen d → IsJobMoveOf p q d FailMove ch
    insert_fails_by ch command rest first serves at left write leaves = fail_moves ch command rest
        (ap (λ s. waiting s job.todo) serves) left at (λ asks. absurd (write asks))
        (leaves ∙ ap (λ r. run_by p.super image p.base p.generations p.live r None frozen d)
        (row_twice p.rows ch first (decided_row rest)))

  breaks_down_moves : IsGuarded p → BreaksDown p q
      → ((row : ℕ) × IsJobMoveOf p q d FailMove row) ⊎ IsJobMove p q d DropMove
  breaks_down_moves guarded t = elim t.ends [
    | inl x ↦ inl (
      x.served.channel,
      command_fails t.job t.is p.device.reads p.frozen (guarded.stopped t.at t.stands)
          x.served.channel x.served.command x.served.rest x.served.serves x.waits x.served.row
          (ap (λ v. run_state_of v d) x.next),
    )
    | inr x ↦ inr (drop_moves t.job t.is p.device.reads p.frozen (guarded.stopped t.at t.stands) x.waits
        (ap (λ v. run_state_of v d) x.next))
  ]

  -- those that fail
  pub failing_turns : FailingTurns p q d
  failing_turns = record {
    fails = λ t. command_fails t.running.job t.running.is t.device.reads (λ h. false) (λ h. refl) t.served.channel
        t.served.command t.served.rest t.served.serves t.waits t.served.row (ap (λ v. run_state_of v d) t.next);
    insert_fails = λ t apart.
        let logs = of_channel _ q t.inserting.row _ _ t.device t.logs apart in
        insert_fails_by t.running.job t.running.is t.device.reads (λ h. false) (λ h. refl)
        t.inserting.row _ logs.rest _ t.inserting.serves t.inserting.waits logs.left (λ bad. cc bad)
        (ap (λ v. run_state_of v d) logs.next);
    breaks_off = λ t. drop_moves t.running.job t.running.is t.device.reads (λ h. false) (λ h. refl) t.waits
        (ap (λ v. run_state_of v d) t.next);
    more_fails = λ t. command_fails t.running.job t.running.is t.device.reads (λ h. false) (λ h. refl) t.served.channel
        t.served.command t.served.rest t.served.serves t.waits t.served.row (ap (λ v. run_state_of v d) t.next);
    more_breaks_off = λ t. drop_moves t.running.job t.running.is t.device.reads (λ h. false) (λ h. refl) t.waits
        (ap (λ v. run_state_of v d) t.next);
    breaks_down = breaks_down_moves;
    insert_breaks_down = λ guarded t apart.
        let logs = of_channel _ q t.inserting.row _ _ p.device t.logs apart in
        insert_fails_by t.job t.is p.device.reads p.frozen (guarded.stopped t.at t.stands) t.inserting.row _ logs.rest _
        t.inserting.serves t.inserting.waits logs.left (λ bad. cc bad) (ap (λ v. run_state_of v d) logs.next);
  }
