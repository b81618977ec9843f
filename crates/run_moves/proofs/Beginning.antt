-- The turns of the metadata thread in which an insert is lost, or a job begins.
use Rattle.std.proofs.Common.{◌≡◌, ℕ, ◌+◌, ◌*◌, ◌≤◌, Bool, true, List, [], ◌∷◌, ◌++◌, length, Option, Some, None, refl}
use Rattle.std.proofs.Common.{sym, ap, ◌∙◌, subst, arith}
use Rattle.std.specs.Prelude.{map, if◌then◌else◌}
use Rattle.std.specs.Option.{option_map}
use Rattle.std.proofs.lemmas.List.{length-append, length-map}
use Rattle.super_block.specs.Numbers.{cluster_pages_of, clusters_of}
use Rattle.volume_model.specs.declared.reply.Msg.{Msg}
use Rattle.blob_meta.specs.declared.job.Replacement.{Replacement}
use Rattle.store_model.specs.Cases.Begin.{Begins}
use Rattle.store_model.specs.Cases.BeginInsert.{BeginsInsert}
use Rattle.store_model.specs.Cases.LoseInsert.{LosesInsert}
use Rattle.store_model.specs.Guarding.{freezing}
use Rattle.store_model.specs.Jobs.{pages_in, with_zeroed, zeroing}
use Rattle.store_model.specs.Phases.{has_commit, marking, Phase, phases_of, Replacing, todo_of}
use Rattle.store_model.specs.Rows.{Row}
use Rattle.store_model.specs.StoreState.{ForCommand, ForInsert, JobState, StoreState}
use Rattle.run_work.specs.Reading.{frozen_set, logged_row, row_at}
use Rattle.run_work.specs.RunState.{AtInJob, MetadataCommand}
use Rattle.run_work.specs.ChannelMoves.{moved_row}
use Rattle.run_work.specs.ServingMoves.{BeginInsertMove, BeginJobMove, BeginsFor, for_message, LoseInsertMove}
use Rattle.run_work.specs.Steps.{begin_step, served_step}
use Rattle.run_work.specs.Work.{replacements_in}
use Rattle.run_moves.specs.Projection.{claim_in_run, command_in_run, job_in_run, phase_in_run, phases_in_run}
use Rattle.run_moves.specs.Projection.{row_in_run, run_state_of, RunMessages, stage_in_run}
use Rattle.run_moves.specs.ServingTurns.{BeginningTurns, IsMeasured, ServesRow, with_taken}
use Rattle.run_moves.specs.Sizes.{most_replacements, replacement_turns, sizes_of}
use Rattle.run_moves.proofs.DoomedClaims.{doomed_claim}
use Rattle.store_model.proofs.Marking.{commit_marking}
use Rattle.run_moves.proofs.JobPhases as phases
use Rattle.run_moves.proofs.JobsAsked.{AreFew, job_asks, job_few}
use Rattle.run_moves.proofs.ListCounted as counts
use Rattle.run_moves.proofs.Moved.{changes_row}

-- no chain of a store has more places than there are metadata pages
chains_short : (p : StoreState) → IsMeasured p → counts.AreShort p.super p.chains
chains_short p measured head places is =
    let few = phases.few_below places p.super.md_len (measured.chains.differ head places is)
    (λ x among. measured.chains.low head x places is among) in
    omega (arith, few)

frozen_same : (frozen : ℕ → Bool) (o : Option ℕ) → freezing frozen o ≡ frozen_set frozen o true
frozen_same frozen None = refl
frozen_same frozen (Some blob) = refl

-- ---- the turns

module _ (p q : StoreState) (d : RunMessages) (held : Option Msg) (waiting : List Msg) where
  abbrev e : RunMessages
  e = with_taken d held waiting

  -- an insert is lost, and its row served in this step
  abbrev pub LosesSo : (ch : ℕ) → ServesRow p q d held waiting ch → Type 0
  LosesSo ch serves = (move : LoseInsertMove (sizes_of p.super) (run_state_of p d) ch (run_state_of q e))
      × (served_step move.serves ≡ served_step serves)

  -- or begins
  abbrev pub BeginsInsertSo : (ch : ℕ) → ServesRow p q d held waiting ch → Type 0
  BeginsInsertSo ch serves = (move : BeginInsertMove (sizes_of p.super) (run_state_of p d) ch (run_state_of q e))
      × (served_step move.serves ≡ served_step serves)

  -- or the job of a command does, behind which this is the fill
  abbrev pub BeginsWith : (ch : ℕ) (fill : Option Msg) → BeginsFor (run_state_of p d) ch held waiting fill → Type 0
  BeginsWith ch fill begins =
      (move : BeginJobMove (sizes_of p.super) (run_state_of p d) ch (run_state_of q (record e { fill = fill })))
      × (begin_step move.begins ≡ begin_step begins)

  abbrev pub BeginsSo : (ch : ℕ) → ServesRow p q d held waiting ch → Type 0
  BeginsSo ch serves = (move : BeginJobMove (sizes_of p.super) (run_state_of p d) ch (run_state_of q e))
      × (begin_step move.begins ≡ served_step serves)

  -- as the turns do
  pub loses_insert_so : (t : LosesInsert p q) (serves : ServesRow p q d held waiting t.posted.row)
      → LosesSo t.posted.row serves
  loses_insert_so t serves = (
    record {
      lost = claim_in_run t.posted.claim;
      serial = t.serial;
      stage = ap (λ (r : Row). stage_in_run r.stage) t.posted.is;
      claim = ap (λ (r : Row). option_map claim_in_run r.claim) t.posted.is;
      doomed = doomed_claim p t.posted.claim t.cannot;
      held = held;
      waiting = waiting;
      serves = serves;
      next = changes_row p q e t.posted.row p.device.reads _ _ p.job p.frozen refl (ap (λ v. run_state_of v e) t.next);
    },
    refl,
  )

  pub begins_insert_so : IsMeasured p → (t : BeginsInsert p q)
      → (serves : ServesRow p q d held waiting t.posted.row) → BeginsInsertSo t.posted.row serves
  begins_insert_so measured t serves =
      let bare = phases_of t.replacing None [] in
      let todo = marking p.clean bare in
      let job : JobState = record {
        serves = ForInsert t.posted.row;
        freeze = None;
        claimed = [];
        written = [];
        todo = todo;
      } in
      let turns = counts.replacement_short p.super p.base p.chains p.pages _ _ t.replacing t.laid measured.pages
      (chains_short p measured) in
      let all = phases.length_phases t.replacing None [] in
      let mark = phases.length_marking p.clean bare in
      let short : length todo ≤ replacement_turns p.super + 1 = omega (arith, turns, all, mark) in
      let long = length-map todo (phase_in_run (ForInsert t.posted.row)) in (
        record {
          won = claim_in_run t.posted.claim;
          serial = t.serial;
          stage = ap (λ (r : Row). stage_in_run r.stage) t.posted.is;
          claim = ap (λ (r : Row). option_map claim_in_run r.claim) t.posted.is;
          idle = ap (option_map job_in_run) t.no_job;
          held = held;
          waiting = waiting;
          serves = serves;
          job = job_in_run job;
          waits = refl;
          thaws = refl;
          short = subst (λ n. n ≤ replacement_turns p.super + 1) (sym long) short;
          plain = phases.replacements_marking (ForInsert t.posted.row) p.clean bare
              ∙ phases.replacements_writing (ForInsert t.posted.row) t.replacing.fresh _
              ∙ phases.replacements_erasing (ForInsert t.posted.row) t.replacing.old t.replacing.old [];
          inserts = phases.decision_marking (ForInsert t.posted.row) p.clean bare
              ∙ phases.decision_writing (ForInsert t.posted.row) t.replacing.fresh _;
          next = changes_row p q e t.posted.row p.device.reads _ _ (Some job) p.frozen
              (ap (λ (r : Row). row_at (row_in_run p.super r) AtInJob) (sym t.posted.is))
              (ap (λ v. run_state_of v e) t.next);
        },
        refl,
      )

  module _ (measured : IsMeasured p) (t : Begins p q) where
    abbrev commit_phases : List Replacing → ℕ → List Phase
    commit_phases list n = marking p.clean (zeroing p.super t.claimed ++ todo_of list n t.commit)

    abbrev seen_job : List Phase → JobState
    seen_job todo = record {
      serves = ForCommand t.posted.channel;
      freeze = t.changes.freeze;
      claimed = t.claimed;
      written = [];
      todo = todo;
    }

    claimed_few : length t.claimed * cluster_pages_of p.super ≤ clusters_of p.super * cluster_pages_of p.super
    claimed_few =
        let a = phases.few_clear p.clusters t.claimed t.clusters in
        let b : length t.claimed ≤ clusters_of p.super = subst (λ n. length t.claimed ≤ n) measured.clusters a in
        grind (arith, b)

    abbrev made : List Replacement
    made = with_zeroed t.changes.list t.changes.zero t.claimed

    abbrev behind : List Phase
    behind = todo_of t.list t.changes.commit t.commit

    few : AreFew p t.changes
    few = job_few p t.posted.command t.changes t.commit t.asked

    as_long : (list : List Replacement) → length (with_zeroed list t.changes.zero t.claimed) ≡ length list
    as_long [] = refl
    as_long (x ∷ xs) = refl

    long : length t.list ≡ length t.changes.list
    long = counts.laid_length p.super t.commit p.base p.chains p.pages t.claimed made t.list t.laid
        ∙ as_long t.changes.list

    committed : has_commit (commit_phases t.list t.changes.commit) ≡ true
    committed = commit_marking p.clean (zeroing p.super t.claimed ++ behind)
        ∙ phases.commit_zeroing (pages_in p.super t.claimed) behind
        ∙ counts.list_commits p.super t.commit t.list t.changes.commit few.some
        (let a = few.within in let b = long in omega (arith, a, b))

    short : length (commit_phases t.list t.changes.commit)
        ≤ clusters_of p.super * cluster_pages_of p.super + most_replacements * replacement_turns p.super + 1
    short =
        let m = phases.length_marking p.clean (zeroing p.super t.claimed ++ behind) in
        let a = length-append (zeroing p.super t.claimed) behind in
        let b = phases.length_zeroing p.super t.claimed in
        let c = counts.list_short p.super t.commit p.base p.chains p.pages t.claimed made t.list t.changes.commit t.laid
        measured.pages (chains_short p measured) in
        let d = as_long t.changes.list in
        let e = few.few in
        let f : length made * replacement_turns p.super ≤ most_replacements * replacement_turns p.super =
        grind (arith, d, e) in
        let g = claimed_few in
        omega (arith, m, a, b, c, f, g)

    replaces_few : replacements_in (phases_in_run (ForCommand t.posted.channel)
        (commit_phases t.list t.changes.commit)) ≤ most_replacements
    replaces_few =
        let m = phases.replacements_marking (ForCommand t.posted.channel) p.clean
        (zeroing p.super t.claimed ++ behind) in
        let a = phases.replacements_zeroing (ForCommand t.posted.channel) (pages_in p.super t.claimed) behind in
        let b = counts.list_replaces p.super t.commit t.posted.channel t.list t.changes.commit in
        let c = long in
        let d = few.few in
        omega (arith, m, a, b, c, d)

    -- for a message, or for the fill, behind which this is the fill
    pub begins_for : (fill : Option Msg) → (begins : BeginsFor (run_state_of p d) t.posted.channel held waiting fill)
        → BeginsWith t.posted.channel fill begins
    begins_for fill begins =
        let todo = commit_phases t.list t.changes.commit in
        let asks = job_asks p t.posted.command t.changes t.commit t.asked in
        let f : RunMessages = record e { fill = fill } in (
          record {
            commands = map (command_in_run p.super) t.posted.rest;
            left = ap (λ (r : Row). map (command_in_run p.super) r.left) t.posted.row
                ∙ ap (λ x. x ∷ map (command_in_run p.super) t.posted.rest) asks;
            serial = t.posted.serial;
            stage = ap (λ (r : Row). stage_in_run r.stage) t.posted.row;
            idle = ap (option_map job_in_run) t.no_job;
            held = held;
            waiting = waiting;
            fill = fill;
            begins = begins;
            job = job_in_run (seen_job todo);
            waits = ap (λ b. if b then Some t.posted.channel else None) committed;
            short = subst (λ n. n ≤ clusters_of p.super * cluster_pages_of p.super
                + most_replacements * replacement_turns p.super + 1)
                (sym (length-map todo (phase_in_run (ForCommand t.posted.channel)))) short;
            few = replaces_few;
            next = changes_row p q f t.posted.channel p.device.reads _ _ (Some (seen_job todo))
                (freezing p.frozen t.changes.freeze)
                (ap (λ x. record {
                  left = x ∷ map (command_in_run p.super) t.posted.rest;
                  stage = AtInJob;
                  claim = None;
                }) asks) (ap (λ v. run_state_of v f) t.next)
                ∙ ap (λ b. record (moved_row (run_state_of p f) t.posted.channel
                (logged_row (MetadataCommand ∷ map (command_in_run p.super) t.posted.rest) AtInJob)) {
                  job = Some (job_in_run (seen_job todo));
                  frozen = b;
                }) (frozen_same p.frozen t.changes.freeze);
          },
          refl,
        )

    pub begins_so : (serves : ServesRow p q d held waiting t.posted.channel) → BeginsSo t.posted.channel serves
    begins_so serves = begins_for d.fill (for_message refl serves)

  -- all of them
  pub beginning_turns : BeginningTurns p q d held waiting
  beginning_turns = record {
    loses_insert = λ t serves. (loses_insert_so t serves).0;
    begins_insert = λ measured t serves. (begins_insert_so measured t serves).0;
    begins = λ measured t serves. (begins_so measured t serves).0;
  }
