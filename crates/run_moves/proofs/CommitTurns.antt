-- A commit is a move.
use Rattle.std.proofs.Common.{◌≡◌, ℕ, ◌+◌, Bool, true, [], ◌∷◌, length}
use Rattle.std.proofs.Common.{Some, None, sym, ap, ◌∙◌, subst}
use Rattle.std.specs.Prelude.{if◌then◌else◌, map}
use Rattle.std.specs.Option.{option_map}
use Rattle.volume_model.specs.Steps.{change}
use Rattle.volume_model.specs.Volumes.{Volumes}
use Rattle.store_model.specs.Cases.Commit.{Commits}
use Rattle.store_model.specs.Guarding.{AreGenerations, frozen_behind}
use Rattle.store_model.specs.Jobs.{Does, gained_by, IsServed, JobStands, Lays}
use Rattle.store_model.specs.Jobs.{ReadsZeros}
use Rattle.store_model.specs.Maps.{Map, Metas}
use Rattle.store_model.specs.Phases.{has_commit, replaced, Replaces}
use Rattle.store_model.specs.WithReplaced.{generations_with}
use Rattle.store_model.specs.Rows.{IsForMetadata, Row}
use Rattle.store_model.specs.RunInvariant.{RunsWell}
use Rattle.store_model.specs.Shown.{fixed_of}
use Rattle.store_model.specs.StoreState.{going_on, JobState, live_of, shown}
use Rattle.store_model.specs.StoreState.{StoreState, waiting}
use Rattle.run_work.specs.JobMoves.{CommitMove, ReplacesBlob}
use Rattle.run_work.specs.Reading.{job_left_in_run, logged_row}
use Rattle.run_work.specs.RunState.{AtDecided, MetadataCommand}
use Rattle.run_work.specs.ChannelMoves.{moved_row}
use Rattle.run_moves.specs.JobTurns.{IsJobMoveOf}
use Rattle.run_moves.specs.Projection.{blobs_in_run, command_in_run, heads_found, job_in_run}
use Rattle.run_moves.specs.Projection.{phases_in_run}
use Rattle.run_moves.specs.Projection.{run_by, run_state_of, RunMessages, stage_in_run}
use Rattle.run_moves.specs.Sizes.{sizes_of}
use Rattle.run_moves.proofs.BlobReplaced.{replaces_blob}
use Rattle.run_moves.proofs.ChannelWrites.{asks}
use Rattle.run_moves.proofs.JobTurning.{frozen_on, goes_on}
use Rattle.run_moves.proofs.Moved.{decided_row, rows_moved}

-- ---- the turn

module _ (p q : StoreState) (d : RunMessages) (first : Volumes) (well : RunsWell first p) where
  module _ (later : RunsWell first q) (told : Bool) (t : Commits told p q) where
    abbrev job : JobState
    job = t.running.job

    stands : JobStands p job
    stands = well.job job t.running.is

    commit_there : has_commit job.todo ≡ true
    commit_there = ap has_commit t.running.next

    served : IsServed p t.served.channel job.claimed job.todo
    served = stands.served t.served.channel t.served.serves commit_there

    does : Does (ReadsZeros p.super job.claimed) p.super p.base p.live served.command
        (Replaces t.replacing (Some t.commit) ∷ t.running.rest)
    does = subst (Does (ReadsZeros p.super job.claimed) p.super p.base p.live served.command) t.running.next served.does

    lays : Lays p.super p.base p.chains (gained_by p.rows job) job.written
        (Replaces t.replacing (Some t.commit) ∷ t.running.rest)
    lays = subst (Lays p.super p.base p.chains (gained_by p.rows job) job.written) t.running.next stands.lays

    commands_same : served.command ≡ t.served.command
    commands_same =
        let lists : served.command ∷ served.rest ≡ t.served.command ∷ t.served.rest =
        ap (λ (r : Row). r.left) (sym served.row ∙ t.served.row) in
        cc lists

    asks_so : command_in_run p.super t.served.command ≡ MetadataCommand
    asks_so = asks p.super t.served.command (subst IsForMetadata commands_same does.0.metadata)

    abbrev base_new : Metas
    base_new = replaced p.base t.replacing

    abbrev generations_new : Map ℕ
    generations_new = generations_with p.generations p.drawn t.replacing t.commit.renews

    generations_are : AreGenerations base_new generations_new (p.drawn + length t.commit.renews)
    generations_are =
        subst (λ (v : StoreState). AreGenerations v.base v.generations v.drawn) t.next later.generations

    replaces : ReplacesBlob (sizes_of p.super) (blobs_in_run p.base p.generations)
        (blobs_in_run base_new generations_new)
    replaces = replaces_blob p first well (gained_by p.rows job) job.written t.replacing lays.0 generations_new
        (p.drawn + length t.commit.renews) generations_are

    -- a commit
    pub commits_move : IsJobMoveOf p q d CommitMove t.served.channel
    commits_move =
        let commands = map (command_in_run p.super) t.served.rest in
        let live_new = live_of (change (fixed_of p.super) (shown p) t.served.command t.commit.reply) in
        let finds = heads_found p.super t.device.reads base_new live_new in
        let rest = phases_in_run job.serves t.running.rest in
        record {
          job = job_in_run job;
          rest = rest;
          commands = commands;
          runs = ap (option_map job_in_run) t.running.is;
          here = ap (phases_in_run job.serves) t.running.next;
          waits = ap (λ s. waiting s job.todo) t.served.serves
              ∙ ap (λ b. if b then Some t.served.channel else None) commit_there;
          left = ap (λ (r : Row). map (command_in_run p.super) r.left) t.served.row ∙ ap (λ x. x ∷ commands) asks_so;
          stage = ap (λ (r : Row). stage_in_run r.stage) t.served.row;
          blobs = blobs_in_run base_new generations_new;
          finds = finds;
          replaces = replaces;
          next = ap (λ v. run_state_of v d) t.next
              ∙ ap (λ r. record (run_by p.super t.device.reads base_new generations_new live_new p.rows
              (going_on (record job { claimed = [] }) [] t.running.rest)
              (frozen_behind p.frozen job t.running.rest) d) {
                rows = r;
              }) (rows_moved p.super p.rows t.served.channel (decided_row t.served.rest))
              ∙ ap (λ j. record (moved_row (run_state_of p d) t.served.channel (logged_row commands AtDecided)) {
                blobs = blobs_in_run base_new generations_new;
                finds = finds;
                job = j;
                frozen = frozen_behind p.frozen job t.running.rest;
              }) (goes_on (record job { claimed = [] }) t.running.rest [] None
              (ap (λ s. waiting s t.running.rest) t.served.serves
              ∙ ap (λ b. if b then Some t.served.channel else None) does.1))
              ∙ ap (λ f. record (moved_row (run_state_of p d) t.served.channel (logged_row commands AtDecided)) {
                blobs = blobs_in_run base_new generations_new;
                finds = finds;
                job = job_left_in_run (record (job_in_run job) { waits = None }) rest;
                frozen = f;
              }) (frozen_on p.frozen job t.running.rest);
        }
