-- A replacement that is no commit, of a command's job or a repair's, is a move.
use Rattle.std.proofs.Common.{◌≡◌, ◌≢◌, ◌+◌, ℕ, Bool, [], ◌∷◌, length, None, refl, sym, ap}
use Rattle.std.proofs.Common.{◌∙◌, subst}
use Rattle.std.specs.Option.{option_map}
use Rattle.volume_model.specs.Volumes.{Volumes}
use Rattle.store_model.specs.Cases.ReplaceMore.{ReplacesMore}
use Rattle.store_model.specs.WithReplaced.{generations_with, made_by}
use Rattle.store_model.specs.Guarding.{AreGenerations, frozen_behind}
use Rattle.store_model.specs.Jobs.{CanReplace, gained_by, Lays}
use Rattle.store_model.specs.Maps.{Map, Metas}
use Rattle.store_model.specs.Phases.{replaced, Replaces, Replacing}
use Rattle.store_model.specs.RunInvariant.{RunsWell}
use Rattle.store_model.specs.StoreState.{ForCommand, ForInsert, ForRepair, going_on, JobState, Service, StoreState}
use Rattle.store_model.specs.StoreState.{waiting}
use Rattle.run_work.specs.JobMoves.{ReplaceMove, ReplacesBlob}
use Rattle.run_work.specs.Reading.{job_left_in_run}
use Rattle.run_work.specs.RunState.{ReplacementPhase}
use Rattle.run_moves.specs.JobTurns.{IsJobMove}
use Rattle.run_moves.specs.Projection.{blobs_in_run, heads_found, job_in_run, phases_in_run, replacement_for}
use Rattle.run_moves.specs.Projection.{run_by, run_state_of, RunMessages}
use Rattle.run_moves.specs.Sizes.{sizes_of}
use Rattle.run_moves.proofs.BlobReplaced.{replaces_blob}
use Rattle.run_moves.proofs.JobTurning.{frozen_on, goes_on, nothing_left, waits_on}

-- it is no insert's
seen_so : (serves : Service) → ((channel : ℕ) → serves ≢ ForInsert channel)
    → replacement_for serves ≡ ReplacementPhase
seen_so (ForCommand channel) other = refl
seen_so (ForInsert channel) other = absurd (other channel refl)
seen_so ForRepair other = refl

-- with nothing left behind it no row waits
last_waits : (serves : Service) (r : Replacing) → ((channel : ℕ) → serves ≢ ForInsert channel)
    → waiting serves (Replaces r None ∷ []) ≡ None
last_waits (ForCommand channel) r other = refl
last_waits (ForInsert channel) r other = absurd (other channel refl)
last_waits ForRepair r other = refl

module _ (p q : StoreState) (d : RunMessages) (first : Volumes) (well : RunsWell first p) (later : RunsWell first q)
    (told : Bool) (t : ReplacesMore told p q) where
  abbrev job : JobState
  job = t.running.job

  abbrev r : Replacing
  r = t.replacing

  abbrev base_new : Metas
  base_new = replaced p.base r

  abbrev generations_new : Map ℕ
  generations_new = generations_with p.generations p.drawn r (made_by r)

  can : CanReplace p.super p.base p.chains (gained_by p.rows job) job.written r
  can = (subst (Lays p.super p.base p.chains (gained_by p.rows job) job.written) t.running.next
      (well.job job t.running.is).lays).0

  generations_are : AreGenerations base_new generations_new (p.drawn + length (made_by r))
  generations_are = subst (λ (v : StoreState). AreGenerations v.base v.generations v.drawn) t.next later.generations

  replaces : ReplacesBlob (sizes_of p.super) (blobs_in_run p.base p.generations)
      (blobs_in_run base_new generations_new)
  replaces = replaces_blob p first well (gained_by p.rows job) job.written r can generations_new
      (p.drawn + length (made_by r)) generations_are

  -- the replacement
  pub replaces_more_moves : IsJobMove p q d ReplaceMove
  replaces_more_moves =
      let finds = heads_found p.super t.device.reads base_new p.live in
      let rest = phases_in_run job.serves t.running.rest in
      record {
        job = job_in_run job;
        rest = rest;
        runs = ap (option_map job_in_run) t.running.is;
        here = ap (phases_in_run job.serves) t.running.next ∙ ap (λ x. x ∷ rest) (seen_so job.serves t.no_insert);
        ends = λ none. ap (waiting job.serves) t.running.next
            ∙ ap (λ l. waiting job.serves (Replaces r None ∷ l)) (nothing_left job.serves t.running.rest none)
            ∙ last_waits job.serves r t.no_insert;
        blobs = blobs_in_run base_new generations_new;
        finds = finds;
        replaces = replaces;
        next = ap (λ v. run_state_of v d) t.next
            ∙ ap (λ j. record (run_by p.super t.device.reads base_new generations_new p.live p.rows
            (going_on (record job { claimed = [] }) [] t.running.rest)
            (frozen_behind p.frozen job t.running.rest) d) { job = j })
            (goes_on (record job { claimed = [] }) t.running.rest [] (waiting job.serves job.todo)
            (sym (ap (waiting job.serves) t.running.next ∙ waits_on job.serves (Replaces r None) t.running.rest refl)))
            ∙ ap (λ f. record (run_state_of p d) {
              blobs = blobs_in_run base_new generations_new;
              finds = finds;
              job = job_left_in_run (job_in_run job) rest;
              frozen = f;
            }) (frozen_on p.frozen job t.running.rest);
      }
