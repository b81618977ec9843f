-- The end of a job on a stopped store.
use Rattle.std.proofs.Common.{◌≡◌, ◌⊎◌, ℕ, Bool, true, false, ◌∷◌, length, Option, Some, None, refl}
use Rattle.std.proofs.Common.{sym, ◌∙◌, ap, inl, inr, option_map}
use Rattle.std.specs.Option.{option_and_then}
use Rattle.std.specs.Prelude.{IsSome}
use Rattle.page_disk.specs.declared.disk.PageDisk.{Ghosts}
use Rattle.volume_model.specs.declared.reply.Reply.TheVariants.{Stopped}
use Rattle.store_model.specs.Cases as kind
use Rattle.store_model.specs.Filling.{FillStands}
use Rattle.store_model.specs.Phases.{has_commit}
use Rattle.store_model.specs.Rows.{Answered, Decided, Row}
use Rattle.store_model.specs.RunInvariant.{IsServedRow}
use Rattle.store_model.specs.StoreState.{ForCommand, ForInsert, JobState, Service, waiting}
use Rattle.store_model.proofs.Shaped.{waits_for_commit, waits_no_more}
use Rattle.running_store.specs.Jobs.{job_seen, service_of, waits_for_job}
use Rattle.metadata_turns.specs.JobTurns.{TurnsJob}
use Rattle.metadata_turns.specs.RowsWork.{RowsWork, WaitsToInsert}
use Rattle.running_store.specs.RunningState.{IsRunning}
use Rattle.running_store.specs.Steps.{logged_at}
use Rattle.running_store.specs.StoreView.{StoreView, rows_of, state_of}
use Rattle.running_store.specs.GivingBack.{HasWork, IsGivenUp, own}
use Rattle.running_store.specs.declared.job.RunningJob.{RunningJob}
use Rattle.running_store.specs.declared.job.Serves.{Serves}
use Rattle.running_store.specs.declared.job.Serves.TheVariants as whom
use Rattle.running_store.specs.declared.job.Work.{Work}
use Rattle.running_store.specs.declared.job.Work.TheVariants as works
use Rattle.running_store.proofs.Entered.{disk_same, entered}
use Rattle.metadata_turns.proofs.WhatWaits.{has_command}
use Rattle.running_store.proofs.Rowing.{low_left}
use Rattle.running_store.proofs.WorkLogged.{fill_still, given_up_plainly, given_up_rest, has_work, own_row, work_disk}
use Rattle.running_store.proofs.WorkLogged.{work_logged, work_low, works_still}

-- ---- what waits for a job

-- a job that serves a command, which waits for its commit in this channel
pub record WaitsIn (o : Option JobState) (channel : ℕ) : Type 0 where
  pub job : JobState
  pub is : o ≡ Some job
  pub serves : job.serves ≡ ForCommand channel
  pub commit : has_commit job.todo ≡ true

-- a job that inserts for this channel
pub record InsertsIn (o : Option JobState) (channel : ℕ) : Type 0 where
  pub job : JobState
  pub is : o ≡ Some job
  pub serves : job.serves ≡ ForInsert channel

waits_by : (job : JobState) (here channel : ℕ) (commit : Bool) → job.serves ≡ ForCommand here
    → has_commit job.todo ≡ commit → waits_for_job job ≡ Some channel → WaitsIn (Some job) channel
waits_by job here channel true serves commit waits =
    let both : Some here ≡ Some channel = sym (waits_for_commit job here serves commit) ∙ waits in
    let e : here ≡ channel = cc both in
    record { job = job; is = refl; serves = serves ∙ ap (λ n. ForCommand n) e; commit = commit }
waits_by job here channel false serves commit waits =
    absurd (let bad = sym (waits_no_more job here serves commit) ∙ waits in cc bad)

inserts_by : (job : JobState) (here channel : ℕ) → job.serves ≡ ForInsert here → waits_for_job job ≡ Some channel
    → InsertsIn (Some job) channel
inserts_by job here channel serves waits =
    let both : Some here ≡ Some channel = sym (ap (λ (s : Service). waiting s job.todo) serves) ∙ waits in
    let e : here ≡ channel = cc both in
    record { job = job; is = refl; serves = serves ∙ ap (λ n. ForInsert n) e }

seen_serves : (j : RunningJob) → (job_seen j).serves ≡ service_of j.serves
seen_serves j = by j.work refl
  where
    by : (w : Work) → j.work ≡ w → (job_seen j).serves ≡ service_of j.serves
    by (works.Zeroing planned zeroed) e = rw e refl
    by (works.Writing planned written) e = rw e refl
    by (works.Removing gone) e = rw e refl
    by (works.Erasing erased) e = rw e refl

-- what is seen of a running job serves a command or an insert
pub waits_either : (o : Option RunningJob) (channel : ℕ)
    → option_and_then waits_for_job (option_map job_seen o) ≡ Some channel
    → WaitsIn (option_map job_seen o) channel ⊎ InsertsIn (option_map job_seen o) channel
waits_either None channel waits = absurd (cc waits)
waits_either (Some j) channel waits = by j.serves refl
  where
    by : (s : Serves) → j.serves ≡ s → WaitsIn (Some (job_seen j)) channel ⊎ InsertsIn (Some (job_seen j)) channel
    by (whom.Command here freeze) e = inl (waits_by (job_seen j) here channel (has_commit (job_seen j).todo)
        (seen_serves j ∙ ap service_of e) refl waits)
    by (whom.Insert here) e = inr (inserts_by (job_seen j) here channel (seen_serves j ∙ ap service_of e) waits)
    by whom.Repair e =
        let none = ap (λ (s : Service). waiting s (job_seen j).todo) (seen_serves j ∙ ap service_of e) in
        absurd (let bad = sym none ∙ waits in cc bad)

-- where nothing waits, the job ends
pub none_waiting : {D : Type 0} (d : Ghosts D) (p : StoreView D) (o : Option RunningJob) → p.job ≡ option_map job_seen o
    → IsSome o → option_and_then waits_for_job (option_map job_seen o) ≡ None → (at : ℕ) → p.stopped ≡ Some at
    → TurnsJob d p (record p { job = None })
none_waiting d p None seen some waits at stands = absurd (cc some)
none_waiting d p (Some j) seen some waits at stands = record {
  kind = kind.breaks_down;
  of_job = tt;
  made = (
    record {
      job = job_seen j;
      is = seen;
      at = at;
      stands = stands;
      ends = inr (record { waits = waits; next = refl });
    },
    refl,
  );
}

-- ---- it is logged as stopped

module _ {D : Type 0} (d : Ghosts D) (p : StoreView D) (running : IsRunning (state_of d p))
    (work : RowsWork (state_of d p)) (seventeen : length p.rows ≡ 17) (row : ℕ) where
  served : WaitsIn p.job row → IsServedRow (rows_of p.rows row)
  served w = running.facts.shaped.served w.job row w.is w.serves w.commit

  to_insert : InsertsIn p.job row → WaitsToInsert (state_of d p) row
  to_insert w = work.inserts w.job row w.is w.serves

  row_left : (w : WaitsIn p.job row) → (rows_of p.rows row).left ≡ (served w).command ∷ (served w).rest
  row_left w = ap (λ (r : Row). r.left) (served w).is

  -- it works for a command
  pub waiting_works : WaitsIn p.job row ⊎ InsertsIn p.job row → HasWork p.filling p.rows row
  waiting_works (inl w) = own (has_command d p row seventeen work.fill (record {
    command = (served w).command;
    rest = (served w).rest;
    left = row_left w;
  }))
  waiting_works (inr w) = has_work d p seventeen work.fill row (to_insert w).works

  abbrev ended : StoreView D
  ended = record p { job = None }

  fill : FillStands (state_of d ended)
  fill = fill_still (state_of d p) (state_of d ended) refl refl work.fill

  module _ (at : ℕ) (stands : p.stopped ≡ Some at) (new : StoreView D)
      (given : IsGivenUp ended new row (Decided Answered) (Stopped at) (d.clock new.disk)) where
    -- a row that serves a command is a channel's
    plainly : (w : WaitsIn p.job row)
        → new ≡ logged_at ended row (served w).command (served w).rest (Stopped at) (d.clock new.disk)
    plainly w = given_up_plainly ended new row (Decided Answered) (Stopped at) (d.clock new.disk)
        (own_row d p seventeen work.fill new row (Decided Answered) (Stopped at) (served w).command (served w).rest
        (row_left w)) (ap (λ (r : Row). r.claim) (served w).is) given (served w).command (served w).rest (row_left w)

    -- its command is logged as stopped, and no job runs any more; or that which the row of an insert works for is
    pub broken_down : WaitsIn p.job row ⊎ InsertsIn p.job row → TurnsJob d p new
    broken_down (inl w) =
        let low = low_left p.rows row (served w).command (served w).rest (row_left w) in
        record {
          kind = kind.breaks_down;
          of_job = tt;
          made = (
            record {
              job = w.job;
              is = w.is;
              at = at;
              stands = stands;
              ends = inl (record {
                served = record {
                  channel = row;
                  serves = w.serves;
                  command = (served w).command;
                  rest = (served w).rest;
                  row = (served w).is;
                };
                waits = w.commit;
                next = entered d ended new row (served w).command (served w).rest (Stopped at) low (plainly w);
              });
            },
            disk_same d ended new row (served w).command (served w).rest (Stopped at) low (plainly w),
          );
        }
    broken_down (inr w) =
        let x = to_insert w in
        let low = work_low d p seventeen work.fill row x.works in
        let still = works_still (state_of d p) (state_of d ended) refl refl row x.works in
        record {
          kind = kind.insert_breaks_down;
          of_job = tt;
          made = (
            record {
              job = w.job;
              is = w.is;
              inserting = record { row = row; serves = w.serves; waits = x.stage };
              at = at;
              stands = stands;
              logs = work_logged d ended seventeen fill new row (Decided Answered) (Stopped at) low still given;
            },
            work_disk d ended seventeen fill new row (Decided Answered) (Stopped at) low still given,
          );
        }

    pub stopped_still : WaitsIn p.job row ⊎ InsertsIn p.job row → new.stopped ≡ Some at
    stopped_still waits =
        let same = given_up_rest ended new row (Decided Answered) (Stopped at) (d.clock new.disk)
        (waiting_works waits) given in
        same.0 ∙ stands
