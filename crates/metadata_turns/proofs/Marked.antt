-- The store is marked as in use, before all else that a job does.
use Rattle.std.proofs.Common.{◌≡◌, List, ℕ, ◌∷◌, Bool, true, false, Some, IsTrue, refl, ap}
use Rattle.page_disk.specs.Disk.{Only}
use Rattle.page_disk.specs.Moments.{CallsLeaveOnly, IsReplaced}
use Rattle.page_disk.specs.declared.disk.PageDisk.{Ghosts}
use Rattle.store_model.specs.Cases.{WritesOnePage}
use Rattle.store_model.specs.Cases as kind
use Rattle.store_model.specs.Phases.{marking, Marks}
use Rattle.store_model.specs.Recovers.{SaysInUse}
use Rattle.store_model.specs.StoreState.{JobState}
use Rattle.running_store.specs.Jobs.{freeze_of, job_seen}
use Rattle.running_store.specs.StoreView.{device_of, StoreView}
use Rattle.running_store.specs.declared.job.RunningJob.{RunningJob}
use Rattle.running_store.specs.declared.job.Work.{Work}
use Rattle.running_store.specs.declared.job.Work.TheVariants as works
use Rattle.metadata_turns.specs.JobTurns.{with_job, IsAtWork, TurnsJob}

-- what is left once the mark is made
abbrev pub behind_mark : RunningJob → JobState
behind_mark job = job_seen (record job { marks = false })

-- the mark comes before all else
pub mark_first : (job : RunningJob) → job.marks ≡ true → (job_seen job).todo ≡ Marks ∷ (behind_mark job).todo
mark_first job is = ap (λ (b : Bool). marking b (behind_mark job).todo) is

-- the blob that it freezes
pub seen_freeze : (j : RunningJob) → (job_seen j).freeze ≡ freeze_of j.serves
seen_freeze j = by j.work refl
  where
    by : (w : Work) → j.work ≡ w → (job_seen j).freeze ≡ freeze_of j.serves
    by (works.Zeroing planned zeroed) e = rw e refl
    by (works.Writing planned written) e = rw e refl
    by (works.Removing gone) e = rw e refl
    by (works.Erasing erased) e = rw e refl

module _ {D : Type 0} (d : Ghosts D) (p : StoreView D) (job : RunningJob) (w : IsAtWork d p (job_seen job))
    (is : job.marks ≡ true) (disk : D) (page : List ℕ) where
  -- the mark is made, and the job goes on with what is left
  pub marked_store : SaysInUse p.super page
      → CallsLeaveOnly d p.disk disk (IsReplaced (d.images p.disk) (d.now p.disk) 0 page)
      → d.pages disk ≡ d.pages p.disk → (IsTrue d.tells → Only (d.now disk) (d.images disk))
      → WritesOnePage d.tells (device_of d p.disk) 0 page 3 (device_of d disk)
      → TurnsJob d (with_job p (job_seen job))
      (record p { clean = false; disk = disk; job = Some (behind_mark job) })
  marked_store says touches pages durable moves = record {
    kind = kind.marks_dirty;
    of_job = tt;
    made = (
      record {
        running = record {
          job = job_seen job;
          is = refl;
          rest = (behind_mark job).todo;
          next = mark_first job is;
          runs = w.not_stopped;
        };
        page = page;
        says = says;
        device = device_of d disk;
        moves = moves;
        next = refl;
      },
      record { moments = touches; durable = λ _ told. durable told; pages = pages },
    );
  }
