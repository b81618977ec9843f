-- Each move of a job's turns keeps what every state of a run has.
use Rattle.std.proofs.Common.{◌≢◌, ◌≡◌, ℕ, Some, None, List, [], ◌∷◌, refl, sym, ◌∙◌, ap, subst}
use Rattle.run_work.specs.RunState.{AtDecided, AtInJob, AtPosted, JobInRun, PhaseInRun, RowInRun, RunSizes, RunState}
use Rattle.run_work.specs.Reading.{frozen_left, job_left_in_run, logged_row, stage_after_insert, unclaimed_at}
use Rattle.run_work.specs.ChannelMoves.{moved_row}
use Rattle.run_work.specs.ServingMoves.{WaitsInJob}
use Rattle.run_work.specs.JobMoves.{CommitMove, DropMove, FailMove, InsertMove, PageMove, ReplaceMove, WinMove}
use Rattle.run_work.specs.RunFacts.{awaited, RunFacts}
use Rattle.run_work.proofs.Changing.{same_rows, unposts_row}
use Rattle.run_work.proofs.Waited.{frozen_on, no_row, only_row, unfrozen, waits_on}

module _ (z : RunSizes) where
  -- a page is written
  pub written : (w v : RunState) → RunFacts w → PageMove z w v → RunFacts v
  written w v f c =
      let next : RunState = record w { job = job_left_in_run c.job c.rest; frozen = frozen_left w.frozen c.job c.rest }
      in
      subst RunFacts (sym c.next)
      (same_rows w next refl f (frozen_on w next c.job c.job.waits c.rest f c.runs refl)
      (waits_on w next c.job c.rest c.runs refl c.ends) (λ k. refl) (λ m way. way))

  -- a replacement that is no commit
  pub replaced : (w v : RunState) → RunFacts w → ReplaceMove z w v → RunFacts v
  replaced w v f c =
      let next : RunState = record w {
        blobs = c.blobs;
        finds = c.finds;
        job = job_left_in_run c.job c.rest;
        frozen = frozen_left w.frozen c.job c.rest;
      } in
      subst RunFacts (sym c.next)
      (same_rows w next refl f (frozen_on w next c.job c.job.waits c.rest f c.runs refl)
      (waits_on w next c.job c.rest c.runs refl c.ends) (λ k. refl) (λ m way. way))

  -- the row of an insert waits on, or is decided
  row_waits : (w v : RunState) (j : JobInRun) (ch : ℕ) (rest : List PhaseInRun) → j.waits ≡ Some ch
      → v.job ≡ job_left_in_run j rest → stage_after_insert rest ≡ AtInJob → WaitsInJob v ch
  row_waits w v j ch [] waits left is = absurd (cc is)
  row_waits w v j ch (x ∷ xs) waits left is = (record j { phases = x ∷ xs }, left, waits)

  -- no row is posted in its own insert
  unposted : (rest : List PhaseInRun) (n : ℕ) → stage_after_insert rest ≢ AtPosted n
  unposted [] n is = absurd (cc is)
  unposted (x ∷ xs) n is = absurd (cc is)

  -- the replacement of an insert
  pub inserted : (w v : RunState) (ch : ℕ) → RunFacts w → InsertMove z w ch v → RunFacts v
  inserted w v ch f c =
      let row : RowInRun = unclaimed_at (w.rows ch) (stage_after_insert c.rest) in
      let next : RunState = record (moved_row w ch row) { blobs = c.blobs; job = job_left_in_run c.job c.rest } in
      subst RunFacts (sym c.next)
      (unposts_row w next ch row refl f (λ h is. absurd (unfrozen w c.job f c.runs c.thaws h is))
      (λ k ne s. absurd (ne (only_row w c.job ch k c.runs c.waits s)))
      (row_waits w next c.job ch c.rest c.waits refl) (λ k ne. refl) (unposted c.rest)
      (f.counted ch ∙ ap (awaited ch) c.stage) (λ m way. way))

  -- the last page of an insert
  pub won : (w v : RunState) (ch : ℕ) → RunFacts w → WinMove z w ch v → RunFacts v
  won w v ch f c =
      let row : RowInRun = unclaimed_at (w.rows ch) AtDecided in
      subst RunFacts (sym c.next)
      (unposts_row w (record (moved_row w ch row) { job = None }) ch row refl f
      (λ h is. absurd (unfrozen w c.job f c.runs c.thaws h is))
      (λ k ne s. absurd (ne (only_row w c.job ch k c.runs c.waits s))) (λ is. absurd (cc is)) (λ k ne. refl)
      (λ n is. absurd (cc is)) (f.counted ch ∙ ap (awaited ch) c.stage) (λ m way. way))

  -- the commit
  pub committed : (w v : RunState) (ch : ℕ) → RunFacts w → CommitMove z w ch v → RunFacts v
  committed w v ch f c =
      let row : RowInRun = logged_row c.commands AtDecided in
      let next : RunState = record (moved_row w ch row) {
        blobs = c.blobs;
        finds = c.finds;
        job = job_left_in_run (record c.job { waits = None }) c.rest;
        frozen = frozen_left w.frozen c.job c.rest;
      } in
      subst RunFacts (sym c.next)
      (unposts_row w next ch row refl f (frozen_on w next c.job None c.rest f c.runs refl)
      (λ k ne s. absurd (ne (only_row w c.job ch k c.runs c.waits s))) (λ is. absurd (cc is)) (λ k ne. refl)
      (λ n is. absurd (cc is)) (f.counted ch ∙ ap (awaited ch) c.stage) (λ m way. way))

  -- a failure for which a row waits
  pub failed : (w v : RunState) (ch : ℕ) → RunFacts w → FailMove z w ch v → RunFacts v
  failed w v ch f c =
      let row : RowInRun = logged_row c.commands AtDecided in
      subst RunFacts (sym c.next)
      (unposts_row w (record (moved_row w ch row) { job = None; frozen = c.frozen }) ch row refl f
      (λ h is. absurd (cc (sym is ∙ c.thaws h))) (λ k ne s. absurd (ne (only_row w c.job ch k c.runs c.waits s)))
      (λ is. absurd (cc is)) (λ k ne. refl)
      (λ n is. absurd (cc is)) (f.counted ch ∙ ap (awaited ch) c.stage) (λ m way. way))

  -- a failure for which none waits
  pub dropped : (w v : RunState) → RunFacts w → DropMove z w v → RunFacts v
  dropped w v f c =
      subst RunFacts (sym c.next)
      (same_rows w (record w { job = None; frozen = c.frozen }) refl f (λ h is. absurd (cc (sym is ∙ c.thaws h)))
      (λ k s. absurd (no_row w c.job k c.runs c.waits s)) (λ k. refl) (λ m way. way))
