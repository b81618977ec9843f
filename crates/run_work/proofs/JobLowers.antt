-- Each move of a job's turns lowers the work.
use Rattle.std.proofs.Common.{◌≡◌, ℕ, zero, suc, ◌+◌, ◌*◌, ◌<◌, ◌≤◌, if◌then◌else◌, Option, Some, None, Bool, true}
use Rattle.std.proofs.Common.{false, List, [], ◌∷◌, length, refl, sym, ◌∙◌, ap, subst, arith}
use Rattle.run_work.specs.RunState.{AtDecided, AtInJob, BlobsInRun, ClaimInRun, CommandInRun, CommitPhase, DeviceFlush}
use Rattle.run_work.specs.RunState.{FoundHeads, InsertPhase, JobInRun, MetadataCommand, PagePhase, PageRead, PageWrite}
use Rattle.run_work.specs.RunState.{PhaseInRun, ReplacementPhase, RowInRun, RunSizes, RunState}
use Rattle.run_work.specs.Reading.{asks_metadata, job_left_in_run, logged_row, slot_at, slot_in, stage_after_insert}
use Rattle.run_work.specs.Reading.{unclaimed_at, with_filled}
use Rattle.run_work.specs.Work.{again_work, base_work, command_work, commit_is_left, decision_is_left, empties}
use Rattle.run_work.specs.Work.{empty_in, empty_slots, job_work, replacement_work, replacements_in, row_behind}
use Rattle.run_work.specs.Work.{row_work, slot_work, to_pay}
use Rattle.run_work.specs.JobMoves.{CommitMove, DropMove, FailMove, InsertMove, PageMove, ReplaceMove, ReplacesBlob}
use Rattle.run_work.specs.JobMoves.{WinMove}
use Rattle.run_work.proofs.Sums.{suc_times, sum_at, times_le, times_plus, times_suc}
use Rattle.run_work.proofs.RowWork.{any_row, no_row, one_row, work_of}

module _ (z : RunSizes) where
  -- ---- phases

  -- a job by its phases
  job_of : (j : JobInRun) (phases : List PhaseInRun) → j.phases ≡ phases
      → job_work z (Some j) ≡ job_work z (Some (record j { phases = phases }))
  job_of j phases is = ap (λ l. job_work z (Some (record j { phases = l }))) is

  -- what goes on has no more work than the job with these phases
  goes_on : (j : JobInRun) (rest : List PhaseInRun)
      → job_work z (job_left_in_run j rest) ≤ job_work z (Some (record j { phases = rest }))
  goes_on j [] = omega arith
  goes_on j (x ∷ xs) = omega arith

  most_behind : (o : Option ℕ) (phases : List PhaseInRun) → row_behind z o phases ≤ again_work z
  most_behind None phases = omega arith
  most_behind (Some ch) phases = go (decision_is_left phases)
    where
      go : (t : Bool) → (if t then 0 else again_work z) ≤ again_work z
      go true = omega arith
      go false = omega arith

  -- a page is one turn less
  page_done : (j : JobInRun) (rest : List PhaseInRun)
      → job_work z (Some (record j { phases = rest })) + 1
      ≡ job_work z (Some (record j { phases = PagePhase ∷ rest }))
  page_done j rest = go j.waits
    where
      go : (o : Option ℕ) → job_work z (Some (record j { phases = rest; waits = o })) + 1
          ≡ job_work z (Some (record j { phases = PagePhase ∷ rest; waits = o }))
      go None = omega arith
      go (Some ch) = omega arith

  -- a page is written
  pub writes : (w v : RunState) → PageMove z w v → base_work z v < base_work z w
  writes w v c =
      let was = ap (job_work z) c.runs in
      let here = job_of c.job (PagePhase ∷ c.rest) c.here in
      let less = page_done c.job c.rest in
      let on = goes_on c.job c.rest in
      subst (λ x. base_work z x < base_work z w) (sym c.next) (omega (arith, was, here, less, on))

  -- ---- an insert

  fills_one : (l : List Bool) (k : ℕ) → slot_at l k ≡ Some false → suc (empty_slots (with_filled l k)) ≡ empty_slots l
  fills_one [] k is = absurd (cc is)
  fills_one (true ∷ l) zero is = absurd (cc is)
  fills_one (false ∷ l) zero is = refl
  fills_one (true ∷ l) (suc k) is = fills_one l k is
  fills_one (false ∷ l) (suc k) is = ap suc (fills_one l k is)

  -- a row without a metadata command pays with all of its commands in the job too
  pays_all : (l : List CommandInRun) → asks_metadata l ≡ false → to_pay l AtInJob ≡ length l
  pays_all [] is = refl
  pays_all (PageRead v ∷ l) is = refl
  pays_all (PageWrite v s ∷ l) is = refl
  pays_all (DeviceFlush ∷ l) is = refl
  pays_all (MetadataCommand ∷ l) is = absurd (cc is)

  -- the row and the job behind an insert
  inserted : (blobs : BlobsInRun) (finds : FoundHeads) (row : RowInRun) (j : JobInRun) (rest : List PhaseInRun)
      → row.stage ≡ AtInJob → asks_metadata row.left ≡ false
      → job_work z (job_left_in_run j rest) + row_work z blobs finds (unclaimed_at row (stage_after_insert rest))
      < length rest + replacements_in rest * replacement_work z + 2
      + command_work z * to_pay row.left row.stage + again_work z
  inserted blobs finds row j [] stage plain =
      let counts : command_work z * to_pay row.left row.stage ≡ command_work z * length row.left =
      ap (λ s. command_work z * to_pay row.left s) stage
      ∙ ap (λ n. command_work z * n) (pays_all row.left plain) in
      omega (arith, counts)
  inserted blobs finds row j (x ∷ xs) stage plain =
      let counts : command_work z * to_pay row.left row.stage ≡ command_work z * to_pay row.left AtInJob =
      ap (λ s. command_work z * to_pay row.left s) stage in
      let most = most_behind j.waits (x ∷ xs) in
      omega (arith, counts, most)

  -- the replacement of an insert pays with a slot
  pub inserts : (w v : RunState) (ch : ℕ) → ch < z.rows → InsertMove z w ch v → base_work z v < base_work z w
  inserts w v ch low c =
      let row = w.rows ch in
      let next : RowInRun = unclaimed_at row (stage_after_insert c.rest) in
      let was = ap (job_work z) c.runs in
      let here = job_of c.job (InsertPhase ∷ c.rest) c.here in
      let both = inserted c.blobs w.finds row c.job c.rest c.stage c.plain in
      let all = any_row z w.blobs c.blobs w.finds w.finds w.rows ch next low in
      let at_head = ap empty_in c.there in
      let at_new = ap empty_in c.filled in
      let one = fills_one c.blob.slots c.slot (ap (λ o. slot_in o c.slot) (sym c.there) ∙ c.empty) in
      let sum = sum_at (λ h. empty_in (c.blobs h)) (λ h. empty_in (w.blobs h)) z.heads c.head
      (λ k ne. ap empty_in (c.others k ne)) c.inside in
      let less : empties z w.blobs ≡ suc (empties z c.blobs) = omega (arith, at_head, at_new, one, sum) in
      let pays = ap (λ n. slot_work z * n) less ∙ times_suc (slot_work z) (empties z c.blobs) in
      subst (λ x. base_work z x < base_work z w) (sym c.next) (omega (arith, was, here, both, all, pays))

  -- behind the insert the job keeps what its row does once more
  kept_behind : (j : JobInRun) (ch : ℕ) → j.waits ≡ Some ch
      → job_work z (Some (record j { phases = PagePhase ∷ [] })) ≡ again_work z + 2
  kept_behind j ch is =
      ap (λ o. job_work z (Some (record j { phases = PagePhase ∷ []; waits = o }))) is ∙ omega arith

  -- the last page of an insert
  pub wins : (w v : RunState) (ch : ℕ) → ch < z.rows → WinMove z w ch v → base_work z v < base_work z w
  wins w v ch low c =
      let row = w.rows ch in
      let next : RowInRun = unclaimed_at row AtDecided in
      let was = ap (job_work z) c.runs in
      let here = job_of c.job (PagePhase ∷ []) c.last in
      let kept = kept_behind c.job ch c.waits in
      let counts : command_work z * to_pay row.left row.stage ≡ command_work z * length row.left =
      ap (λ s. command_work z * to_pay row.left s) c.stage
      ∙ ap (λ n. command_work z * n) (pays_all row.left c.plain) in
      let all = one_row z w.blobs w.finds w.rows ch next low in
      subst (λ x. base_work z x < base_work z w) (sym c.next) (omega (arith, was, here, kept, counts, all))

  -- ---- replacements

  -- a replacement gives at most a whole blob's slots back
  gives : (blobs others : BlobsInRun) → ReplacesBlob z blobs others
      → slot_work z * empties z others ≤ slot_work z * empties z blobs + slot_work z * z.slots
  gives blobs others r =
      let sum = sum_at (λ h. empty_in (others h)) (λ h. empty_in (blobs h)) z.heads r.head r.others r.inside in
      let few = r.few in
      let most : empties z others ≤ empties z blobs + z.slots = omega (arith, sum, few) in
      let times = times_le (slot_work z) (empties z others) (empties z blobs + z.slots) most in
      let plus = times_plus (slot_work z) (empties z blobs) z.slots in
      omega (arith, times, plus)

  -- one replacement less
  replacement_done : (j : JobInRun) (rest : List PhaseInRun)
      → job_work z (Some (record j { phases = rest })) + replacement_work z
      < job_work z (Some (record j { phases = ReplacementPhase ∷ rest }))
  replacement_done j rest = go j.waits
    where
      step : suc (replacements_in rest) * replacement_work z
          ≡ replacement_work z + replacements_in rest * replacement_work z
      step = suc_times (replacements_in rest) (replacement_work z)

      go : (o : Option ℕ) → job_work z (Some (record j { phases = rest; waits = o })) + replacement_work z
          < job_work z (Some (record j { phases = ReplacementPhase ∷ rest; waits = o }))
      go None = omega (arith, step)
      go (Some ch) = omega (arith, step)

  -- a replacement that is no commit
  pub replaces : (w v : RunState) → ReplaceMove z w v → base_work z v < base_work z w
  replaces w v c =
      let was = ap (job_work z) c.runs in
      let here = job_of c.job (ReplacementPhase ∷ c.rest) c.here in
      let less = replacement_done c.job c.rest in
      let on = goes_on c.job c.rest in
      let all = no_row z w.blobs c.blobs w.finds c.finds w.rows in
      let most = gives w.blobs c.blobs c.replaces in
      subst (λ x. base_work z x < base_work z w) (sym c.next) (omega (arith, was, here, less, on, all, most))

  -- the same of a commit, behind which no row waits
  commit_done : (j : JobInRun) (rest : List PhaseInRun)
      → job_work z (Some (record j { phases = rest; waits = None })) + replacement_work z
      < job_work z (Some (record j { phases = CommitPhase ∷ rest }))
  commit_done j rest = let step = suc_times (replacements_in rest) (replacement_work z) in omega (arith, step)

  in_job_pays : (w : RunState) (ch : ℕ) (commands : List CommandInRun) → (w.rows ch).left ≡ MetadataCommand ∷ commands
      → (w.rows ch).stage ≡ AtInJob → command_work z * length commands ≤ row_work z w.blobs w.finds (w.rows ch)
  in_job_pays w ch commands left stage =
      let counts : command_work z * to_pay (w.rows ch).left (w.rows ch).stage ≡ command_work z * length commands =
      ap (λ s. command_work z * to_pay (w.rows ch).left s) stage
      ∙ ap (λ l. command_work z * to_pay l AtInJob) left in
      omega (arith, counts)

  -- the commit
  pub commits : (w v : RunState) (ch : ℕ) → ch < z.rows → CommitMove z w ch v → base_work z v < base_work z w
  commits w v ch low c =
      let next : RowInRun = logged_row c.commands AtDecided in
      let was = ap (job_work z) c.runs in
      let here = job_of c.job (CommitPhase ∷ c.rest) c.here in
      let less = commit_done c.job c.rest in
      let on = goes_on (record c.job { waits = None }) c.rest in
      let pays = in_job_pays w ch c.commands c.left c.stage in
      let all = any_row z w.blobs c.blobs w.finds c.finds w.rows ch next low in
      let most = gives w.blobs c.blobs c.replaces in
      subst (λ x. base_work z x < base_work z w) (sym c.next)
      (omega (arith, was, here, less, on, pays, all, most))

  -- ---- failures

  -- a job whose commit is left still pays for it
  commit_pays : (phases : List PhaseInRun) → commit_is_left phases ≡ true
      → replacement_work z ≤ replacements_in phases * replacement_work z
  commit_pays [] is = absurd (cc is)
  commit_pays (CommitPhase ∷ l) is =
      let step = suc_times (replacements_in l) (replacement_work z) in omega (arith, step)
  commit_pays (PagePhase ∷ l) is = commit_pays l is
  commit_pays (InsertPhase ∷ l) is = commit_pays l is
  commit_pays (ReplacementPhase ∷ l) is =
      let step = suc_times (replacements_in l) (replacement_work z) in
      let rest = commit_pays l is in
      omega (arith, step, rest)

  -- a command that is logged pays for it, or its job does
  failed : (blobs : BlobsInRun) (finds : FoundHeads) (command : CommandInRun) (l : List CommandInRun)
      (x : Option ClaimInRun) (j : JobInRun) → (command ≡ MetadataCommand → commit_is_left j.phases ≡ true)
      → row_work z blobs finds (record { left = l; stage = AtDecided; claim = None })
      < row_work z blobs finds (record { left = command ∷ l; stage = AtInJob; claim = x }) + job_work z (Some j)
  failed blobs finds (PageRead v) l x j is = let step = times_suc (command_work z) (length l) in omega (arith, step)
  failed blobs finds (PageWrite v s) l x j is =
      let step = times_suc (command_work z) (length l) in omega (arith, step)
  failed blobs finds DeviceFlush l x j is = let step = times_suc (command_work z) (length l) in omega (arith, step)
  failed blobs finds MetadataCommand l x j is = let pays = commit_pays j.phases (is refl) in omega (arith, pays)

  -- a failure for which a row waits
  pub fails : (w v : RunState) (ch : ℕ) → ch < z.rows → FailMove z w ch v → base_work z v < base_work z w
  fails w v ch low c =
      let row = w.rows ch in
      let next : RowInRun = logged_row c.commands AtDecided in
      let was = ap (job_work z) c.runs in
      let old = work_of z w.blobs w.finds row (c.command ∷ c.commands) AtInJob row.claim c.left c.stage refl in
      let less = failed w.blobs w.finds c.command c.commands row.claim c.job c.unlogged in
      let all = one_row z w.blobs w.finds w.rows ch next low in
      subst (λ x. base_work z x < base_work z w) (sym c.next) (omega (arith, was, old, less, all))

  -- a failure for which none waits
  pub drops : (w v : RunState) → DropMove z w v → base_work z v < base_work z w
  drops w v c =
      let was = ap (job_work z) c.runs in
      subst (λ x. base_work z x < base_work z w) (sym c.next) (omega (arith, was))
