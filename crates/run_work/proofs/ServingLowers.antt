-- Each move by which a message is taken or served, or a fill goes on, lowers the work.
use Rattle.std.proofs.Common.{◌≡◌, ◌≢◌, ◌⊎◌, inl, inr, ℕ, suc, ◌+◌, ◌*◌, ◌<◌, ◌≤◌, Option, Some, None, Bool, true}
use Rattle.std.proofs.Common.{false, if◌then◌else◌, List, [], ◌∷◌, ◌++◌, length, refl, sym, ◌∙◌, ap, subst, arith}
use Rattle.std.proofs.Common.{length-append}
use Rattle.volume_model.specs.declared.reply.Msg.{Msg}
use Rattle.run_work.specs.RunState.{AtDecided, AtIdle, AtInJob, AtPosted, BlobsInRun, ClaimInRun, CommandInRun}
use Rattle.run_work.specs.RunState.{DeviceFlush, FoundHeads, JobInRun, MetadataCommand, PageRead, PageWrite, RowInRun}
use Rattle.run_work.specs.RunState.{RunSizes, RunState, StageInRun}
use Rattle.run_work.specs.Reading.{is_in_use, logged_row, row_at, unclaimed_at, with_row_in_run}
use Rattle.run_work.specs.Work.{again_if, again_work, base_work, command_work, decision_is_left, held_work, job_work}
use Rattle.run_work.specs.Work.{own_work, replacement_work, replacements_in, row_behind, row_work, to_end, to_pay}
use Rattle.run_work.specs.Work.{try_work, work}
use Rattle.run_work.specs.ServingMoves.{AnswerMove, BeginInsertMove, BeginJobMove, CloseMove, EndsFillIn, for_filled}
use Rattle.run_work.specs.ServingMoves.{for_message, in_fill, in_insert, LogFillMove, LoseInsertMove, Serves, TakeMove}
use Rattle.run_work.specs.ServingMoves.{TakesOut, TakeUpMove, the_filled, the_first, the_held, the_message, the_own}
use Rattle.run_work.specs.ServingMoves.{the_taken_over, WorksFor}
use Rattle.run_work.proofs.Sums.{le_times, row_here, times_suc}
use Rattle.run_work.proofs.RowWork.{any_row, one_row, work_of}

module _ (z : RunSizes) where
  -- the front message is taken
  pub takes : (w v : RunState) → TakeMove w v → base_work z v < base_work z w
  takes w v c =
      let len = ap length c.queue in
      let none = ap (held_work z) c.none in
      subst (λ x. base_work z x < base_work z w) (sym c.next) (omega (arith, len, none))

  -- what is held joins those that wait
  pub joins : (w : RunState) (m : Msg) → w.held ≡ Some m
      → base_work z (record w { held = None; waiting = w.waiting ++ m ∷ [] }) < base_work z w
  joins w m holds =
      let len = length-append w.waiting (m ∷ []) in
      let one = ap (held_work z) holds in
      omega (arith, len, one)

  -- messages fall by one that is taken out
  taken_less : (w : RunState) (m : Msg) (held : Option Msg) (waiting : List Msg) → TakesOut w m held waiting
      → held_work z held + length waiting < held_work z w.held + length w.waiting
  taken_less w m held waiting (the_held was none same) =
      let a = ap (held_work z) none in
      let b = ap length same in
      let some = ap (held_work z) was in
      omega (arith, a, b, some)
  taken_less w m held waiting (the_first same first) =
      let a = ap (held_work z) same in
      let b = ap length first in
      omega (arith, a, b)

  -- and don't grow where a row is served
  serves_least : (w : RunState) (ch : ℕ) (held : Option Msg) (waiting : List Msg) → Serves w ch held waiting
      → held_work z held + length waiting ≤ held_work z w.held + length w.waiting
  serves_least w ch held waiting (the_message m channel takes) =
      let less = taken_less w m held waiting takes in omega (arith, less)
  serves_least w ch held waiting (the_own own same too) =
      let a = ap (held_work z) same in
      let b = ap length too in
      omega (arith, a, b)

  -- a lost insert pays with what it does once more
  pub loses_insert : (w v : RunState) (ch : ℕ) → ch < z.rows → LoseInsertMove z w ch v
      → base_work z v < base_work z w
  loses_insert w v ch low c =
      let row = w.rows ch in
      let next : RowInRun = unclaimed_at row AtDecided in
      let old = work_of z w.blobs w.finds row row.left (AtPosted c.serial) (Some c.lost) refl c.stage c.claim in
      let hot = ap (λ t. again_if z t) c.doomed in
      let new = work_of z w.blobs w.finds next row.left AtDecided None refl refl refl in
      let all = one_row z w.blobs w.finds w.rows ch next low in
      let least = serves_least w ch c.held c.waiting c.serves in
      subst (λ x. base_work z x < base_work z w) (sym c.next) (omega (arith, all, old, hot, new, least))

  in_job_pays : (blobs : BlobsInRun) (finds : FoundHeads) (l : List CommandInRun) (x : ClaimInRun) (n : ℕ)
      → row_work z blobs finds (record { left = l; stage = AtInJob; claim = Some x }) + (z.insert_turns + 4)
      ≤ row_work z blobs finds (record { left = l; stage = AtPosted n; claim = Some x })
  in_job_pays blobs finds [] x n = omega arith
  in_job_pays blobs finds (PageRead v ∷ l) x n = omega arith
  in_job_pays blobs finds (PageWrite v s ∷ l) x n = omega arith
  in_job_pays blobs finds (DeviceFlush ∷ l) x n = omega arith
  in_job_pays blobs finds (MetadataCommand ∷ l) x n =
      let step = times_suc (command_work z) (length l) in omega (arith, step)

  -- while the decision is to come, nothing is left behind it
  nothing_behind : (j : JobInRun) → decision_is_left j.phases ≡ true → row_behind z j.waits j.phases ≡ 0
  nothing_behind j is = go j.waits
    where
      go : (o : Option ℕ) → row_behind z o j.phases ≡ 0
      go None = refl
      go (Some ch) = ap (λ t. if t then 0 else again_work z) is

  -- the job of an insert begins
  pub begins_insert : (w v : RunState) (ch : ℕ) → ch < z.rows → BeginInsertMove z w ch v
      → base_work z v < base_work z w
  begins_insert w v ch low c =
      let row = w.rows ch in
      let next : RowInRun = row_at row AtInJob in
      let old = work_of z w.blobs w.finds row row.left (AtPosted c.serial) (Some c.won) refl c.stage c.claim in
      let new = work_of z w.blobs w.finds next row.left AtInJob (Some c.won) refl refl c.claim in
      let less = in_job_pays w.blobs w.finds row.left c.won c.serial in
      let all = one_row z w.blobs w.finds w.rows ch next low in
      let least = serves_least w ch c.held c.waiting c.serves in
      let none = ap (job_work z) c.idle in
      let short = c.short in
      let plain = ap (λ n. n * replacement_work z) c.plain in
      let behind = nothing_behind c.job c.inserts in
      subst (λ x. base_work z x < base_work z w) (sym c.next)
      (omega (arith, all, old, new, less, least, none, short, plain, behind))

  -- a posted row's command pays
  posted_pays : (w : RunState) (ch serial : ℕ) (command : CommandInRun) (commands : List CommandInRun)
      → (w.rows ch).left ≡ command ∷ commands → (w.rows ch).stage ≡ AtPosted serial
      → command_work z * length commands + command_work z ≤ row_work z w.blobs w.finds (w.rows ch)
  posted_pays w ch serial command commands left stage =
      let counts : command_work z * to_pay (w.rows ch).left (w.rows ch).stage
      ≡ command_work z * suc (length commands) =
      ap (λ s. command_work z * to_pay (w.rows ch).left s) stage
      ∙ ap (λ n. command_work z * n) (ap length left) in
      let step = times_suc (command_work z) (length commands) in
      omega (arith, counts, step)

  -- a command is logged
  pub answers : (w v : RunState) (ch : ℕ) → ch < z.rows → AnswerMove z w ch v → base_work z v < base_work z w
  answers w v ch low c =
      let next : RowInRun = logged_row c.commands AtDecided in
      let pays = posted_pays w ch c.serial c.command c.commands c.left c.stage in
      let all = any_row z w.blobs w.blobs w.finds c.finds w.rows ch next low in
      let least = serves_least w ch c.held c.waiting c.serves in
      subst (λ x. base_work z x < base_work z w) (sym c.next) (omega (arith, all, pays, least))

  most_behind : (o : Option ℕ) (j : JobInRun) → row_behind z o j.phases ≤ again_work z
  most_behind None j = omega arith
  most_behind (Some ch) j = go (decision_is_left j.phases)
    where
      go : (t : Bool) → (if t then 0 else again_work z) ≤ again_work z
      go true = omega arith
      go false = omega arith

  -- the job of a command begins
  pub begins_job : (w v : RunState) (ch : ℕ) → ch < z.rows → BeginJobMove z w ch v → base_work z v < base_work z w
  begins_job w v ch low c =
      let next : RowInRun = logged_row (MetadataCommand ∷ c.commands) AtInJob in
      let pays = posted_pays w ch c.serial MetadataCommand c.commands c.left c.stage in
      let all = one_row z w.blobs w.finds w.rows ch next low in
      let least : held_work z c.held + length c.waiting ≤ held_work z w.held + length w.waiting = elim c.begins [
        | for_message same serves ↦ serves_least w ch c.held c.waiting serves
        | for_filled m fills channel unused held waiting none ↦
            let a = ap (held_work z) held in
            let b = ap length waiting in
            omega (arith, a, b)
      ] in
      let none = ap (job_work z) c.idle in
      let short = c.short in
      let few = le_times (replacements_in c.job.phases) z.replacements (replacement_work z) c.few in
      let behind = most_behind c.job.waits c.job in
      subst (λ x. base_work z x < base_work z w) (sym c.next)
      (omega (arith, all, pays, least, none, short, few, behind))

  -- a command becomes the fill
  pub takes_up : (w v : RunState) (m : Msg) → TakeUpMove z w m v → base_work z v < base_work z w
  takes_up w v m c =
      let less = taken_less w m c.held c.waiting c.takes in
      subst (λ x. base_work z x < base_work z w) (sym c.next) (omega (arith, less))

  own_most : (blobs : BlobsInRun) (finds : FoundHeads) (own : StageInRun) → (own ≡ AtIdle) ⊎ (own ≡ AtDecided)
      → row_work z blobs finds (logged_row [] own) ≤ try_work z + 1
  own_most blobs finds own (inl is) =
      let all = ap (λ s. row_work z blobs finds (logged_row [] s)) is in omega (arith, all)
  own_most blobs finds own (inr is) =
      let all = ap (λ s. row_work z blobs finds (logged_row [] s)) is in omega (arith, all)

  -- no job runs behind the logging of a fill's command
  job_least : (w : RunState) (job : Option JobInRun) (frozen : ℕ → Bool) → EndsFillIn w job frozen
      → job_work z job ≤ job_work z w.job
  job_least w job frozen (in_fill idle none fewer) = let is = ap (job_work z) none in omega (arith, is)
  job_least w job frozen (in_insert waits none thaws) = let is = ap (job_work z) none in omega (arith, is)

  -- nor is more held
  worked_least : (w : RunState) (x : Msg) (held : Option Msg) → WorksFor w x held
      → held_work z held ≤ held_work z w.held
  worked_least w x held (the_filled fills same) = let is = ap (held_work z) same in omega (arith, is)
  worked_least w x held (the_taken_over none was gone) = let is = ap (held_work z) gone in omega (arith, is)

  -- it pays for the ending of the own row too
  pub logs_fill : (w v : RunState) (ch : ℕ) → ch ≢ 16 → ch < z.rows → 16 < z.rows → LogFillMove z w ch v
      → base_work z v + (try_work z + 1) < base_work z w
  logs_fill w v ch ne low enough c =
      let next : RowInRun = logged_row c.commands AtDecided in
      let over : RowInRun = logged_row [] c.own in
      let pays = posted_pays w ch c.serial c.command c.commands c.left c.stage in
      let first = any_row z w.blobs w.blobs w.finds c.finds w.rows ch next low in
      let second = one_row z w.blobs c.finds (with_row_in_run w.rows ch next) 16 over enough in
      let most = own_most w.blobs c.finds c.own c.own_is in
      let job = job_least w c.job c.frozen c.ends in
      let held = worked_least w c.message c.held c.works in
      subst (λ x. base_work z x + (try_work z + 1) < base_work z w) (sym c.next)
      (omega (arith, pays, first, second, most, job, held))

  -- the own row waits again
  pub closes : (w v : RunState) → 16 < z.rows → CloseMove z w v → work z v < work z w
  closes w v enough c =
      let next : RowInRun = logged_row [] AtIdle in
      let all = one_row z w.blobs w.finds w.rows 16 next enough in
      let was : own_work z w ≡ try_work z + 1 =
      ap (λ f. to_end z f (is_in_use (w.rows 16).stage)) c.none ∙ ap (λ b. to_end z None b) c.used in
      let done : own_work z (record w { rows = with_row_in_run w.rows 16 next }) ≡ 0 =
      ap (λ f. to_end z f (is_in_use (with_row_in_run w.rows 16 next 16).stage)) c.none
      ∙ ap (λ (r : RowInRun). to_end z None (is_in_use r.stage)) (row_here w.rows 16 next) in
      subst (λ x. work z x < work z w) (sym c.next) (omega (arith, all, was, done))
