-- Each move of a row lowers the work.
use Rattle.std.proofs.Common.{◌≡◌, ◌≢◌, inl, inr, ℕ, zero, suc, ◌+◌, ◌*◌, ◌<◌, ◌≤◌, ◌==◌, Option, Some, None, Bool}
use Rattle.std.proofs.Common.{true, false, ◌&&◌, not, List, [], ◌∷◌, length, refl, sym, ◌∙◌, ap, subst, arith}
use Rattle.std.proofs.Common.{length-append}
use Rattle.std.proofs.lemmas.Bool.Decides.{eqb_tells}
use Rattle.run_work.specs.RunState.{AtClaiming, AtCopying, AtDecided, AtEnded, AtIdle, AtInJob, AtPosted, AtReady}
use Rattle.run_work.specs.RunState.{BlobInRun, BlobsInRun, ClaimInRun, CommandInRun, FoundHeads, PageWrite, RowInRun}
use Rattle.run_work.specs.RunState.{RunSizes, RunState, StageInRun}
use Rattle.run_work.specs.Reading.{has_generation, is_empty, is_filled, is_there, logged_row, row_at, slot_found}
use Rattle.run_work.specs.Reading.{slot_in, stage_of_copy, unclaimed_at}
use Rattle.run_work.specs.Work.{again_if, base_work, command_work, is_doomed, is_filled_now, one_if, row_work, to_pay}
use Rattle.run_work.specs.Work.{unsent_work}
use Rattle.run_work.specs.ChannelMoves.{asking, by_claim, by_copy, by_empty, by_end, by_filled, by_log, by_lose}
use Rattle.run_work.specs.ChannelMoves.{by_post, by_row, by_send, by_settle, ChannelMove, ClaimMove, copied, CopyMove}
use Rattle.run_work.specs.ChannelMoves.{EmptyMove, EndMove, FilledMove, for_fill, for_write, LogMove, logs_itself}
use Rattle.run_work.specs.ChannelMoves.{LoseMove, PostMove, RowMove, SendMove, SettleMove, WritesInto}
use Rattle.run_work.proofs.Sums.{sum_at, times_suc}
use Rattle.run_work.proofs.RowWork.{lowers_row, one_row, work_of}

module _ (z : RunSizes) where
  -- whether the slot of a write is filled
  filled_now : (w : RunState) (ch head slot : ℕ) (write : WritesInto w ch head slot) (t : Bool)
      → is_filled (slot_in (w.blobs head) slot) ≡ t
      → is_filled_now w.blobs w.finds (PageWrite write.volume slot ∷ write.commands) ≡ t
  filled_now w ch head slot write t is = ap (λ o. is_filled (slot_found w.blobs o slot)) write.found ∙ is

  finds_empty : (w v : RunState) (ch : ℕ) → ch < z.rows → EmptyMove z w ch v → base_work z v < base_work z w
  finds_empty w v ch low c =
      let row = w.rows ch in
      let left = PageWrite c.write.volume c.slot ∷ c.write.commands in
      let old = work_of z w.blobs w.finds row left AtIdle None c.write.left c.stage c.claim in
      let new = work_of z w.blobs w.finds (row_at row AtClaiming) left AtClaiming None c.write.left refl c.claim in
      let cold = ap (λ t. again_if z t) (filled_now w ch c.head c.slot c.write false c.unfilled) in
      subst (λ x. base_work z x < base_work z w) (sym c.next)
      (lowers_row z w ch (row_at row AtClaiming) low (omega (arith, old, new, cold)))

  finds_filled : (w v : RunState) (ch : ℕ) → ch < z.rows → FilledMove z w ch v → base_work z v < base_work z w
  finds_filled w v ch low c =
      let row = w.rows ch in
      let left = PageWrite c.write.volume c.slot ∷ c.write.commands in
      let old = work_of z w.blobs w.finds row left AtClaiming None c.write.left c.stage c.claim in
      let new = work_of z w.blobs w.finds (row_at row AtIdle) left AtIdle None c.write.left refl c.claim in
      let hot = ap (λ t. again_if z t) (filled_now w ch c.head c.slot c.write true c.filled) in
      subst (λ x. base_work z x < base_work z w) (sym c.next)
      (lowers_row z w ch (row_at row AtIdle) low (omega (arith, old, new, hot)))

  same_refl : (n : ℕ) → (n == n) ≡ true
  same_refl n = elim (eqb_tells n n) [ inl h ↦ h.0 | inr h ↦ absurd (h.1 refl) ]

  -- a new claim isn't doomed
  fresh_claim : (w : RunState) (head slot : ℕ) (blob : BlobInRun) → w.blobs head ≡ Some blob
      → slot_in (w.blobs head) slot ≡ Some false
      → is_doomed w.blobs (record { head = head; slot = slot; generation = blob.generation }) ≡ false
  fresh_claim w head slot blob there empty =
      ap (λ o. not (has_generation o blob.generation && is_empty (slot_in (w.blobs head) slot))) there
      ∙ ap (λ t. not (t && is_empty (slot_in (w.blobs head) slot))) (same_refl blob.generation)
      ∙ ap (λ o. not (is_empty o)) empty

  claims : (w v : RunState) (ch : ℕ) → ch < z.rows → ClaimMove z w ch v → base_work z v < base_work z w
  claims w v ch low c =
      let row = w.rows ch in
      let x : ClaimInRun = record { head = c.head; slot = c.slot; generation = c.blob.generation } in
      let next : RowInRun = record row { stage = AtCopying z.pages; claim = Some x } in
      let new = work_of z w.blobs w.finds next row.left (AtCopying z.pages) (Some x) refl refl refl in
      let cold = ap (λ t. again_if z t) (fresh_claim w c.head c.slot c.blob c.there c.empty) in
      let less : row_work z w.blobs w.finds next < row_work z w.blobs w.finds row = elim c.claims [
        | for_write at write ↦
            let old = work_of z w.blobs w.finds row row.left AtClaiming None refl at c.claim in
            omega (arith, old, new, cold)
        | for_fill own at ↦
            let old = work_of z w.blobs w.finds row row.left AtIdle None refl at c.claim in
            omega (arith, old, new, cold)
      ] in
      subst (λ x. base_work z x < base_work z w) (sym c.next) (lowers_row z w ch next low less)

  copied_one : (blobs : BlobsInRun) (finds : FoundHeads) (l : List CommandInRun) (x : ClaimInRun) (left : ℕ)
      → row_work z blobs finds (record { left = l; stage = stage_of_copy left; claim = Some x })
      < row_work z blobs finds (record { left = l; stage = AtCopying (suc left); claim = Some x })
  copied_one blobs finds l x zero = omega arith
  copied_one blobs finds l x (suc left) = omega arith

  copies : (w v : RunState) (ch : ℕ) → ch < z.rows → CopyMove z w ch v → base_work z v < base_work z w
  copies w v ch low c =
      let row = w.rows ch in
      let next : RowInRun = row_at row (stage_of_copy c.left) in
      let old = work_of z w.blobs w.finds row row.left (AtCopying (suc c.left)) (Some c.held) refl c.stage c.claim in
      let new = work_of z w.blobs w.finds next row.left (stage_of_copy c.left) (Some c.held) refl refl c.claim in
      let less = copied_one w.blobs w.finds row.left c.held c.left in
      subst (λ x. base_work z x < base_work z w) (sym c.next)
      (lowers_row z w ch next low (omega (arith, old, new, less)))

  loses : (w v : RunState) (ch : ℕ) → ch < z.rows → LoseMove z w ch v → base_work z v < base_work z w
  loses w v ch low c =
      let row = w.rows ch in
      let next : RowInRun = unclaimed_at row AtIdle in
      let old = work_of z w.blobs w.finds row row.left (AtCopying (suc c.left)) (Some c.held) refl c.stage c.claim in
      let hot = ap (λ t. again_if z t) c.lost in
      let new = work_of z w.blobs w.finds next row.left AtIdle None refl refl refl in
      subst (λ x. base_work z x < base_work z w) (sym c.next)
      (lowers_row z w ch next low (omega (arith, old, new, hot)))

  one_most : (t : Bool) → one_if t ≤ 1
  one_most true = omega arith
  one_most false = omega arith

  -- at most one message more is unsent
  one_more : (u v : ℕ → Option ℕ) (ch : ℕ) → ch < z.rows → ((k : ℕ) → k ≢ ch → v k ≡ u k)
      → unsent_work z v ≤ unsent_work z u + 1
  one_more u v ch low others =
      let all = sum_at (λ k. one_if (is_there (v k))) (λ k. one_if (is_there (u k))) z.rows ch
      (λ k ne. ap (λ o. one_if (is_there o)) (others k ne)) low in
      let one = one_most (is_there (v ch)) in
      omega (arith, all, one)

  one_less : (u v : ℕ → Option ℕ) (ch serial : ℕ) → ch < z.rows → u ch ≡ Some serial → v ch ≡ None
      → ((k : ℕ) → k ≢ ch → v k ≡ u k) → unsent_work z v + 1 ≡ unsent_work z u
  one_less u v ch serial low was is others =
      let all = sum_at (λ k. one_if (is_there (v k))) (λ k. one_if (is_there (u k))) z.rows ch
      (λ k ne. ap (λ o. one_if (is_there o)) (others k ne)) low in
      let a = ap (λ o. one_if (is_there o)) was in
      let b = ap (λ o. one_if (is_there o)) is in
      omega (arith, all, a, b)

  -- the stages that post have at least five more than the posted one
  posted_from : (blobs : BlobsInRun) (finds : FoundHeads) (l : List CommandInRun) (claim : Option ClaimInRun)
      (serial : ℕ) → (row_work z blobs finds (record { left = l; stage = AtPosted serial; claim = claim }) + 5
      ≤ row_work z blobs finds (record { left = l; stage = AtReady; claim = claim }))
      × (row_work z blobs finds (record { left = l; stage = AtPosted serial; claim = claim }) + 5
      ≤ row_work z blobs finds (record { left = l; stage = AtIdle; claim = claim }))
  posted_from blobs finds l None serial = (omega arith, omega arith)
  posted_from blobs finds l (Some x) serial = (omega arith, omega arith)

  posts : (w v : RunState) (ch : ℕ) → ch < z.rows → PostMove z w ch v → base_work z v < base_work z w
  posts w v ch low c =
      let row = w.rows ch in
      let next : RowInRun = row_at row (AtPosted c.serial) in
      let new = work_of z w.blobs w.finds next row.left (AtPosted c.serial) row.claim refl refl refl in
      let five = posted_from w.blobs w.finds row.left row.claim c.serial in
      let five_ready = five.0 in
      let five_idle = five.1 in
      let less : row_work z w.blobs w.finds next + 5 ≤ row_work z w.blobs w.finds row = elim c.from [
        | copied at ↦
            let old = work_of z w.blobs w.finds row row.left AtReady row.claim refl at refl in
            omega (arith, old, new, five_ready)
        | asking commands left at ↦
            let old = work_of z w.blobs w.finds row row.left AtIdle row.claim refl at refl in
            omega (arith, old, new, five_idle)
      ] in
      let all = one_row z w.blobs w.finds w.rows ch next low in
      let more = one_more w.unsent c.unsent ch low c.others in
      subst (λ x. base_work z x < base_work z w) (sym c.next) (omega (arith, all, less, more))

  settled_row : (blobs : BlobsInRun) (finds : FoundHeads) (l : List CommandInRun) (claim : Option ClaimInRun)
      → row_work z blobs finds (record { left = l; stage = AtIdle; claim = None })
      < row_work z blobs finds (record { left = l; stage = AtDecided; claim = claim })
  settled_row blobs finds l None = omega arith
  settled_row blobs finds l (Some x) = omega arith

  settles : (w v : RunState) (ch : ℕ) → ch < z.rows → SettleMove z w ch v → base_work z v < base_work z w
  settles w v ch low c =
      let row = w.rows ch in
      let next : RowInRun = unclaimed_at row AtIdle in
      let old = work_of z w.blobs w.finds row row.left AtDecided row.claim refl c.stage refl in
      let less = settled_row w.blobs w.finds row.left row.claim in
      subst (λ x. base_work z x < base_work z w) (sym c.next) (lowers_row z w ch next low (omega (arith, old, less)))

  ended_row : (blobs : BlobsInRun) (finds : FoundHeads) (claim : Option ClaimInRun)
      → row_work z blobs finds (record { left = []; stage = AtEnded; claim = None })
      < row_work z blobs finds (record { left = []; stage = AtIdle; claim = claim })
  ended_row blobs finds None = omega arith
  ended_row blobs finds (Some x) = omega arith

  ends : (w v : RunState) (ch : ℕ) → ch < z.rows → EndMove z w ch v → base_work z v < base_work z w
  ends w v ch low c =
      let row = w.rows ch in
      let old = work_of z w.blobs w.finds row [] AtIdle row.claim c.left c.stage refl in
      let less = ended_row w.blobs w.finds row.claim in
      subst (λ x. base_work z x < base_work z w) (sym c.next)
      (lowers_row z w ch (logged_row [] AtEnded) low (omega (arith, old, less)))

  -- a row that logs itself pays with all its commands
  pays_all : (l : List CommandInRun) (s : StageInRun) → logs_itself s ≡ true → to_pay l s ≡ length l
  pays_all l AtIdle is = refl
  pays_all l AtClaiming is = refl
  pays_all l (AtCopying n) is = refl
  pays_all l AtReady is = refl
  pays_all l (AtPosted n) is = absurd (cc is)
  pays_all l AtInJob is = absurd (cc is)
  pays_all l AtDecided is = absurd (cc is)
  pays_all l AtEnded is = absurd (cc is)

  logs : (w v : RunState) (ch : ℕ) → ch < z.rows → LogMove z w ch v → base_work z v < base_work z w
  logs w v ch low c =
      let row = w.rows ch in
      let next : RowInRun = logged_row c.commands AtIdle in
      let counts : command_work z * to_pay row.left row.stage ≡ command_work z * suc (length c.commands) =
      ap (λ n. command_work z * n) (pays_all row.left row.stage c.stage ∙ ap length c.left) in
      let step = times_suc (command_work z) (length c.commands) in
      subst (λ x. base_work z x < base_work z w) (sym c.next)
      (lowers_row z w ch next low (omega (arith, counts, step)))

  sends : (w v : RunState) (ch : ℕ) → ch < z.rows → SendMove z w ch v → base_work z v < base_work z w
  sends w v ch low c =
      let less = one_less w.unsent c.unsent ch c.serial low c.waits c.sent c.others in
      let len = length-append w.queue (record { channel = ch; serial = c.serial } ∷ []) in
      subst (λ x. base_work z x < base_work z w) (sym c.next) (omega (arith, less, len))

  -- a move of a row of its own
  pub row_base : (w v : RunState) (ch : ℕ) → ch < z.rows → RowMove z w ch v → base_work z v < base_work z w
  row_base w v ch low (by_claim c) = claims w v ch low c
  row_base w v ch low (by_copy c) = copies w v ch low c
  row_base w v ch low (by_lose c) = loses w v ch low c
  row_base w v ch low (by_post c) = posts w v ch low c
  row_base w v ch low (by_settle c) = settles w v ch low c

  -- a move of a channel
  pub channel_base : (w v : RunState) (ch : ℕ) → ch < z.rows → ChannelMove z w ch v → base_work z v < base_work z w
  channel_base w v ch low (by_row c) = row_base w v ch low c
  channel_base w v ch low (by_empty c) = finds_empty w v ch low c
  channel_base w v ch low (by_filled c) = finds_filled w v ch low c
  channel_base w v ch low (by_end c) = ends w v ch low c
  channel_base w v ch low (by_log c) = logs w v ch low c
  channel_base w v ch low (by_send c) = sends w v ch low c
