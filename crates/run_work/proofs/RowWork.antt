-- The work of the rows, where one changes, and where all may be doomed.
use Rattle.std.proofs.Common.{◌≡◌, ℕ, ◌+◌, ◌*◌, ◌<◌, ◌≤◌, Option, Bool, true, false, List, sym, ◌∙◌, ap, subst, arith}
use Rattle.run_work.specs.RunState.{BlobsInRun, ClaimInRun, CommandInRun, FoundHeads, RowInRun, RowsInRun, RunSizes}
use Rattle.run_work.specs.RunState.{RunState, StageInRun}
use Rattle.run_work.specs.Reading.{with_row_in_run}
use Rattle.run_work.specs.Work.{again_if, again_work, base_work, is_row_doomed, row_work, rows_work}
use Rattle.run_work.specs.ChannelMoves.{moved_row}
use Rattle.run_work.proofs.Sums.{row_here, row_there, sum_at, sum_more, sum_up}

module _ (z : RunSizes) where
  -- a row's work by its parts
  pub work_of : (blobs : BlobsInRun) (finds : FoundHeads) (row : RowInRun) (left : List CommandInRun) (s : StageInRun)
      (claim : Option ClaimInRun) → row.left ≡ left → row.stage ≡ s → row.claim ≡ claim
      → row_work z blobs finds row ≡ row_work z blobs finds (record { left = left; stage = s; claim = claim })
  work_of blobs finds row left s claim a b c =
      ap (λ l. row_work z blobs finds (record { left = l; stage = row.stage; claim = row.claim })) a
      ∙ ap (λ t. row_work z blobs finds (record { left = left; stage = t; claim = row.claim })) b
      ∙ ap (λ x. row_work z blobs finds (record { left = left; stage = s; claim = x })) c

  -- one row changes
  pub one_row : (blobs : BlobsInRun) (finds : FoundHeads) (rows : RowsInRun) (ch : ℕ) (row : RowInRun) → ch < z.rows
      → rows_work z blobs finds (with_row_in_run rows ch row) + row_work z blobs finds (rows ch)
      ≡ rows_work z blobs finds rows + row_work z blobs finds row
  one_row blobs finds rows ch row low =
      let g : ℕ → ℕ = λ k. row_work z blobs finds (with_row_in_run rows ch row k) in
      let h : ℕ → ℕ = λ k. row_work z blobs finds (rows k) in
      let all = sum_at g h z.rows ch (λ k ne. ap (λ x. row_work z blobs finds x) (row_there rows ch row k ne)) low in
      all ∙ ap (λ x. rows_work z blobs finds rows + row_work z blobs finds x) (row_here rows ch row)

  more_once : (a b : Bool) → again_if z a ≤ again_if z b + again_work z
  more_once true true = omega arith
  more_once true false = omega arith
  more_once false b = omega arith

  -- other metadata dooms a row at most once
  pub doomed_once : (blobs others : BlobsInRun) (finds founds : FoundHeads) (row : RowInRun)
      → row_work z others founds row ≤ row_work z blobs finds row + again_work z
  doomed_once blobs others finds founds row =
      let once = more_once (is_row_doomed others founds row.left row.stage row.claim)
      (is_row_doomed blobs finds row.left row.stage row.claim) in
      omega (arith, once)

  -- one row and the metadata change
  pub any_row : (blobs others : BlobsInRun) (finds founds : FoundHeads) (rows : RowsInRun) (ch : ℕ) (row : RowInRun)
      → ch < z.rows
      → rows_work z others founds (with_row_in_run rows ch row) + row_work z blobs finds (rows ch)
      ≤ rows_work z blobs finds rows + row_work z others founds row + z.rows * again_work z
  any_row blobs others finds founds rows ch row low =
      let g : ℕ → ℕ = λ k. row_work z others founds (with_row_in_run rows ch row k) in
      let h : ℕ → ℕ = λ k. row_work z blobs finds (rows k) in
      let all = sum_more g h z.rows ch (again_work z)
      (λ k ne. subst (λ x. row_work z others founds x ≤ row_work z blobs finds (rows k) + again_work z)
      (sym (row_there rows ch row k ne)) (doomed_once blobs others finds founds (rows k))) low in
      subst (λ x. rows_work z others founds (with_row_in_run rows ch row) + row_work z blobs finds (rows ch)
      ≤ rows_work z blobs finds rows + row_work z others founds x + z.rows * again_work z) (row_here rows ch row) all

  -- the metadata alone change
  pub no_row : (blobs others : BlobsInRun) (finds founds : FoundHeads) (rows : RowsInRun)
      → rows_work z others founds rows ≤ rows_work z blobs finds rows + z.rows * again_work z
  no_row blobs others finds founds rows =
      sum_up (λ k. row_work z others founds (rows k)) (λ k. row_work z blobs finds (rows k)) z.rows (again_work z)
      (λ k low. doomed_once blobs others finds founds (rows k))

  -- a turn of one row alone lowers the work where it lowers the row's
  pub lowers_row : (w : RunState) (ch : ℕ) (row : RowInRun) → ch < z.rows
      → row_work z w.blobs w.finds row < row_work z w.blobs w.finds (w.rows ch)
      → base_work z (moved_row w ch row) < base_work z w
  lowers_row w ch row low less = let all = one_row w.blobs w.finds w.rows ch row low in omega (arith, all, less)
