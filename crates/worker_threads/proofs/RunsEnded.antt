-- How a run by threads ends, and which run has a queue.
use Rattle.std.proofs.Common.{◌≡◌, ◌≢◌, ◌⊎◌, ◌↔◌, inl, inr, ℕ, ◌<◌, ◌≤◌, ◌-◌, Option, Some, None, List, arith, refl}
use Rattle.running_store.specs.StoreView.{rows_of}
use Rattle.store_model.specs.Rows.{Ended, Row}
use Rattle.md_thread.specs.Holding.{HaveEnded}
use Rattle.channels.specs.RunEnds.{run_end_of}
use Rattle.channels.specs.declared.stepwise.RunEnd.{RunEnd}
use Rattle.channels.specs.declared.stepwise.RunEnd.TheVariants.{Memory}

-- a run that made its steps didn't end for want of memory
isnt_memory : (stopped : Option ℕ) (end : RunEnd) → end ≡ run_end_of stopped → end ≡ Memory → ⊥
isnt_memory None end is memory = cc (is, memory)
isnt_memory (Some at) end is memory = cc (is, memory)

module _ {A : Type 0} (rows : List Row) (workers : ℕ) (end : RunEnd) where
  abbrev HasNone : Option A → Type 0
  HasNone handled = (handled ≡ None) ↔ ((end ≡ Memory) ⊎ HaveEnded rows)

  -- without a worker every channel had ended
  pub none_without_workers : workers ≡ 0
      → ((channel : ℕ) → workers ≤ channel → channel < 16 → (rows_of rows channel).stage ≡ Ended) → HasNone None
  none_without_workers none above = (λ _. inr (λ channel low. above channel (omega arith) low), λ _. refl)

  -- with one a channel hadn't
  pub some_with_workers : (stopped : Option ℕ) (handled : A) → end ≡ run_end_of stopped → workers ≢ 0 → workers ≤ 16
      → (workers ≡ 0) ⊎ ((rows_of rows (workers - 1)).stage ≢ Ended) → HasNone (Some handled)
  some_with_workers stopped handled is some few last = (
    λ none. absurd (cc none),
    λ cause. absurd (elim cause [
      | inl memory ↦ isnt_memory stopped end is memory
      | inr ended ↦ elim last [ inl none ↦ some none | inr not ↦ not (ended (workers - 1) (omega arith)) ]
    ]),
  )
