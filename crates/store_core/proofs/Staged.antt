-- What a row has at the stages of a claim, in each state that turns lead to.
use Rattle.std.proofs.Common.{ℕ, ◌<◌, sym, subst, inl, inr}
use Rattle.page_disk.specs.declared.disk.PageDisk.{Ghosts}
use Rattle.super_block.specs.Numbers.{cluster_pages_of}
use Rattle.store_model.specs.StoreState.{Opens, StoreState}
pub use Rattle.turn_columns.specs.Columns.{HasWrite}
use Rattle.turn_columns.proofs.OverRuns.{over_run}
pub use Rattle.turn_columns.proofs.StagedRows.{AreStaged, IsStaged, IsStagedAt, IsToCopy, stays_staged}
use Rattle.store_core.specs.StoreInvariant.{StoreInvariant}
use Rattle.running_store.specs.StoreView.{rows_of, state_of, WithOpening}

-- ---- a run

at_first : (p : StoreState) → Opens p → 0 < cluster_pages_of p.super → AreStaged p
at_first p opens some = record {
  some = some;
  rows = λ row. elim (opens.waits row) [
    | inl waits ↦
        subst (IsStagedAt (cluster_pages_of p.super) (p.rows row).left (p.rows row).claim) (sym waits) tt
    | inr over ↦ subst (IsStaged (cluster_pages_of p.super)) (sym over) tt
  ];
}

pub staged : {D : Type 0} (d : Ghosts D) (p : WithOpening D) → StoreInvariant d p → (channel : ℕ)
    → IsStaged (cluster_pages_of p.at.super) (rows_of p.at.rows channel)
staged d p kept channel =
    let all : AreStaged (state_of d p.at) = over_run d.tells AreStaged (λ k a b turn are.
    stays_staged d.tells a b k are turn) kept.run.0 (state_of d p.opening) (state_of d p.at) kept.run.1
    (at_first (state_of d p.opening) kept.began kept.placed.some_pages) in
    all.rows channel
