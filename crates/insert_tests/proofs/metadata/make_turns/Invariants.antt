use Rattle.std.proofs.Common.{◌≡◌, ℕ}
use Rattle.store_model.specs.Repairing.{IsRepaired}
use Rattle.running_store.specs.StoreView.{state_of, WithOpening}
use Rattle.page_disk.specs.declared.disk.PageDisk.{Ghosts}
use Rattle.insert_tests.proofs.metadata.make_turns.Given as goal

-- It is the same store, of which nothing is left to repair, with its one right.
pub record IsTurnedOn {D : Type 0} (d : Ghosts D) (first now : WithOpening D) (given right : ℕ) : Type 0 where
  pub repaired : IsRepaired (state_of d now.at)
  pub opening : now.opening ≡ first.opening
  pub own : right ≡ now.right
  pub same : right ≡ given
  pub name : now.right ≡ first.right

abbrev pub invariant-loop : goal.invariant-loop
invariant-loop g l = IsTurnedOn g.D.PageDisk l.fn.plant l.plant l.fn.right l.right
