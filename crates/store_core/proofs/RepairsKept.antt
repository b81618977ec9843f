-- What is kept of a running store where a repair begins, or doesn't.
use Rattle.std.proofs.Common.{subst, sym}
use Rattle.page_disk.specs.declared.disk.PageDisk.{Ghosts}
use Rattle.store_model.specs.Cases.{Kind}
use Rattle.store_model.specs.Cases as kind
use Rattle.job_begins.specs.Repairs.{RepairsOrNot}
use Rattle.job_begins.specs.declared.repairing.RepairTurn.{RepairTurn}
use Rattle.job_begins.specs.declared.repairing.RepairTurn.TheVariants as repair
use Rattle.store_core.specs.StoreInvariant.{StoreInvariant}
use Rattle.running_store.specs.StoreView.{StoreView, WithOpening}
use Rattle.running_store.specs.TurnMade.{TurnMade}

module _ {D : Type 0} (d : Ghosts D) (p : WithOpening D) (q : StoreView D) (kept : StoreInvariant d p) where
  abbrev At : StoreView D → Type 0
  At v = StoreInvariant d (record { at = v; opening = p.opening; right = p.right })

  -- a turn is made, or the store is as it was
  pub repairing_or_not : (turn : RepairTurn) → ((k : Kind) → TurnMade d p.at q k → At q) → RepairsOrNot d p.at q turn
      → At q
  repairing_or_not repair.Began goes made = goes kind.begins_repair made
  repairing_or_not repair.Clean goes x = subst At (sym x.1) kept
  repairing_or_not (repair.NoPage head has wants) goes x = subst At (sym x.1) kept
  repairing_or_not repair.Memory goes x = subst At (sym x.1) kept
