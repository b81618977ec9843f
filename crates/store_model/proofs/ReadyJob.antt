-- A job that a command asks for, laid on pages, is ready to begin.
use Rattle.std.proofs.Common.{ℕ, List, []}
use Rattle.blob_meta.specs.Repairs.{HasNoMarks}
use Rattle.volume_model.specs.declared.command.Command.{Command}
use Rattle.store_model.specs.Jobs.{Does, Lays, ReadsZeros}
use Rattle.store_model.specs.Phases.{behind, Committing, Replacing, todo_of}
use Rattle.store_model.specs.StoreState.{StoreState}

-- Its phases can be made, and do what the command asks for, where the clusters that it has claimed read as zeros; in
-- the end no blob is marked.
pub record IsReadyJob (p : StoreState) (claimed : List ℕ) (command : Command) (number : ℕ) (commit : Committing)
    (list : List Replacing) : Type 0 where
  pub lays : Lays p.super p.base p.chains claimed [] (todo_of list number commit)
  pub does : Does (ReadsZeros p.super claimed) p.super p.base p.live command (todo_of list number commit)
  pub unmarked : HasNoMarks (behind p.base (todo_of list number commit))
