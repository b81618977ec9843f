use Rattle.std.proofs.Common.{[], ◌∷◌, ◌++◌, refl}
use Rattle.std.proofs.lemmas.List.Elements.{All-nil, All-push}
use Rattle.store_model.specs.Repairing.{unmarked}
use Rattle.repair_runs.specs.RepairRuns.{IsOfRepair}
use Rattle.repair_runs.proofs.Mending.{begins, below, ends, mends_on}
use Rattle.repair_runs.proofs.repairs_come_to_an_end.Goals as goal

pub returns : goal.returns
returns c = record {
  none = λ told p. record { kinds = []; of_repair = All-nil IsOfRepair; run = refl };
  go_on = λ told p q r kind before of_repair t. record {
    kinds = before.kinds ++ kind ∷ [];
    of_repair = All-push IsOfRepair before.kinds kind before.of_repair of_repair;
    run = c.state_turns.ensures.go_on told p q r before.kinds kind before.run t;
  };
  begun = begins;
  turn = λ told s first script marks p q kind facts runs mending of_job t.
      mends_on told s first script marks p facts runs mending q kind of_job t;
  done = ends;
  clean = λ s first script p facts none.
      unmarked (c.marks_alone_are_repaired.ensures.only p.super.md_len p.base (below s first script p facts) none);
}
