use Rattle.md_chain.proofs.PlannedChain.{PlanCompletes, Planning}
use Rattle.md_chain.proofs.planning.plan_chain.Given as goal

abbrev pub invariant-loop-n : goal.invariant-loop-n
invariant-loop-n l = record {
  pages : PlanCompletes l.head l.fresh l.part-items l.n l.place l.plan;
  planned : Planning l.head l.fresh l.part-items l.n;
}
