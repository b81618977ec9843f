use Rattle.job_begins.proofs.RepairDue.{AreNoneKept}
use Rattle.job_begins.proofs.repairing.due_head.Given as goal

-- no head so far has a mark and is kept
abbrev pub invariant-loop-head : goal.invariant-loop-head
invariant-loop-head g l = AreNoneKept l.running.metas l.running.marked l.head
