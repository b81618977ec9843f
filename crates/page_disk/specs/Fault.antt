-- Which calls of a disk fail by plan.
use Rattle.std.specs.Prelude.{◌≡◌, ◌+◌, ◌-◌, ℕ, Contains, min}
use Rattle.page_disk.specs.Disk.{last_count}
use Rattle.page_disk.specs.declared.fault_plan.CallKind.{CallKind}
use Rattle.page_disk.specs.declared.fault_plan.CallKind.TheVariants.{Read, Write, Flush}
use Rattle.page_disk.specs.declared.fault_plan.FailingCalls.{FailingCalls}
use Rattle.page_disk.specs.declared.fault_plan.FailingCalls.TheVariants.{Listed, Stopping}
use Rattle.page_disk.specs.declared.fault_plan.FaultPlan.{FaultPlan}

-- A disk of which some calls fail: the disk below, which calls fail and how many there were, and its counts of faults.
pub record Faulty (D : Type 0) : Type 0 where
  pub disk : D
  pub fault_plan : FaultPlan
  pub read_faults : ℕ
  pub write_faults : ℕ

-- a plan before the first call
abbrev pub plan_begun : FailingCalls → FaultPlan
plan_begun plan = record { plan = plan; reads = 0; writes = 0; flushes = 0 }

-- a disk of which the calls of this plan are to fail, before the first call
abbrev pub planned_disk : {D : Type 0} → D → FailingCalls → Faulty D
planned_disk disk plan = record { disk = disk; fault_plan = plan_begun plan; read_faults = 0; write_faults = 0 }

-- how many calls of this kind there were
abbrev pub calls_of : FaultPlan → CallKind → ℕ
calls_of s Read = s.reads
calls_of s Write = s.writes
calls_of s Flush = s.flushes

-- one more, or the last number
abbrev pub one_more : ℕ → ℕ
one_more n = min (n + 1) last_count

-- A plan fails the call of this kind and number: one that is listed, or each one once no call is left to be passed on.
abbrev pub IsPlannedToFail : FailingCalls → CallKind → ℕ → Type 0
IsPlannedToFail (Listed fails) kind nth = Contains fails.items (record { kind = kind; nth = nth })
IsPlannedToFail (Stopping left) kind nth = left ≡ 0

-- the next call of this kind fails
abbrev pub IsFailing : FaultPlan → CallKind → Type 0
IsFailing s kind = IsPlannedToFail s.plan kind (one_more (calls_of s kind))

-- the plan after one call more
abbrev pub plan_after : FailingCalls → FailingCalls
plan_after (Listed fails) = Listed fails
plan_after (Stopping left) = Stopping (left - 1)

-- after a call of this kind
abbrev pub counted : FaultPlan → CallKind → FaultPlan
counted s Read = record s { plan = plan_after s.plan; reads = one_more s.reads }
counted s Write = record s { plan = plan_after s.plan; writes = one_more s.writes }
counted s Flush = record s { plan = plan_after s.plan; flushes = one_more s.flushes }
