use Rattle.std.proofs.Common.{sym, ap, subst}
use Rattle.std.specs.Option.{option_map}
use Rattle.store_model.specs.Cases.Halt.{MayLog, stage_after}
use Rattle.store_model.specs.Rows.{Row, Stage}
use Rattle.running_store.specs.Jobs.{job_seen}
use Rattle.running_store.specs.Running.{view_of}
use Rattle.running_store.specs.StoreView.{state_of}
use Rattle.store_model.proofs.Repairing.{repaired_unmarked}
use Rattle.job_begins.proofs.JobTaken.{none_of}
use Rattle.job_begins.proofs.inserting.begin_insert_or_halt.Goals as goal

pub begin_insert-requires-clause-unmarked : goal.begin_insert-requires-clause-unmarked
begin_insert-requires-clause-unmarked g c =
    repaired_unmarked (state_of g.D.PageDisk (view_of c.args.running.now)) c.requires.repaired
    (none_of c.args.running.now.stopped (sym c.if-is_some.ensures)) (ap (λ o. option_map job_seen o) c.requires.no_job)

pub halt_work-requires-clause-may : goal.halt_work-requires-clause-may
halt_work-requires-clause-may g c =
    subst MayLog (sym (ap (λ (r : Row). r.stage) c.requires.posted.holds.is)) tt

pub halt_work-requires-clause-next : goal.halt_work-requires-clause-next
halt_work-requires-clause-next g c =
    ap (λ (s : Stage). stage_after s) (sym (ap (λ (r : Row). r.stage) c.requires.posted.holds.is))
