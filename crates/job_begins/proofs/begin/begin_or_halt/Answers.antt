use Rattle.std.proofs.Common.{Some, [], sym, ap, subst}
use Rattle.std.specs.Option.{option_map}
use Rattle.volume_model.specs.declared.command.Command.{Command}
use Rattle.blob_meta.specs.declared.job.Job.{Job}
use Rattle.store_model.specs.Asking.{IsJobFor}
use Rattle.store_model.specs.StoreState.{StoreState}
use Rattle.store_model.proofs.Repairing.{repaired_unmarked}
use Rattle.running_store.specs.Jobs.{job_seen}
use Rattle.running_store.specs.Running.{view_of}
use Rattle.running_store.specs.StoreView.{state_of}
use Rattle.job_begins.specs.Asks.{IsAskedAs, IsAskOf}
use Rattle.job_begins.specs.Begins.{IsJobOf}
use Rattle.job_begins.specs.declared.asking.Ask.{Ask}
use Rattle.job_begins.specs.declared.asking.Ask.TheVariants as ask
use Rattle.job_begins.proofs.JobTaken.{none_of}
use Rattle.job_begins.proofs.begin.begin_or_halt.Goals as goal

-- a command asks for the form of its job
asked_as : (p : StoreState) (command : Command) (job : Job) (x : Ask) → IsJobOf p command job → IsAskOf job x
    → IsAskedAs p command x
asked_as p command job (ask.Writes head new zeros) asks is = record {
  commit = asks.commit;
  asked = subst (λ (j : Job). IsJobFor p command j asks.commit) is asks.asked;
  next = asks.next (record { head = head; new = Some new }) [] (ap (λ (j : Job). j.list) is);
}
asked_as p command job (ask.Erases head) asks is = record {
  commit = asks.commit;
  asked = subst (λ (j : Job). IsJobFor p command j asks.commit) is asks.asked;
}
asked_as p command job (ask.Deletes x) asks is = record {
  job = job;
  commit = asks.commit;
  asked = asks.asked;
  changes = is;
}
asked_as p command job (ask.Snapshots x) asks is = record {
  job = job;
  commit = asks.commit;
  asked = asks.asked;
  changes = is;
  next = asks.next _ _ is;
}
asked_as p command job ask.Other asks is = (job, record { commit = asks.commit; asked = asks.asked })

pub begin-requires-clause-can : goal.begin-requires-clause-can
begin-requires-clause-can g c =
    let x = c.requires in
    let runs = none_of c.args.running.now.stopped (sym c.if-is_some.ensures) in
    record {
      within = x.channel;
      order = x.order;
      faultless = x.faultless;
      posted = x.posted;
      unfilled = x.unfilled;
      running = x.running;
      runs = runs;
      no_job = x.no_job;
      unmarked = repaired_unmarked (state_of g.D.PageDisk (view_of c.args.running.now)) x.repaired runs
          (ap (λ o. option_map job_seen o) x.no_job);
    }

pub begin-requires-clause-asks : goal.begin-requires-clause-asks
begin-requires-clause-asks g c command rest left =
    asked_as (state_of g.D.PageDisk (view_of c.args.running.now)) command c.args.job c.ask_of.result
    (c.requires.asks (none_of c.args.running.now.stopped (sym c.if-is_some.ensures)) command rest left)
    c.ask_of.ensures
