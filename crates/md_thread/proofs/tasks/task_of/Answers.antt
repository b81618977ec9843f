use Rattle.std.proofs.Common.{◌≡◌, Ok, Some, sym, ◌∙◌, ap, subst}
use Rattle.std.specs.Prelude.{Option, Result}
use Rattle.volume_model.specs.declared.command.Command.{Command}
use Rattle.volume_model.specs.declared.reply.Reply.{Reply}
use Rattle.blob_meta.specs.declared.job.Job.{Job}
use Rattle.job_begins.specs.Begins.{IsJobOf}
use Rattle.running_store.specs.Requests.{IsAsked}
use Rattle.running_store.specs.StoreView.{rows_of, state_of}
use Rattle.md_thread.specs.Tasks.{IsPlanOf}
use Rattle.md_thread.proofs.Asking.{asks_metadata, same_first}
use Rattle.md_thread.proofs.tasks.task_of.Goals as goal

pub planned-requires-clause-for_metadata : goal.planned-requires-clause-for_metadata
planned-requires-clause-for_metadata g c =
    let found = c.in-Ok-Meta.ensures.found in
    let asked = subst (IsAsked (rows_of c.args.plant.now.at.rows c.args.msg.channel)) c.in-Ok-Meta.field-0-is
    found.asked in
    asks_metadata g.D.PageDisk c.args.plant.now c.keeps.ensures c.args.msg
    (record { stage = found.posted; unclaimed = asked.0 }) c.in-Ok-Meta.command.now asked.1 asked.2

pub returns-in-Some-Ok : goal.returns-in-Some-Ok
returns-in-Some-Ok g c =
    let d = g.D.PageDisk in
    let p = c.args.plant.now.at in
    let job = c.in-Some-Ok.job in
    let found = c.in-Ok-Meta.ensures.found in
    let asked = subst (IsAsked (rows_of p.rows c.args.msg.channel)) c.in-Ok-Meta.field-0-is found.asked in
    let is : c.planned.result ≡ Some (Ok job) = c.in-Some-Ok.is ∙ ap (λ (r : Result Job Reply). Some r)
    c.in-Some-Ok.field-0-is in
    let plan : IsPlanOf d p c.in-Ok-Meta.command.now (Some (Ok job)) =
    subst (λ (o : Option (Result Job Reply)). IsPlanOf d p c.in-Ok-Meta.command.now o) is c.planned.ensures in (
      record { stage = found.posted; unclaimed = asked.0 },
      λ _ command rest left. subst (λ (k : Command). IsJobOf (state_of d p) k job)
          (same_first c.in-Ok-Meta.command.now command asked.1 rest (sym asked.2 ∙ left)) plan,
    )
