use Rattle.std.proofs.Common.{◌≡◌, ◌∙◌, List, [], sym, subst, ap, Some}
use Rattle.std.specs.FinMap as map
use Rattle.std.specs.List.{AllByRecursion}
use Rattle.std.specs.Option.{option_map, option_map_or}
use Rattle.store_model.specs.StoreState.{JobState}
use Rattle.running_store.specs.Jobs.{job_left, job_seen, phases_in, to_come, IsFollowing}
use Rattle.running_store.specs.declared.job.Serves.TheVariants as whom
use Rattle.job_begins.specs.JobSteps.{AreLaidOn, IsStep}
use Rattle.job_begins.specs.declared.steps.Step.{Step}
use Rattle.job_begins.proofs.StepsFollow.{all_follow, are_steps, none_laid}
use Rattle.job_begins.proofs.StepsMade.{seen_as, unmarked}
use Rattle.job_begins.proofs.taking.lay_job.Goals as goal

pub lay_all-requires-clause-steps : goal.lay_all-requires-clause-steps
lay_all-requires-clause-steps c =
    subst (AllByRecursion IsStep) (sym c.from_vec.ensures.items)
    (are_steps (whom.Command c.args.channel c.args.freeze) c.args.steps.items c.requires.steps)

pub next-requires : goal.next-requires
next-requires c =
    subst (AllByRecursion (IsFollowing (whom.Command c.args.channel c.args.freeze))) (sym c.from_vec-2.ensures.items)
    (all_follow (whom.Command c.args.channel c.args.freeze) (map.get c.args.chains.now) c.args.steps.items
    c.args.taken.now c.in_ok-laid.laid.items c.requires.steps
    (subst (λ (xs : List Step). AreLaidOn (map.get c.args.chains.now) xs c.args.taken.now c.in_ok-laid.laid.items)
    c.from_vec.ensures.items c.in_ok-laid.ensures))

pub unreachable-requires : goal.unreachable-requires
unreachable-requires c =
    none_laid (map.get c.args.chains.now) c.args.steps.items c.args.taken.now c.in_ok-laid.laid.items c.requires.some
    (subst (λ (xs : List Step). AreLaidOn (map.get c.args.chains.now) xs c.args.taken.now c.in_ok-laid.laid.items)
    c.from_vec.ensures.items c.in_ok-laid.ensures)
    (sym c.from_vec-2.ensures.items ∙ sym c.next.ensures.coming ∙ ap (λ o. option_map_or to_come o []) c.in_default.is)

pub returns-clause-unmarked : goal.returns-clause-unmarked
returns-clause-unmarked c =
    let serves = whom.Command c.args.channel c.args.freeze in
    let list = c.from_vec-2.result.items in
    let seen : Some (job_seen c.in-Some.job) ≡ job_left serves (phases_in list) =
    sym (ap (λ o. option_map job_seen o) c.in-Some.is) ∙ c.next.ensures.seen in
    unmarked c.in-Some.job list
    (ap (λ (j : JobState). j.todo) (seen_as serves (phases_in list) (job_seen c.in-Some.job) seen))
