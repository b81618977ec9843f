use Rattle.std.proofs.Common.{◌∙◌, ap, sym}
use Rattle.std.specs.Prelude.{◌||◌}
use Rattle.std.specs.List.{list_any}
use Rattle.running_store.specs.Jobs.{is_commit}
use Rattle.running_store.proofs.CommitLeft.{commit_now}
use Rattle.running_store.proofs.job.RunningJob.commits.Goals as goal

pub returns-then-commits : goal.returns-then-commits
returns-then-commits c =
    let later = list_any is_commit c.args.self.now.later.items in
    c.if-commits.true ∙ sym (ap (λ b. b || later) (sym c.commits.ensures ∙ c.if-commits.true))
    ∙ commit_now c.args.self.now

pub returns-else-commits : goal.returns-else-commits
returns-else-commits c =
    let later = list_any is_commit c.args.self.now.later.items in
    c.any_commits.ensures ∙ sym (ap (λ b. b || later) (sym c.commits.ensures ∙ c.if-commits.false))
    ∙ commit_now c.args.self.now
