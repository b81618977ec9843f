use Rattle.std.proofs.Common.{◌∙◌, refl, ap}
use Rattle.std.specs.Prelude.{not}
use Rattle.job_begins.proofs.JobTaken.{none_of}
use Rattle.job_begins.proofs.asking.ask_of.Goals as goal

pub returns-in-1 : goal.returns-in-1
returns-in-1 c = c.single.ensures c.args.job refl c.if-commit-eq1.true refl
    (none_of c.args.job.freeze (c.is_none.ensures ∙ ap not c.if-is_none.true))

pub returns-in-3 : goal.returns-in-3
returns-in-3 c = c.deletion.ensures c.args.job refl

pub returns-in-4 : goal.returns-in-4
returns-in-4 c = c.snapshot.ensures c.args.job refl
