use Rattle.descriptors.proofs.LongestRunsAreOne as runs
use Rattle.descriptors.proofs.longest.longest_runs_are_one.Goals as goal

pub returns : goal.returns
returns c = runs.longest_runs_are_one
