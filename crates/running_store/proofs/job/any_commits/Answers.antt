use Rattle.std.proofs.Common.{rules, tests}
use Rattle.std.proofs.lemmas.Iterator.Consumers.{YieldsList-from_deque}
use Rattle.std.proofs.lemmas.Iterator.Search.{any_from_yields_List}
use Rattle.running_store.specs.Jobs.{is_commit}
use Rattle.running_store.proofs.job.any_commits.Goals as goal

pub returns : goal.returns
returns c = any_from_yields_List is_commit c.any.new.self c.any.new.f c.any.result c.any.ensures.ran
    (YieldsList-from_deque c.args.later.now.items c.iter.ensures.rest) (λ x b q k. search (rules, tests))
