use Rattle.running_store.specs.Running.{view_of}
use Rattle.running_store.specs.Stages.{stage_seen}
use Rattle.running_store.proofs.WorkHalted.{halted_work}
use Rattle.running_store.proofs.WorkLogged.{has_work}
use Rattle.running_store.proofs.refusing.halt_work.Goals as goal

pub give_up-requires-clause-works : goal.give_up-requires-clause-works
give_up-requires-clause-works g c =
    has_work g.D.PageDisk (view_of c.args.running.now) c.requires.order.seventeen c.requires.fill c.args.row
    c.requires.works

pub returns-clause-case : goal.returns-clause-case
returns-clause-case g c =
    halted_work g.D.PageDisk (view_of c.args.running.now) c.requires.order.seventeen c.in-Some.at c.in-Some.is
    (view_of c.give_up.new.running) c.args.row (stage_seen c.args.next) c.requires.fill c.requires.works
    c.requires.may c.requires.next c.give_up.ensures.logged
