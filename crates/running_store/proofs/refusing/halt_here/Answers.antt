use Rattle.running_store.specs.Running.{view_of}
use Rattle.running_store.proofs.WorkHalted.{halted_here}
use Rattle.running_store.proofs.refusing.halt_here.Goals as goal

pub returns-clause-case : goal.returns-clause-case
returns-clause-case g c =
    halted_here g.D.PageDisk (view_of c.args.running.now) c.requires.order.seventeen c.args.channel
    c.requires.channel c.requires.waits c.in-Some.at c.in-Some.is (view_of c.give_up.new.running)
    c.give_up.ensures.logged
