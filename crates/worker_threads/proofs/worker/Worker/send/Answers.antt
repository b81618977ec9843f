use Rattle.worker_threads.proofs.OwnChannels.{end_stays}
use Rattle.worker_threads.proofs.worker.Worker.send.Goals as goal

pub returns-clause-end : goal.returns-clause-end
returns-clause-end g c =
    end_stays c.send.result c.args.self.now.own _ _ c.requires.next
    (λ msg moved is. (c.send.ensures.sent msg moved is).0)
    (λ idle. (c.send.ensures.unchanged idle).0)
