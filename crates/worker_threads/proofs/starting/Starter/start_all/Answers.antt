use Rattle.std.proofs.Common.{rules}
use Rattle.worker_threads.proofs.OwnChannels.{number_of}
use Rattle.worker_threads.proofs.Senders.{first_and_others, started_next}
use Rattle.worker_threads.proofs.starting.Starter.start_all.Goals as goal

pub loop-channel-preserved : goal.loop-channel-preserved
loop-channel-preserved g c =
    let i = c.loop-channel.invariant in
    let first = first_and_others _ _ _ _ i.rest c.in-Some.ensures.first in
    record {
      rest = first.1;
      same = started_next _ _ c.push_reserved.new.self.items c.in-Ok.handle _ _ _ i.same c.in-Some.ensures.first c.in-Ok.ensures.started
          c.push_reserved.ensures.items;
      count = search rules;
      room = search rules;
    }

pub new-worker-requires-clause-number : goal.new-worker-requires-clause-number
new-worker-requires-clause-number g c =
    number_of c.args.channels.now c.loop-channel.channel c.from.result c.index-channels-from.result c.requires.numbered
    c.type_inv.channels c.loop-channel-test.true c.from.ensures
