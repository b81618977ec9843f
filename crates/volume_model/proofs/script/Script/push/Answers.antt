use Rattle.std.proofs.Common.{rules}
use Rattle.volume_model.proofs.Scripts.{commands_in_push}
use Rattle.volume_model.proofs.script.Script.push.Goals as goal

pub invariant_of-self-2 : goal.invariant_of-self-2
invariant_of-self-2 c =
    let more = commands_in_push c.self.inside.lists c.args.channel c.args.command c.index-self-channel.result
    (search rules) in
    rw c.in_ok-push.ensures.ok (search rules)

pub returns-clause-one_more : goal.returns-clause-one_more
returns-clause-one_more c =
    let more = commands_in_push c.self.inside.lists c.args.channel c.args.command c.index-self-channel.result
    (search rules) in
    rw c.in_ok-push.ensures.ok (search rules)
