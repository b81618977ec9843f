use Rattle.std.proofs.Common.{rules}
use Rattle.volume_model.proofs.Scripts.{commands_in_take}
use Rattle.volume_model.proofs.script.Script.take.Goals as goal

pub invariant_of-self : goal.invariant_of-self
invariant_of-self c =
    let fewer = commands_in_take c.self.inside.lists c.args.channel in
    rw c.take_all.ensures.left (search rules)
