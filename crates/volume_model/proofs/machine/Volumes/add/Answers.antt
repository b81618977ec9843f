use Rattle.std.proofs.Common.{arith}
use Rattle.volume_model.proofs.Rows.{push_rows}
use Rattle.volume_model.proofs.machine.Volumes.add.Goals as goal

pub returns-in_ok-push-clause-ok : goal.returns-in_ok-push-clause-ok
returns-in_ok-push-clause-ok c = rw c.in_ok-push.ensures.items
    (push_rows _ _ _ c.self.view_is c.args.head c.args.volume c.requires (omega (arith, c.len.ensures)))
