use Rattle.std.proofs.Common.{◌≡◌, None}
use Rattle.volume_model.proofs.Rows.{set_rows, set_length, in_use}
use Rattle.volume_model.proofs.machine.Volumes.take.Goals as goal

pub returns-clause-rest : goal.returns-clause-rest
returns-clause-rest c =
    let empty : c.take.new.self ≡ None = c.take.ensures.after in
    rw empty (set_rows _ _ _ c.self.view_is c.args.head None (in_use _ _ _ c.self.view_is c.args.head c.requires))

pub returns-clause-room : goal.returns-clause-room
returns-clause-room c = set_length _ _ _ c.self.view_is c.args.head c.take.new.self
    (in_use _ _ _ c.self.view_is c.args.head c.requires)
