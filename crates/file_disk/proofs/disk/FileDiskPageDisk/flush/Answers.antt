use Rattle.file_disk.specs.Recorded.{stands}
use Rattle.file_disk.proofs.disk.FileDiskPageDisk.flush.Goals as goal

pub returns-then-self-clause-since : goal.returns-then-self-clause-since
returns-then-self-clause-since g c told =
    rw (← c.self.view_is)
    (stands (g.C.PageCalls.opened c.self.inside.file) (g.C.PageCalls.calls c.self.inside.file))
