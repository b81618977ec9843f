use Rattle.std.proofs.Common.{sym, ◌∙◌, refl, rules}
use Rattle.file_disk.specs.Recorded.{stands, wrote}
use Rattle.file_disk.proofs.disk.FileDiskPageDisk.write.Goals as goal

pub returns-then-self-clause-since : goal.returns-then-self-clause-since
returns-then-self-clause-since g c told =
    rw (← c.self.view_is)
    (stands (g.C.PageCalls.opened c.self.inside.file) (g.C.PageCalls.calls c.self.inside.file))

pub returns-then-is_whole-clause-ok : goal.returns-then-is_whole-clause-ok
returns-then-is_whole-clause-ok g c told =
    let whole = sym c.is_whole.ensures ∙ c.if-is_whole.true in
    rw (← c.self.view_is, c.write_at.ensures.opened, c.write_at.ensures.calls, c.from_ref.ensures.value, whole)
    (wrote (g.C.PageCalls.opened c.self.inside.file) c.args.page _ c.args.from.now c.args.kind
    (record { place = refl; long = search rules }) (g.C.PageCalls.calls c.self.inside.file))
