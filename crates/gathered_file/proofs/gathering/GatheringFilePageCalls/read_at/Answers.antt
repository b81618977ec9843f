use Rattle.std.proofs.Common.{◌≡◌, ◌<◌, length, rules}
use Rattle.file_disk.specs.Notes.{calls_noted}
use Rattle.gathered_file.proofs.RunBytes.{kept_byte, outside_read}
use Rattle.gathered_file.proofs.gathering.GatheringFilePageCalls.read_at.Goals as goal

pub returns-in-Kept-clause-content : goal.returns-in-Kept-clause-content
returns-in-Kept-clause-content g c honest none i lt =
    let inside = c.self.inside in
    let place = c.in-Kept.ensures in
    let count : c.len.result ≡ length inside.kept.items = search rules in
    let within : c.in-Kept.index < length inside.kept.items = rw (← count) place.0 in
    rw (← c.self.view_is)
    (kept_byte (g.C.PageCalls.opened inside.file) (calls_noted inside.notes) (g.C.PageCalls.calls inside.file)
    inside.start inside.kept.items (c.self.invariant.gathered c.if-self.false) c.self.invariant.paged c.args.offset
    c.in-Kept.index i c.index.result.now c.index.ensures within place.1 lt)

pub returns-in-Outside-clause-content : goal.returns-in-Outside-clause-content
returns-in-Outside-clause-content g c honest none =
    let inside = c.self.inside in
    let gathers = c.self.invariant.gathered c.if-self.false in
    let count : c.len.result ≡ length inside.kept.items = search rules in
    rw (← c.self.view_is)
    (outside_read (g.C.PageCalls.opened inside.file) (calls_noted inside.notes) (g.C.PageCalls.calls inside.file)
    inside.start inside.kept.items gathers c.self.invariant.paged c.read_at.result c.args.offset c.read_at.new.into
    (rw count at c.in-Outside.ensures) c.read_at.ensures.within
    (c.read_at.ensures.content honest (gathers.unfailing (rw (← c.self.view_is) at none))))
