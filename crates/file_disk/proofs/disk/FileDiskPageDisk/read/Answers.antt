use Rattle.std.proofs.Common.{sym, ◌∙◌, rules}
use Rattle.file_disk.specs.FileCalls.{file_after}
use Rattle.file_disk.specs.PageBytes.{page_read}
use Rattle.file_disk.proofs.disk.FileDiskPageDisk.read.Goals as goal

pub returns-then-is_whole-clause-content : goal.returns-then-is_whole-clause-content
returns-then-is_whole-clause-content g c told =
    let whole = sym c.is_whole.ensures ∙ c.if-is_whole.true in
    let none = c.self.invariant.unfailing c.if-self-eq0.true in
    rw (← c.self.view_is)
    (page_read (file_after (g.C.PageCalls.opened c.self.inside.file) (g.C.PageCalls.calls c.self.inside.file))
    c.args.page c.read_at.new.into c.read_at.result (search rules) whole (c.read_at.ensures.content told none))
