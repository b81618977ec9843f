use Rattle.std.proofs.Common.{inl}
use Rattle.file_disk.specs.Notes.{calls_noted}
use Rattle.gathered_file.proofs.Gathered.{at_entry}
use Rattle.gathered_file.proofs.gathering.GatheringFilePageCalls.sync.Goals as goal

pub returns-then-self-clause-moments : goal.returns-then-self-clause-moments
returns-then-self-clause-moments g c =
    let inside = c.self.inside in
    rw (← c.self.view_is)
    (λ image left. inl (at_entry (g.C.PageCalls.opened inside.file) (calls_noted inside.notes)
    (g.C.PageCalls.calls inside.file) c.self.invariant.covered image left))

pub returns-then-is_lasting-clause-moments : goal.returns-then-is_lasting-clause-moments
returns-then-is_lasting-clause-moments g c =
    let inside = c.self.inside in
    rw (← c.self.view_is)
    (λ image left. inl (at_entry (g.C.PageCalls.opened inside.file) (calls_noted inside.notes)
    (g.C.PageCalls.calls inside.file) c.self.invariant.covered image left))
