use Rattle.std.proofs.Common.{false, inl, rules}
use Rattle.file_disk.specs.Notes.{calls_noted}
use Rattle.gathered_file.proofs.Gathered.{at_entry, failed_covers}
use Rattle.gathered_file.proofs.Steps.{stopped_or_not}
use Rattle.gathered_file.proofs.gathering.GatheringFilePageCalls.write_at.Goals as goal

pub invariant_of-self : goal.invariant_of-self
invariant_of-self g c =
    let inside = c.self.inside in
    record {
      room = search rules;
      bounded = search rules;
      paged = search rules;
      synced = search rules;
      covered =
          rw c.note_write.ensures
          (failed_covers (g.C.PageCalls.opened inside.file) (calls_noted inside.notes) (g.C.PageCalls.calls inside.file)
          c.self.invariant.covered c.args.offset c.args.from.now c.args.kind false);
      gathered = stopped_or_not inside.stopped c.if-self.true;
    }

pub returns-then-self-clause-moments : goal.returns-then-self-clause-moments
returns-then-self-clause-moments g c =
    let inside = c.self.inside in
    rw (← c.self.view_is)
    (λ image left. inl (at_entry (g.C.PageCalls.opened inside.file) (calls_noted inside.notes)
    (g.C.PageCalls.calls inside.file) c.self.invariant.covered image left))
