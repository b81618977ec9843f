use Rattle.std.proofs.Common.{◌≡◌, false, ◌∷◌, length, sym, ◌∙◌, ap, rules}
use Rattle.file_disk.specs.FileCalls.{DidWrite, moved_pages}
use Rattle.file_disk.specs.Notes.{calls_noted}
use Rattle.gathered_file.specs.Gathering.{is_synced}
use Rattle.gathered_file.proofs.Gathered.{covers, failed_covers}
use Rattle.gathered_file.proofs.Steps.{passes, step_and_call, stopped_or_not}
use Rattle.gathered_file.proofs.gathering.GatheringFile.pass.Goals as goal

pub invariant_of-self : goal.invariant_of-self
invariant_of-self g c =
    let inside = c.self.inside in
    record {
      room = search rules;
      bounded = search rules;
      paged = search rules;
      synced = search rules;
      covered =
          rw c.note_write.ensures
          (failed_covers (g.C.PageCalls.opened inside.file) (calls_noted inside.notes) (g.C.PageCalls.calls inside.file)
          c.self.invariant.covered c.args.offset c.args.from.now c.args.kind false);
      gathered = stopped_or_not inside.stopped (ap (λ v. v.stopped) c.self.view_is ∙ c.in-Err.ensures.stopped);
    }

pub invariant_of-self-2 : goal.invariant_of-self-2
invariant_of-self-2 g c =
    let inside = c.self.inside in
    let file = c.write_at-answer.ensures in
    let took : c.has_moved-took.result ≡ moved_pages (length c.args.from.now) c.write_at-answer.result =
    c.has_moved-took.ensures (length c.args.from.now) c.as_flattened.ensures.len in
    let noted = c.note_write-2.ensures
    ∙ ap (λ whole. DidWrite c.args.offset c.args.from.now c.args.kind whole ∷ calls_noted inside.notes) took in
    let gathers = passes g.C.PageCalls inside.file c.write_at-answer.new.self (calls_noted inside.notes) _ inside.start
    inside.kept.items _ file.opened file.calls noted (ap (λ v. v.kept) c.self.view_is ∙ c.in_default.ensures.sent)
    (c.self.invariant.gathered (ap (λ v. v.stopped) c.self.view_is ∙ c.in_default.ensures.stopped)) in
    record {
      room = search rules;
      bounded = search rules;
      paged = search rules;
      synced = sym (ap is_synced file.calls);
      covered = covers _ _ _ inside.start inside.kept.items gathers;
      gathered = λ going. gathers;
    }

pub returns-clause-moments : goal.returns-clause-moments
returns-clause-moments g c =
    let inside = c.self.inside in
    let file = c.write_at-answer.ensures in
    let took : c.has_moved-took.result ≡ moved_pages (length c.args.from.now) c.write_at-answer.result =
    c.has_moved-took.ensures (length c.args.from.now) c.as_flattened.ensures.len in
    let noted = c.note_write-2.ensures
    ∙ ap (λ whole. DidWrite c.args.offset c.args.from.now c.args.kind whole ∷ calls_noted inside.notes) took in
    let step = rw (← c.self.view_is) at c.in_default.ensures.step in
    step_and_call g.C.PageCalls c.args.self.now _
    (record {
      file = c.write_at-answer.new.self;
      asked = calls_noted c.note_write-2.new.self;
      start = inside.start;
      kept = inside.kept.items;
      stopped = inside.stopped;
    }) step _ file.calls file.opened noted (ap (λ v. v.kept) c.self.view_is ∙ c.in_default.ensures.sent)
    (c.self.invariant.gathered (ap (λ v. v.stopped) c.self.view_is ∙ c.in_default.ensures.stopped))
