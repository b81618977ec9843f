use Rattle.std.proofs.Common.{◌≡◌, ◌+◌, ◌*◌, ◌<◌, true, [], ◌∷◌, ◌++◌, length, sym, ◌∙◌, ap, subst, if◌then◌else◌, arith, rules}
use mathlib.Core.Bool.{not}
use Rattle.std.proofs.lemmas.List.{length_push}
use Rattle.page_disk.specs.declared.disk.WriteKind.TheVariants.{Plain}
use Rattle.file_disk.specs.FileCalls.{DidWrite}
use Rattle.file_disk.specs.Notes.{calls_noted}
use Rattle.gathered_file.specs.Gathering.{ArePages}
use Rattle.gathered_file.proofs.Gathered.{failed_covers, kept_gathers}
use Rattle.gathered_file.proofs.RunBytes.{pages_push}
use Rattle.gathered_file.proofs.gathering.GatheringFile.keep.Goals as goal

pub invariant_of-self-2 : goal.invariant_of-self-2
invariant_of-self-2 g c =
    let inside = c.self.inside in
    let opened = g.C.PageCalls.opened inside.file in
    let calls = g.C.PageCalls.calls inside.file in
    let kept = inside.kept.items in
    let page = c.args.page.now in
    let capacity = c.push.ensures.capacity in
    let had_room = c.self.invariant.room in
    let has_room : length kept < 256 = rw (← c.self.view_is) at c.in_default.ensures.room in
    let behind : c.args.offset ≡ inside.start + length kept * 4096 = rw (← c.self.view_is) at c.in_default.ensures.behind in
    let pushed : c.push.new.self.items ≡ kept ++ page ∷ [] = c.push.ensures.items
    ∙ ap (λ ok. if ok then kept ++ page ∷ [] else kept) (c.is_err.ensures.negation ∙ ap not c.if-is_err.false) in
    let noted : calls_noted c.note_write-2.new.self
    ≡ DidWrite c.args.offset (page ∷ []) Plain true ∷ calls_noted inside.notes = c.note_write-2.ensures
    ∙ ap (λ pages. DidWrite c.args.offset pages Plain true ∷ calls_noted inside.notes) c.from_ref-2.ensures.value in
    record {
      room = omega arith;
      bounded = rw pushed (rw (length_push kept page) (omega arith));
      paged = subst ArePages (sym pushed) (pages_push kept page c.self.invariant.paged (search rules));
      synced = search rules;
      covered =
          rw noted (failed_covers opened (calls_noted inside.notes) calls c.self.invariant.covered c.args.offset
          (page ∷ []) Plain true);
      gathered = λ going.
          rw (noted, pushed)
          (kept_gathers opened (calls_noted inside.notes) calls inside.start kept (c.self.invariant.gathered going)
          c.args.offset page behind);
    }
