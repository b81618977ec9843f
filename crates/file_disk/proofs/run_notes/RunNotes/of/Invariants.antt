use Rattle.std.proofs.Common.{◌≡◌, take}
use Rattle.file_disk.specs.Notes.{pages_noted}
use Rattle.file_disk.proofs.run_notes.RunNotes.of.Given as goal

abbrev pub invariant-loop-page : goal.invariant-loop-page
invariant-loop-page l = pages_noted l.notes ≡ take l.page-index l.pages
