-- The calls that were noted, newest first, and the pages of a run, in their order.
use Rattle.std.specs.Prelude.{ℕ, List, [], ◌∷◌, ◌++◌}
use Rattle.file_disk.specs.FileCalls.{FileCall, DidWrite, DidSync}
use Rattle.file_disk.specs.declared.run_notes.RunNotes.{RunNotes}
use Rattle.file_disk.specs.declared.run_notes.RunNotes.TheVariants.{Begun, Went'}
use Rattle.file_disk.specs.declared.call_notes.CallNotes.{CallNotes}
use Rattle.file_disk.specs.declared.call_notes.CallNotes.TheVariants.{Opened, Wrote', Synced'}

abbrev pub pages_noted : RunNotes → List (List ℕ)
pages_noted Begun = []
pages_noted (Went' marker earlier page) = pages_noted earlier ++ page.value ∷ []

abbrev pub calls_noted : CallNotes → List FileCall
calls_noted Opened = []
calls_noted (Wrote' marker earlier offset run kind took) =
    DidWrite offset (pages_noted run.value) kind took ∷ calls_noted earlier
calls_noted (Synced' marker earlier ok) = DidSync ok ∷ calls_noted earlier
