use Rattle.std.proofs.Common.{◌≡◌, ◌+◌, ◌*◌, take}
use Rattle.file_disk.specs.FileCalls.{FileBytes, HasBytes, with_run}
use Rattle.file_disk.proofs.memory_file.put_run.Given as goal

abbrev pub invariant-loop-page : goal.invariant-loop-page
invariant-loop-page l = record {
  counted : l.place ≡ l.at + l.page-index * 4096;
  put : (file : FileBytes) → HasBytes l.fn.bytes file → HasBytes l.bytes (with_run file l.at (take l.page-index l.pages));
}
