use Rattle.std.proofs.Common.{◌≡◌, take}
use Rattle.page_disk.specs.Record.{base_image, read_after}
use Rattle.page_disk.proofs.crash.image_read.Given as goal

abbrev pub invariant-loop-call : goal.invariant-loop-call
invariant-loop-call l = base_image l.left.entries ≡ read_after (base_image l.base.entries) (take l.call-index l.calls)
