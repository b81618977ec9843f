use Rattle.std.proofs.Common.{◌≡◌, take, drop}
use Rattle.page_disk.specs.Record.{base_image, read_after, ImagesFrom}
use Rattle.page_disk.specs.Crash.{left_after}
use Rattle.page_disk.proofs.crash.image_left.Given as goal

abbrev pub invariant-loop-at : goal.invariant-loop-at
invariant-loop-at l = record {
  picked : left_after l.pick (read_after (base_image l.base.entries) (take l.at l.calls)) (base_image l.left.entries)
      (drop l.at l.calls) ≡ left_after l.pick (base_image l.base.entries) (base_image l.base.entries) l.calls;
  image : ImagesFrom (base_image l.base.entries) (take l.at l.calls) (base_image l.left.entries);
}
