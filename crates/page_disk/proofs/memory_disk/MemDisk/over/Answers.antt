use Rattle.std.proofs.Common.{arith}
use Rattle.page_disk.proofs.Index.{of_no_calls}
use Rattle.page_disk.proofs.memory_disk.MemDisk.over.Goals as goal

pub invariant_of-result : goal.invariant_of-result
invariant_of-result c = record {
  within = omega (arith, c.in_ok-calls.ensures.len);
  reserved = omega (arith, c.in_ok-calls.ensures.capacity);
  spare_places = omega (arith, c.in_ok-newest.ensures.spare);
  newest = rw (c.in_ok-calls.ensures.items, c.in_ok-newest.ensures.empty) of_no_calls;
}
