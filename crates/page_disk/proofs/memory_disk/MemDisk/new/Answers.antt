use Rattle.std.proofs.Common.{◌∙◌, ap}
use Rattle.page_disk.specs.Record.{Recorded}
use Rattle.page_disk.proofs.RecordBegun.{one_left, reads_zeros}
use Rattle.page_disk.proofs.memory_disk.MemDisk.new.Goals as goal

pub returns-clause-zeros : goal.returns-clause-zeros
returns-clause-zeros c =
    reads_zeros c.in_ok-disk.disk (ap (λ (m : Recorded). m.calls) c.in_ok-disk.ensures)
    (ap (λ (m : Recorded). m.base) c.in_ok-disk.ensures ∙ c.new.ensures.empty)

pub returns-clause-one : goal.returns-clause-one
returns-clause-one c = one_left c.in_ok-disk.disk (ap (λ (m : Recorded). m.calls) c.in_ok-disk.ensures)
