-- What is seen of the device on which a store runs.
use Rattle.std.specs.Prelude.{ℕ}
use Rattle.page_disk.specs.Disk.{Image}

pub record Device : Type 0 where
  pub reads : Image
  pub clock : ℕ
  pub read_faults : ℕ
  pub write_faults : ℕ
  pub read_calls : ℕ
