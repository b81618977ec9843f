-- What is known of a disk over a file.
use Rattle.std.specs.Prelude.{ℕ}

-- The file, and what the disk counts: failed reads, failed writes and flushes, and reads.
pub record OverFile (C : Type 0) : Type 0 where
  pub file : C
  pub read_faults : ℕ
  pub write_faults : ℕ
  pub reads : ℕ

-- a disk over this file that no call was made on
abbrev pub unused : {C : Type 0} → C → OverFile C
unused file = record { file = file; read_faults = 0; write_faults = 0; reads = 0 }
