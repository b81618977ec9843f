use Rattle.std.proofs.Common.{◌≡◌, ◌++◌, take}
use Rattle.std.specs.List.{flat_map}
use Rattle.blob_report.specs.Pieces.{shown_byte}
use Rattle.blob_report.proofs.pieces.push_each_shown.Given as goal

abbrev pub invariant-loop-byte : goal.invariant-loop-byte
invariant-loop-byte l = l.into.items ≡ l.fn.into.items ++ flat_map shown_byte (take l.byte-index l.bytes)
