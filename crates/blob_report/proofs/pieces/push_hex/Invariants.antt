use Rattle.std.proofs.Common.{◌≡◌, ◌++◌, take}
use Rattle.blob_report.specs.Pieces.{hex_text}
use Rattle.blob_report.proofs.pieces.push_hex.Given as goal

abbrev pub invariant-loop-byte : goal.invariant-loop-byte
invariant-loop-byte l = l.into.items ≡ l.fn.into.items ++ hex_text (take l.byte-index l.bytes)
