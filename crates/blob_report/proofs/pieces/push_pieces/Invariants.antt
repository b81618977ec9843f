use Rattle.std.proofs.Common.{◌≡◌, ◌++◌, take}
use Rattle.blob_report.specs.Pieces.{pieces_text}
use Rattle.blob_report.proofs.pieces.push_pieces.Given as goal

abbrev pub invariant-loop-piece : goal.invariant-loop-piece
invariant-loop-piece l = l.into.items ≡ l.fn.into.items ++ pieces_text (take l.piece-index l.pieces)
