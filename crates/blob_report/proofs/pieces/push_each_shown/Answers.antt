use Rattle.blob_report.proofs.Firsts.{still_first}
use Rattle.blob_report.proofs.pieces.push_each_shown.Goals as goal

pub returns-in_err-push_shown_byte-clause-kept : goal.returns-in_err-push_shown_byte-clause-kept
returns-in_err-push_shown_byte-clause-kept c = still_first _ _ _ _ c.loop-byte.invariant c.push_shown_byte.ensures.kept
