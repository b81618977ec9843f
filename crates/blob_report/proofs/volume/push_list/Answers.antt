use Rattle.blob_report.proofs.Firsts.{still_first}
use Rattle.blob_report.proofs.volume.push_list.Goals as goal

pub returns-in_err-push_info_line-clause-kept : goal.returns-in_err-push_info_line-clause-kept
returns-in_err-push_info_line-clause-kept c = still_first _ _ _ _ c.loop-info.invariant c.push_info_line.ensures.kept
