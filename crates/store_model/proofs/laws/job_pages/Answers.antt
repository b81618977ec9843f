use Rattle.store_model.proofs.JobPages.{fresh_no_head, head_written, torn_no_head, zeros_no_head}
use Rattle.store_model.proofs.laws.job_pages.Goals as goal

pub returns : goal.returns
returns c = record { torn = torn_no_head; zeros = zeros_no_head; fresh = fresh_no_head; replaced = head_written }
