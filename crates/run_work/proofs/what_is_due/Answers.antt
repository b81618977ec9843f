use Rattle.run_work.proofs.Due.{due_close, due_fill, due_job, due_message, due_take}
use Rattle.run_work.proofs.what_is_due.Goals as goal

pub returns : goal.returns
returns c = record { job = due_job; close = due_close; fill = due_fill; take = due_take; message = due_message }
