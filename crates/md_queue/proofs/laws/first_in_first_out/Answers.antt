use Rattle.md_queue.proofs.Order.{in_order, bounded}
use Rattle.md_queue.proofs.laws.first_in_first_out.Goals as goal

pub returns : goal.returns
returns c = record { in_order = in_order; bounded = bounded }
