use Rattle.std.proofs.Common.{sym}
use Rattle.io_freeze.proofs.RowViews.{read_generation, read_none}
use Rattle.io_freeze.proofs.guards.Guards.generation.Goals as goal

pub returns-in-Ok-clause-value : goal.returns-in-Ok-clause-value
returns-in-Ok-clause-value c =
    rw (← c.self.view_is)
    (read_generation c.self.inside.rows.items c.args.head c.in-Ok.place c.self.invariant.rises
    (rw c.deref.ensures.value at c.in-Ok.ensures) c.index.result.now c.index.ensures)

pub returns-in-Err-clause-value : goal.returns-in-Err-clause-value
returns-in-Err-clause-value c =
    rw (← c.self.view_is)
    (sym (read_none c.self.inside.rows.items c.args.head c.in-Err.field-0 c.self.invariant.rises
    (rw c.deref.ensures.value at c.in-Err.ensures)))
