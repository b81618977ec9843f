use Rattle.std.proofs.Common.{sym}
use Rattle.io_freeze.proofs.RowViews.{read_frozen, read_held, read_thawed}
use Rattle.io_freeze.proofs.guards.Guards.is_frozen.Goals as goal

pub returns-in-Ok-clause-frozen : goal.returns-in-Ok-clause-frozen
returns-in-Ok-clause-frozen c =
    rw (← c.self.view_is)
    (read_frozen c.self.inside.rows.items c.args.head c.in-Ok.place c.self.invariant.rises
    (rw c.deref.ensures.value at c.in-Ok.ensures) c.index.result.now c.index.ensures)

pub returns-in-Ok-clause-held : goal.returns-in-Ok-clause-held
returns-in-Ok-clause-held c = λ on.
    rw (← c.self.view_is)
    (read_held c.self.inside.rows.items c.args.head c.in-Ok.place c.self.invariant.rises
    (rw c.deref.ensures.value at c.in-Ok.ensures))

pub returns-in-Err-clause-frozen : goal.returns-in-Err-clause-frozen
returns-in-Err-clause-frozen c =
    rw (← c.self.view_is)
    (sym (read_thawed c.self.inside.rows.items c.args.head c.in-Err.field-0 c.self.invariant.rises
    (rw c.deref.ensures.value at c.in-Err.ensures)))
