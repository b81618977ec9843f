use Rattle.io_freeze.proofs.RowViews.{seen-remove, absent_removed}
use Rattle.io_freeze.proofs.guards.Guards.remove.Goals as goal

pub returns-in-Ok : goal.returns-in-Ok
returns-in-Ok c =
    rw (c.remove.ensures.items, ← c.self.view_is)
    (seen-remove c.self.inside.rows.items c.args.head c.in-Ok.place c.self.invariant.rises
    (rw c.deref.ensures.value at c.in-Ok.ensures) c.self.inside.drawn c.self.inside.room)

pub returns-in_default : goal.returns-in_default
returns-in_default c =
    rw (← c.self.view_is)
    (absent_removed c.self.inside.rows.items c.args.head c.in_default.field-0 c.self.invariant.rises
    (rw c.deref.ensures.value at c.in_default.ensures) c.self.inside.drawn c.self.inside.room)
