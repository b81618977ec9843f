use Rattle.io_freeze.proofs.RowViews.{seen-release, absent_released}
use Rattle.io_freeze.proofs.guards.Guards.release.Goals as goal

pub returns-in-Ok : goal.returns-in-Ok
returns-in-Ok c =
    rw (← c.self.view_is)
    (seen-release c.self.inside.rows.items c.args.head c.in-Ok.place c.index_mut.result.now c.self.invariant.rises
    (rw c.deref.ensures.value at c.in-Ok.ensures) c.index_mut.ensures.value c.self.inside.drawn c.self.inside.room)

pub returns-in_default : goal.returns-in_default
returns-in_default c =
    rw (← c.self.view_is)
    (absent_released c.self.inside.rows.items c.args.head c.in_default.field-0 c.self.invariant.rises
    (rw c.deref.ensures.value at c.in_default.ensures) c.self.inside.drawn c.self.inside.room)
