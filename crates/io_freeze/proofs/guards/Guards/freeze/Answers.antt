use Rattle.std.proofs.Common.{ap}
use Rattle.std.specs.Prelude.{is_some}
use Rattle.std.specs.FinMap as map
use Rattle.std.proofs.lemmas.Bool.{both_ways}
use Rattle.io_freeze.specs.Rows.{generations_in}
use Rattle.io_freeze.proofs.RowViews.{seen-freeze, read_none}
use Rattle.io_freeze.proofs.guards.Guards.freeze.Goals as goal

pub returns : goal.returns
returns c =
    rw (← c.self.view_is)
    (seen-freeze c.self.inside.rows.items c.args.head c.in-Ok.place c.index_mut.result.now c.self.invariant.rises
    (rw c.deref.ensures.value at c.in-Ok.ensures) c.index_mut.ensures.value c.self.inside.drawn c.self.inside.room)

pub unreachable-requires : goal.unreachable-requires
unreachable-requires c =
    both_ways (is_some (map.get (generations_in c.self.inside.rows.items) c.args.head))
    (ap is_some
    (read_none c.self.inside.rows.items c.args.head c.in_default.field-0 c.self.invariant.rises
    (rw c.deref.ensures.value at c.in_default.ensures)))
    (rw (← c.self.view_is) at c.requires)
