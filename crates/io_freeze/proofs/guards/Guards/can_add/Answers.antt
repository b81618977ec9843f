use Rattle.std.proofs.Common.{◌≡◌, ◌<◌, ◌^◌, ◌&&◌, nat_lt, ℕ, true, refl, ap, ◌∙◌, sym, arith, length}
use Rattle.std.specs.FinMap as map
use Rattle.std.proofs.lemmas.Bool.{lt-ltb}
use Rattle.std.proofs.lemmas.Bool.Decides.{nat_tests}
use Rattle.io_freeze.specs.Rows.{generations_in}
use Rattle.io_freeze.proofs.Found.{len-generations_in}
use Rattle.io_freeze.proofs.guards.Guards.can_add.Goals as goal

pub returns-then-len-from : goal.returns-then-len-from
returns-then-len-from c =
    let len = len-generations_in c.self.inside.rows.items c.self.invariant.rises in
    let few : map.len (generations_in c.self.inside.rows.items) < c.self.inside.room =
    grind (arith, nat_tests, len, c.len.ensures, c.from.ensures, c.if-len-from.true) in
    rw (← c.self.view_is) grind (arith, nat_tests, few)

pub returns-else-len-from : goal.returns-else-len-from
returns-else-len-from c =
    let len = len-generations_in c.self.inside.rows.items c.self.invariant.rises in
    rw (← c.self.view_is) grind (arith, nat_tests, len, c.len.ensures, c.from.ensures, c.if-len-from.false)
