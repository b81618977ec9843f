use Rattle.std.proofs.Common.{subst}
use Rattle.blob_meta.specs.Heads.{IsNextFrom, HasNoKeyFrom}
use Rattle.blob_meta.proofs.NextHead.{next-at, next-gap, next-none}
use Rattle.blob_meta.proofs.head_map.HeadMap.next_from.Goals as goal

pub returns-in-Ok-clause-some : goal.returns-in-Ok-clause-some
returns-in-Ok-clause-some g c =
    let at = rw c.deref.ensures.value at c.in-Ok.ensures in
    rw (← c.self.view_is)
    (next-at c.self.inside.entries.items c.args.head c.in-Ok.field-0 c.self.invariant.in_order at.within at.place)

pub returns-in-Some-clause-some : goal.returns-in-Some-clause-some
returns-in-Some-clause-some g c =
    let gap = rw c.deref.ensures.value at c.in-Err.ensures in
    let found = rw c.deref-in-Err.ensures.value at c.in-Some.ensures.lookup in
    subst (λ m. IsNextFrom m c.args.head c.in-Some.entry.now.0) c.self.view_is
    (next-gap c.self.inside.entries.items c.args.head c.in-Err.place c.self.invariant.in_order
    c.in-Some.entry.now found.1 found.3.0 gap.place)

pub returns-in-None-clause-none : goal.returns-in-None-clause-none
returns-in-None-clause-none g c =
    let gap = rw c.deref.ensures.value at c.in-Err.ensures in
    let found = rw c.deref-in-Err.ensures.value at c.in-None.ensures.lookup in
    subst (λ m. HasNoKeyFrom m c.args.head) c.self.view_is
    (next-none c.self.inside.entries.items c.args.head c.in-Err.place c.self.invariant.in_order found.3 gap.place)
