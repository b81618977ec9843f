use Rattle.std.proofs.Common.{subst}
use Rattle.blob_meta.specs.Heads.{IsNextNamed, HasNoNameFrom}
use Rattle.blob_meta.proofs.NamedHeads.{next-named, none-named}
use Rattle.blob_meta.proofs.head_map.HeadMap.next_named.Goals as goal

pub returns-in-Some-clause-some : goal.returns-in-Some-clause-some
returns-in-Some-clause-some g c =
    let parts = rw c.deref.ensures.value at c.start_of-first.ensures.parts in
    let found = rw c.deref-2.ensures.value at c.in-Some.ensures.some in
    subst (λ m. IsNextNamed g.V.HasName.name_of c.args.name.now m c.args.head c.index.result.now.0) c.self.view_is
    (next-named g.V.HasName.name_of c.args.name.now c.self.inside.entries.items c.args.head c.start_of-first.result
    c.self.invariant.in_order parts c.in-Some.place c.index.result.now c.index.ensures found)

pub returns-in-None-clause-none : goal.returns-in-None-clause-none
returns-in-None-clause-none g c =
    let parts = rw c.deref.ensures.value at c.start_of-first.ensures.parts in
    let none = rw c.deref-2.ensures.value at c.in-None.ensures.none in
    subst (λ m. HasNoNameFrom g.V.HasName.name_of c.args.name.now m c.args.head) c.self.view_is
    (none-named g.V.HasName.name_of c.args.name.now c.self.inside.entries.items c.args.head c.start_of-first.result
    c.self.invariant.in_order parts none)
