use Rattle.std.proofs.Common.{ℕ, List, true, refl, sym, ap, subst, ◌∙◌}
use Rattle.store_model.specs.Places.{all_set, AreLeastClear}
use Rattle.running_store.proofs.PagesTaken.{all_taken, bits_taken, not_full}
use Rattle.running_store.proofs.taking.take_places.Goals as goal

pub unreachable-requires : goal.unreachable-requires
unreachable-requires g c = not_full c.args.pool.now.bits c.args.count c.loop.counter c.loop.pool c.loop.places.items
    c.loop.invariant.0 c.loop-test.true (c.in_default.ensures.full.0 refl)

pub returns-clause-least : goal.returns-clause-least
returns-clause-least g c = subst (AreLeastClear c.args.pool.now.bits) (sym c.from_vec.ensures)
    (all_taken c.args.pool.now.bits c.args.count c.loop.counter c.loop.pool c.loop.places.items c.loop.invariant.0)

pub returns-clause-bits : goal.returns-clause-bits
returns-clause-bits g c =
    bits_taken c.args.pool.now.bits c.args.count c.loop.counter c.loop.pool c.loop.places.items c.loop.invariant.0
    ∙ ap (λ (l : List ℕ). all_set c.args.pool.now.bits l true) (sym c.from_vec.ensures)
