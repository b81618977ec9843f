use Rattle.std.proofs.Common.{◌≡◌, ◌<◌, ◌+◌, ℕ, List, true, length, get_or, ap, sym, ◌∙◌, subst}
use Rattle.bit_array.specs.Bits.{is_in}
use Rattle.pools.specs.Pool.{freed}
use Rattle.running_store.proofs.Cleared.{Clears, clears_more, next_in_use}
use Rattle.running_store.proofs.clearing.clear_places.Goals as goal

pub free-requires-clause-in_use : goal.free-requires-clause-in_use
free-requires-clause-in_use g c =
    let same = c.as_slice-place-items.ensures in
    let low : c.loop-place.place-index < length c.args.places.now =
    subst (λ (l : List ℕ). c.loop-place.place-index < length l) same c.loop-place-test.true in
    subst (λ (l : List ℕ). is_in c.loop-place.pool.bits (get_or l c.loop-place.place-index 0) ≡ true) (sym same)
    (next_in_use c.args.pool.now.bits c.args.places.now c.loop-place.place-index c.loop-place.pool
    c.loop-place.invariant low)

pub loop-place-preserved : goal.loop-place-preserved
loop-place-preserved g c =
    let same = c.as_slice-place-items.ensures in
    let low : c.loop-place.place-index < length c.args.places.now =
    subst (λ (l : List ℕ). c.loop-place.place-index < length l) same c.loop-place-test.true in
    subst (Clears c.args.pool.now.bits c.args.places.now (c.loop-place.place-index + 1))
    (sym (c.free.ensures ∙ ap (λ (l : List ℕ). freed c.loop-place.pool (get_or l c.loop-place.place-index 0)) same))
    (clears_more c.args.pool.now.bits c.args.places.now c.loop-place.place-index c.loop-place.pool
    c.loop-place.invariant low)
