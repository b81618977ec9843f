use Rattle.std.proofs.Common.{◌<◌, List, ℕ, get_or, length, subst, sym}
use Rattle.running_store.proofs.Cleared.{among_get}
use Rattle.store_core.proofs.removed.add_places.Goals as goal

pub set-requires : goal.set-requires
set-requires c =
    let i = c.loop-place.place-index in
    let same = c.as_slice-place-items.ensures in
    let low : i < length c.args.places.now = subst (λ (l : List ℕ). i < length l) same c.loop-place-test.true in
    let below = c.requires (get_or c.args.places.now i 0) (among_get c.args.places.now i 0 low) in
    subst (λ (l : List ℕ). get_or l i 0 < length c.loop-place.bits) (sym same)
    (subst (λ n. get_or c.args.places.now i 0 < n) (sym c.loop-place.invariant.count) below)
