use Rattle.std.proofs.Common.{◌≡◌, ◌<◌, ◌^◌, get_or, arith, refl}
use Rattle.bit_array.specs.Words.{bits_of}
use Rattle.bit_array.proofs.Places.{found_in, full_words}
use Rattle.bit_array.proofs.bits.Bits.first_clear.Goals as goal

pub returns-then-at-len-clause-least : goal.returns-then-at-len-clause-least
returns-then-at-len-clause-least c =
    let items = c.deref-word-items.result.now in
    let view : bits_of items c.self.inside.len ≡ c.args.self.now = rw c.deref-word-items.ensures.value c.self.view_is in
    let fits : get_or items c.loop-place.place 0 < 2 ^ 64 = omega arith in
    let found = found_in items _ c.loop-place.place _ _ view c.loop-place.invariant refl fits c.if-word.true in
    rw c.trailing_ones.ensures (found.least (rw c.trailing_ones.ensures at c.if-at-len.true))

pub returns-then-at-len-clause-full : goal.returns-then-at-len-clause-full
returns-then-at-len-clause-full c =
    let items = c.deref-word-items.result.now in
    let view : bits_of items c.self.inside.len ≡ c.args.self.now = rw c.deref-word-items.ensures.value c.self.view_is in
    let fits : get_or items c.loop-place.place 0 < 2 ^ 64 = omega arith in
    let found = found_in items _ c.loop-place.place _ _ view c.loop-place.invariant refl fits c.if-word.true in
    (λ some. cc, λ every. absurd (found.not_full (rw c.trailing_ones.ensures at c.if-at-len.true) every))

pub returns-else-at-len-clause-full : goal.returns-else-at-len-clause-full
returns-else-at-len-clause-full c =
    let items = c.deref-word-items.result.now in
    let view : bits_of items c.self.inside.len ≡ c.args.self.now = rw c.deref-word-items.ensures.value c.self.view_is in
    let fits : get_or items c.loop-place.place 0 < 2 ^ 64 = omega arith in
    let found = found_in items _ c.loop-place.place _ _ view c.loop-place.invariant refl fits c.if-word.true in
    (λ _. found.full (rw c.trailing_ones.ensures at c.if-at-len.false), λ _. refl)

pub returns-clause-full : goal.returns-clause-full
returns-clause-full c =
    let items = c.deref-word-items.result.now in
    let view : bits_of items c.self.inside.len ≡ c.args.self.now =
    rw c.deref-word-items.ensures.value c.self.view_is in (
      λ _. full_words items c.self.inside.len c.self.inside.count c.loop-place.place _ view
          (rw c.deref-word-items.ensures.value c.self.invariant) c.loop-place.invariant c.loop-place-test.false,
      λ _. refl,
    )
