use Rattle.std.proofs.Common.{arith, sym, ◌∙◌}
use Rattle.bit_array.proofs.Places.{word_within, joins}
use Rattle.bit_array.proofs.bits.Bits.set.Goals as goal

pub index_mut-requires : goal.index_mut-requires
index_mut-requires c =
    omega (arith, word_within _ _ _ _ _ c.self.view_is c.requires c.self.invariant, c.self.inside.words.ok)

pub overflow_add-self : goal.overflow_add-self
overflow_add-self c =
    let step =
    joins _ _ _ _ _ _ c.self.view_is c.requires c.self.invariant
    (sym c.get.ensures ∙ c.if-not-get.true) c.index_mut.ensures.value in
    omega (arith, step.0)

pub invariant_of-self : goal.invariant_of-self
invariant_of-self c =
    (joins _ _ _ _ _ _ c.self.view_is c.requires c.self.invariant
    (sym c.get.ensures ∙ c.if-not-get.true) c.index_mut.ensures.value).1.counted

pub returns-then-not-get : goal.returns-then-not-get
returns-then-not-get c =
    (joins _ _ _ _ _ _ c.self.view_is c.requires c.self.invariant
    (sym c.get.ensures ∙ c.if-not-get.true) c.index_mut.ensures.value).1.view
