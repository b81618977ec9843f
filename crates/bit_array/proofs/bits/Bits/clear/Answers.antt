use Rattle.std.proofs.Common.{arith, sym, ◌∙◌}
use Rattle.bit_array.proofs.Places.{word_within, leaves}
use Rattle.bit_array.proofs.bits.Bits.clear.Goals as goal

pub index_mut-requires : goal.index_mut-requires
index_mut-requires c =
    omega (arith, word_within _ _ _ _ _ c.self.view_is c.requires c.self.invariant, c.self.inside.words.ok)

pub invariant_of-self : goal.invariant_of-self
invariant_of-self c =
    (leaves _ _ _ _ _ _ c.self.view_is c.requires c.self.invariant
    (sym c.get.ensures ∙ c.if-get.true) c.index_mut.ensures.value).counted

pub returns-then-get : goal.returns-then-get
returns-then-get c =
    (leaves _ _ _ _ _ _ c.self.view_is c.requires c.self.invariant
    (sym c.get.ensures ∙ c.if-get.true) c.index_mut.ensures.value).view
