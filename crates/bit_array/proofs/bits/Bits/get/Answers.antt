use Rattle.std.proofs.Common.{arith}
use Rattle.bit_array.proofs.Places.{word_within, is_in-read}
use Rattle.bit_array.proofs.bits.Bits.get.Goals as goal

pub index-requires : goal.index-requires
index-requires c =
    omega (arith, word_within _ _ _ _ _ c.self.view_is c.requires c.self.invariant, c.self.inside.words.ok)

pub returns : goal.returns
returns c = is_in-read _ _ _ _ _ _ c.self.view_is c.requires c.self.invariant c.index.ensures
