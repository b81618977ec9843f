use Rattle.std.proofs.Common.{sym}
use Rattle.bit_array.proofs.Places.{length-bits_of}
use Rattle.bit_array.proofs.bits.Bits.len.Goals as goal

pub returns : goal.returns
returns c = rw (← c.self.view_is) (sym (length-bits_of c.self.inside.words.items c.self.inside.len))
