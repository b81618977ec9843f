use Rattle.std.proofs.Common.{arith, ◌-◌, ◌∙◌, sym, ap, ℕ, get_or, List}
use Rattle.std.specs.Int.{to_le_bytes, w32}
use Rattle.bit_array.proofs.Masks.{mask_text-kind, mask_text-len, mask_text-bits}
use Rattle.bit_array.proofs.bits.Bits.mask_byte.Goals as goal

pub packed_byte-requires : goal.packed_byte-requires
packed_byte-requires c = omega arith

pub returns-in-0 : goal.returns-in-0
returns-in-0 c = rw c.in-0.is (sym (mask_text-kind c.args.kind c.args.self.now))

pub returns-in-1-to-4 : goal.returns-in-1-to-4
returns-in-1-to-4 c =
    ap (λ (bytes : List ℕ). get_or bytes (c.args.place - 1) 0)
    (c.to_le_bytes.ensures ∙ ap (to_le_bytes w32) c.len-len.ensures)
    ∙ sym (mask_text-len c.args.kind c.args.place c.args.self.now (omega arith) (omega arith))

pub returns-in_default : goal.returns-in_default
returns-in_default c =
    c.packed_byte.ensures ∙ sym (mask_text-bits c.args.kind c.args.place c.args.self.now (omega arith) c.requires)
