use Rattle.std.proofs.Common.{arith, sym, ◌≡◌, ◌∙◌, refl, add-zero}
use Rattle.bit_array.specs.Mask.{packed_byte}
use Rattle.bit_array.proofs.Masks.{packed-none, packed_step}
use Rattle.bit_array.proofs.bits.Bits.packed_byte.Goals as goal

pub loop-step-init : goal.loop-step-init
loop-step-init c = sym (packed-none _ _)

pub overflow_mul-byte : goal.overflow_mul-byte
overflow_mul-byte c =
    omega (
      arith,
      (packed_step c.args.self.now c.args.index c.loop-step.step c.loop-step.byte _
          c.loop-step.invariant refl c.loop-step-test.true).1,
    )

pub overflow_add-byte : goal.overflow_add-byte
overflow_add-byte c =
    omega (
      arith,
      (packed_step c.args.self.now c.args.index c.loop-step.step c.loop-step.byte _
          c.loop-step.invariant c.bit_value.ensures c.loop-step-test.true).1,
    )

pub loop-step-preserved : goal.loop-step-preserved
loop-step-preserved c =
    (packed_step c.args.self.now c.args.index c.loop-step.step c.loop-step.byte _
    c.loop-step.invariant c.bit_value.ensures c.loop-step-test.true).0

pub returns : goal.returns
unfolding packed_byte
returns c =
    let all : c.loop-step.step ≡ 8 = omega arith in
    c.loop-step.invariant ∙ rw (all, add-zero) refl
