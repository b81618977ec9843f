use Rattle.std.proofs.Common.{◌≡◌, replicate, refl, false}
use Rattle.crc32c.specs.Crc.{divide_bit, eight_steps, after_byte, remainder_of, crc32c_of, is_sound}

-- a page of zeros isn't sound
pub is_sound-zeros : is_sound (replicate 4096 0) ≡ false
unfolding is_sound crc32c_of remainder_of after_byte eight_steps divide_bit
is_sound-zeros = refl
