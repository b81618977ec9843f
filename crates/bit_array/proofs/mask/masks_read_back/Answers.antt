use Rattle.bit_array.proofs.Masks.{bits_in-mask_text, head_fault-mask_text}
use Rattle.bit_array.proofs.mask.masks_read_back.Goals as goal

pub returns : goal.returns
returns c = record { bits = bits_in-mask_text; head = head_fault-mask_text }
