use Rattle.crc32c.proofs.Division.{look_up}
use Rattle.crc32c.proofs.divide_byte.Goals as goal

pub returns : goal.returns
returns c = look_up c.args.remainder c.args.byte c.ranges.byte.fits
