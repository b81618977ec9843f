use Rattle.crc32c.proofs.Words.{look_up_word}
use Rattle.crc32c.proofs.divide_word.Goals as goal

pub returns : goal.returns
returns c = look_up_word c.args.behind c.args.word c.requires c.ranges.word.fits
