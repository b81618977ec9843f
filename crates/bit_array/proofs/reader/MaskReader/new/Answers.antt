use Rattle.std.proofs.Common.{◌∙◌, refl}
use Rattle.bit_array.proofs.Masks.{bits_in-none}
use Rattle.bit_array.proofs.reader.MaskReader.new.Goals as goal

pub returns-clause-read : goal.returns-clause-read
returns-clause-read c =
    record { kind_is = refl; pages = refl; bits_are = c.in_ok-new.ensures ∙ bits_in-none c.args.len }
