-- A mask as it is read, page by page.
use Rattle.std.specs.Prelude.{◌≡◌, ℕ, ◌*◌, Bool, List, length}
use Rattle.bit_array.specs.Mask.{bits_in}

-- the type that is wanted, how many pages were read, and the bits that they hold; the others are clear
pub record MaskReading : Type 0 where
  pub kind : ℕ
  pub fed : ℕ
  pub bits : List Bool

-- the pages of a text were read, for a mask of this type and so many bits
pub record HasRead (reading : MaskReading) (kind len : ℕ) (text : List ℕ) : Type 0 where
  pub kind_is : reading.kind ≡ kind
  pub pages : length text ≡ 4096 * reading.fed
  pub bits_are : reading.bits ≡ bits_in len text
