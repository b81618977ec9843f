-- Which image a crash of a disk in memory leaves, where a number picks it.
use Rattle.std.specs.Prelude.{◌≡◌, ◌⊎◌, ◌*◌, ◌/◌, ◌%◌, ◌^◌, ◌==◌, if◌then◌else◌, ℕ, false, List, [], ◌∷◌, length}
use Rattle.std.specs.Prelude.{slice_index, slice_set, bit_xor}
use Rattle.crc32c.specs.Crc.{is_sound}
use Rattle.page_disk.specs.Disk.{Image, IsPage, Puts, with_page}
use Rattle.page_disk.specs.Record.{Recorded, base_image}
use Rattle.page_disk.specs.declared.disk.WriteKind.TheVariants.{Whole, Plain}
use Rattle.page_disk.specs.declared.record.Call.{Call}
use Rattle.page_disk.specs.declared.record.Call.TheVariants.{Write, Flush}
use Rattle.page_disk.specs.declared.crash.Remains.{Remains}
use Rattle.page_disk.specs.declared.crash.Remains.TheVariants.{Old, New, Torn}

-- Two bits of the pick decide what is left of a write, the lowest two of the last one; after 32 writes they begin anew.
unfoldable pub remains_by : ℕ → ℕ → Remains
remains_by pick behind =
    let bits = pick / 2 ^ (2 * (behind % 32)) % 4 in
    if bits == 0 then Old else (if bits == 1 then New else Torn bits)

-- the page with some bits of its last byte turned
abbrev pub torn_by : ℕ → List ℕ → List ℕ
torn_by change page = slice_set page 4095 (bit_xor (slice_index page 4095) change)

-- this page at this place, unless it is sound
unfoldable pub with_unsound : Image → ℕ → List ℕ → Image
with_unsound image place page = if is_sound page then image else with_page image place page

-- what is left of a write
abbrev pub left_of : Remains → Image → Call → Image
left_of remains image Flush = image
left_of Old image (Write place page kind) = image
left_of New image (Write place page kind) = with_page image place page
left_of (Torn change) image (Write place page Whole) = image
left_of (Torn change) image (Write place page Plain) = with_unsound image place (torn_by change page)

-- What is left of these calls, where the first image was read before them and the second was left: a flush leaves what
-- is read.
unfoldable pub left_after : ℕ → Image → Image → List Call → Image
left_after pick now left [] = left
left_after pick now left (Write place page kind ∷ rest) =
    left_after pick (with_page now place page)
    (left_of (remains_by pick (length rest)) left (Write place page kind)) rest
left_after pick now left (Flush ∷ rest) = left_after pick now now rest

-- what is left of a disk in memory
abbrev pub crash_image : ℕ → Recorded → Image
crash_image pick m = left_after pick (base_image m.base) (base_image m.base) m.calls

-- a write took place, or it did not
abbrev pub TookOrNot : Call → Image → Image → Type 0
TookOrNot (Write place page kind) before after =
    (after ≡ before) ⊎ ((put : List ℕ) × (after ≡ with_page before place put) × Puts kind page put)
TookOrNot Flush before after = after ≡ before

-- a page that isn't sound was put there, or none
abbrev pub TookUnsound : ℕ → Image → Image → Type 0
TookUnsound place before after =
    (after ≡ before) ⊎ ((put : List ℕ) × (after ≡ with_page before place put) × IsPage put × (is_sound put ≡ false))
