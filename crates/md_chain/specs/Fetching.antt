-- The tests of a chain's page in two halves: those of its place, before it is read, and those of the page.
use Rattle.std.specs.Prelude.{◌≡◌, ℕ, ◌==◌, nat_lt, not, if◌then◌else◌, List, Option, Some, None}
use Rattle.crc32c.specs.Crc.{is_sound}
use Rattle.md_page.specs.Page.{id_of, sequence_of, body_of}
use Rattle.descriptors.specs.Grammar.{Spoils}
use Rattle.page_disk.specs.Disk.{Rose}
use Rattle.md_chain.specs.Chain.{is_among, blob_id}
use Rattle.md_chain.specs.declared.fault.ChainFault.{ChainFault}
use Rattle.md_chain.specs.declared.fault.ChainFault.TheVariants as faults

-- the place is past the region's end, or stands in the chain already
abbrev pub place_fault : ℕ → List ℕ → ℕ → ℕ → Option ChainFault
place_fault md_len seen before place =
    if not (nat_lt place md_len) then Some (faults.LinkPastEnd before place)
    else (if is_among place seen then Some (faults.Loop place) else None)

-- the page isn't sound, or isn't the nth of this blob
abbrev pub page_fault : List ℕ → ℕ → ℕ → ℕ → Option ChainFault
page_fault page head n place =
    if not (is_sound page) then Some (faults.Unsound place)
    else (if not (id_of page == blob_id head) then Some (faults.WrongId place (id_of page))
    else (if not (sequence_of page == n) then Some (faults.WrongSequence place (sequence_of page) n)
    else None))

-- Why a page isn't fetched: its place fails a test, or the device counted a failed read.
abbrev pub IsFetchFault : ℕ → List ℕ → ℕ → ℕ → ℕ → ℕ → ChainFault → Type 0
IsFetchFault md_len seen before place old new faults.ReadFault =
    (place_fault md_len seen before place ≡ None) × Rose old new
IsFetchFault md_len seen before place old new why = (place_fault md_len seen before place ≡ Some why) × (new ≡ old)

-- Why a page isn't the nth of a blob: it fails a test, or its body has a bad descriptor. Want of memory may come
-- anywhere.
abbrev pub IsNthPageFault : List ℕ → ℕ → ℕ → ℕ → ChainFault → Type 0
IsNthPageFault page head n place (faults.BadItem at_place at kind) =
    (at_place ≡ place) × (page_fault page head n place ≡ None) × Spoils (body_of page) at kind
IsNthPageFault page head n place faults.Memory = Unit {0}
IsNthPageFault page head n place why = page_fault page head n place ≡ Some why
