-- The tests of a super block, in their order. Each gives its fault where it fails.
use Rattle.std.specs.Prelude.{◌≡◌, ℕ, ◌*◌, ◌%◌, ◌^◌, ◌-◌, min, ◌==◌, nat_lt, nat_le, Bool, true, ◌&&◌, ◌||◌}
use Rattle.std.specs.Prelude.{if◌then◌else◌, List, [], ◌∷◌, codes, bytes_eq, find, Option, Some, None, option_map}
use Rattle.crc32c.specs.Crc.{is_sound}
use Rattle.bit_array.specs.Mask.{mask_pages}
use Rattle.super_block.specs.declared.fault.Region.TheVariants.{Whole}
use Rattle.super_block.specs.declared.span.Span.{Span}
use Rattle.super_block.specs.declared.page.Super.{Super}
use Rattle.super_block.specs.declared.fault.SuperFault.{SuperFault}
use Rattle.super_block.specs.declared.fault.SuperFault.TheVariants.{BadSignature, BadVersion, BadChecksum, BadPageSize}
use Rattle.super_block.specs.declared.fault.SuperFault.TheVariants.{BadClusterSize, TooManyPages, TooManyClusters}
use Rattle.super_block.specs.declared.fault.SuperFault.TheVariants.{PastEnd, ShortMask, Overlap}
use Rattle.super_block.specs.Span.{end_of, shares}
use Rattle.super_block.specs.Numbers.{cluster_pages_of, clusters_of, super_page, page_mask, cluster_mask, blob_mask}
use Rattle.super_block.specs.Numbers.{placed}
use Rattle.super_block.specs.Page.{super_of}

-- the fault of the first test that fails
abbrev pub first_fault : List (Option SuperFault) → Option SuperFault
first_fault [] = None
first_fault (None ∷ rest) = first_fault rest
first_fault (Some fault ∷ rest) = Some fault

-- the fault where a test fails
abbrev pub unless : Bool → SuperFault → Option SuperFault
unless holds fault = if holds then None else Some fault

-- the page begins with the signature
unfoldable pub signature_fault : Super → Option SuperFault
signature_fault s = unless (bytes_eq s.signature (codes "SPDKBLOB")) BadSignature

-- the format's version is 3
unfoldable pub version_fault : Super → Option SuperFault
version_fault s = unless (s.version == 3) (BadVersion s.version)

-- the page is sound
abbrev pub checksum_fault : Bool → Option SuperFault
checksum_fault sound = unless sound BadChecksum

-- metadata pages have 4096 bytes, for which 0 may stand
unfoldable pub page_size_fault : Super → Option SuperFault
page_size_fault s = unless ((s.md_page_size == 0) || (s.md_page_size == 4096)) (BadPageSize s.md_page_size)

-- the size is a multiple of 4096 above 0
unfoldable pub cluster_size_fault : Super → Option SuperFault
cluster_size_fault s = unless (nat_lt 0 s.cluster_size && (s.cluster_size % 4096 == 0)) (BadClusterSize s.cluster_size)

-- a number in a field of 32 bits, or the greatest that the field holds
abbrev pub in_u32 : ℕ → ℕ
in_u32 n = min n (2 ^ 32 - 1)

-- so many metadata pages, and so many clusters, are the most
unfoldable pub pages_fault : ℕ → Option SuperFault
pages_fault pages = unless (nat_le pages (2 ^ 20)) (TooManyPages (in_u32 pages))

-- the clusters are at most 2^24
unfoldable pub clusters_fault : ℕ → Option SuperFault
clusters_fault clusters = unless (nat_le clusters (2 ^ 24)) (TooManyClusters clusters)

-- the store is no larger than the device
unfoldable pub size_fault : Super → Option SuperFault
size_fault s = unless (nat_le s.size (4096 * s.device_pages)) (PastEnd Whole)

-- the first of these regions that ends past a page
abbrev pub past : ℕ → List Span → Option SuperFault
past limit spans = option_map (λ a. PastEnd a.region) (find (λ a. nat_lt limit (end_of a)) spans)

-- every region ends at or before the end of the last whole cluster
unfoldable pub past_fault : Super → Option SuperFault
past_fault s = past (clusters_of s * cluster_pages_of s) (placed s)

-- a mask has the pages that its bits take; it may have more
abbrev pub short : Span → ℕ → Option SuperFault
short mask bits = unless (nat_le (mask_pages bits) mask.len) (ShortMask mask.region mask.len (mask_pages bits))

-- the first mask that is short, of the page mask, the cluster mask and the blob mask
unfoldable pub mask_fault : Super → Option SuperFault
mask_fault s =
    first_fault
    (short (page_mask s) s.md_len ∷ short (cluster_mask s) (clusters_of s) ∷ short (blob_mask s) s.md_len ∷ [])

-- the first of these regions that has a page of this one
abbrev pub overlap_with : Span → List Span → Option SuperFault
overlap_with a rest = option_map (λ b. Overlap a.region b.region) (find (shares a) rest)

-- the first pair of these regions that has a page in common, by the first of the two and then by the second
abbrev pub overlap : List Span → Option SuperFault
overlap [] = None
overlap (a ∷ rest) = first_fault (overlap_with a rest ∷ overlap rest ∷ [])

-- no two of the five regions have a page in common
unfoldable pub overlap_fault : Super → Option SuperFault
overlap_fault s = overlap (super_page ∷ placed s)

-- the tests in their order, of a super block whose page is sound or isn't
unfoldable pub tests : Bool → Super → List (Option SuperFault)
tests sound s =
    signature_fault s ∷ version_fault s ∷ checksum_fault sound ∷ page_size_fault s ∷ cluster_size_fault s
    ∷ pages_fault s.md_len ∷ clusters_fault (clusters_of s) ∷ size_fault s ∷ past_fault s ∷ mask_fault s
    ∷ overlap_fault s ∷ []

-- the first fault of a super block whose page is sound or not
unfoldable pub fault_of : Bool → Super → Option SuperFault
fault_of sound s = first_fault (tests sound s)

-- the first fault of a page as the super block of a device with so many pages
abbrev pub super_fault : List ℕ → ℕ → Option SuperFault
super_fault page device_pages = fault_of (is_sound page) (super_of page device_pages)

-- no test fails; of the sum nothing is asked, since it is taken anew on writing
abbrev pub IsFaultless : Super → Type 0
IsFaultless s = fault_of true s ≡ None
