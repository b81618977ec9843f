-- What a run of pages is to hold.
use Rattle.std.specs.Prelude.{◌≡◌, ℕ, ◌+◌, ◌<◌, ◌≤◌, List, length, replicate}
use Rattle.bit_array.specs.Mask.{mask_pages, mask_text, text_page}
use Rattle.page_disk.specs.Disk.{Image}
use Rattle.page_runs.specs.declared.content.Content.{Content}
use Rattle.page_runs.specs.declared.content.Content.TheVariants.{Zeros, Mask}

-- the page at an index of the content
abbrev pub page_at : Content → ℕ → List ℕ
page_at Zeros index = replicate 4096 0
page_at (Mask kind bits) index = text_page index (mask_text kind bits.now)

-- the content has so many pages
abbrev pub HasPages : Content → ℕ → Type 0
HasPages Zeros count = Unit {0}
HasPages (Mask kind bits) count = count ≤ mask_pages (length bits.now)

-- so many pages from a start on are those of the content
abbrev pub HoldsContent : Content → ℕ → ℕ → Image → Type 0
HoldsContent content start count image = (k : ℕ) → k < count → image (start + k) ≡ page_at content k
