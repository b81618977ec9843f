-- How many pages a load reads.
use Rattle.std.specs.Prelude.{ℕ, ◌+◌, ◌*◌, length}
use Rattle.std.specs.List.{range_with_len, sum_by}
use Rattle.std.specs.Option.{option_map_or}
use Rattle.bit_array.specs.Mask.{mask_pages}
use Rattle.store_model.specs.Maps.{Chains}
use Rattle.super_block.specs.Numbers.{clusters_of}
use Rattle.super_block.specs.declared.page.Super.{Super}
use Rattle.unclean_load.specs.declared.heads.Heads.{Heads}
use Rattle.unclean_load.specs.declared.heads.Heads.TheVariants.{Listed, ByScan}

-- how many pages the chains of the heads below a place have together
abbrev pub pages_together : ℕ → Chains → ℕ
pages_together end chains =
    sum_by (λ head. option_map_or (λ pages. length pages) (chains head) 0) (range_with_len 0 end)

-- how many of so many places are read to test whether they are heads: a set needs no test
abbrev pub reads_to_test : Heads → ℕ → ℕ
reads_to_test ByScan count = count
reads_to_test (Listed places) count = 0

-- the pages of the three masks
abbrev pub all_mask_pages : Super → ℕ
all_mask_pages s = 2 * mask_pages s.md_len + mask_pages (clusters_of s)

-- A load by the masks reads the super block, the masks and the used metadata pages, each once.
abbrev pub quick_reads : Super → Chains → ℕ
quick_reads s chains = 1 + all_mask_pages s + pages_together s.md_len chains

-- No load reads more than this: the chains by the masks, each place for the scan, the chains of the scan, and the one
-- that shows a fault have at most as many pages as the metadata region each.
abbrev pub most_reads : Super → ℕ
most_reads s = 1 + all_mask_pages s + 4 * s.md_len
