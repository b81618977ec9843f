-- The metadata region of a device, and the numbers of a store by which metadata is tested.
use Rattle.std.specs.Prelude.{ℕ, ◌+◌}
use Rattle.page_disk.specs.Disk.{Image}
use Rattle.super_block.specs.declared.page.Super.{Super}
use Rattle.super_block.specs.Numbers.{clusters_of, fixed_clusters_of}
use Rattle.md_chain.specs.Chain.{Look}

pub record MdRegion : Type 0 where
  -- the first page and the number of pages
  pub start : ℕ
  pub len : ℕ
  -- clusters below the first number are always used, and there are as many as the second
  pub fixed : ℕ
  pub clusters : ℕ

abbrev pub region_of : Super → MdRegion
region_of s = record { start = s.md_start; len = s.md_len; fixed = fixed_clusters_of s; clusters = clusters_of s }

-- the page at each place of the region
abbrev pub look_of : MdRegion → Image → Look
look_of r image place = image (r.start + place)
