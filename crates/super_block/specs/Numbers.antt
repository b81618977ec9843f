-- The numbers that follow from a super block. They are without bound, so no sum or product wraps.
use Rattle.std.specs.Prelude.{ℕ, ◌*◌, ◌/◌, ◌==◌, if◌then◌else◌, List, [], ◌∷◌}
use Rattle.std.specs.Int.{div_ceil}
use Rattle.super_block.specs.declared.fault.Region.TheVariants.{SuperPage, PageMask, ClusterMask, BlobMask, Md}
use Rattle.super_block.specs.declared.span.Span.{Span}
use Rattle.super_block.specs.declared.page.Super.{Super}
use Rattle.super_block.specs.Span.{greatest_end}

-- pages in a cluster
unfoldable pub cluster_pages_of : Super → ℕ
cluster_pages_of s = s.cluster_size / 4096

-- bytes of the store; a size of 0 counts as the device's
abbrev pub size_of : Super → ℕ
size_of s = if s.size == 0 then s.device_pages * 4096 else s.size

-- whole clusters of the store
unfoldable pub clusters_of : Super → ℕ
clusters_of s = size_of s / s.cluster_size

-- the five regions
abbrev pub super_page : Span
super_page = record { region = SuperPage; start = 0; len = 1 }

-- the mask of used metadata pages
abbrev pub page_mask : Super → Span
page_mask s = record { region = PageMask; start = s.used_page_mask_start; len = s.used_page_mask_len }

-- the mask of used clusters
abbrev pub cluster_mask : Super → Span
cluster_mask s = record { region = ClusterMask; start = s.used_cluster_mask_start; len = s.used_cluster_mask_len }

-- the mask of heads
abbrev pub blob_mask : Super → Span
blob_mask s = record { region = BlobMask; start = s.used_blobid_mask_start; len = s.used_blobid_mask_len }

-- the metadata pages
abbrev pub md_region : Super → Span
md_region s = record { region = Md; start = s.md_start; len = s.md_len }

-- those that the super block places
unfoldable pub placed : Super → List Span
placed s = page_mask s ∷ cluster_mask s ∷ blob_mask s ∷ md_region s ∷ []

-- clusters that hold a page of a region, counted from cluster 0 to the greatest end of the five: they are always used
unfoldable pub fixed_clusters_of : Super → ℕ
fixed_clusters_of s = div_ceil (greatest_end (super_page ∷ placed s)) (cluster_pages_of s)
