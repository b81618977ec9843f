-- The layout of a new store. Numbers are without bound.
use Rattle.std.specs.Prelude.{List, ◌≡◌, false, None, codes, replicate, ℕ, ◌+◌, ◌*◌, ◌/◌, ◌^◌, nat_lt, nat_le, ◌&&◌, []}
use Rattle.std.specs.Prelude.{◌∷◌, Option, unwrap_or}
use Rattle.std.specs.Int.{div_ceil}
use Rattle.bit_array.specs.Bits.{first_of}
use Rattle.bit_array.specs.Mask.{mask_pages}
use Rattle.super_block.specs.declared.page.Super.{Super}
use Rattle.super_block.specs.declared.layout.Layout.{Layout}
use Rattle.super_block.specs.declared.masks.Masks.{Masks}
use Rattle.super_block.specs.declared.fault.SuperFault.{SuperFault}
use Rattle.super_block.specs.declared.fault.SuperFault.TheVariants.{BadClusterSize, DeviceTooSmall}
use Rattle.super_block.specs.Faults.{first_fault, unless, in_u32, pages_fault, clusters_fault}

-- The super block is page 0, and behind it stand the page mask, the cluster mask, the blob-id mask and the metadata
-- region, each where the one before it ends. The clusters are the whole ones of the device. Those are fixed that hold a
-- page before the metadata region's end.
unfoldable pub layout_of : ℕ → ℕ → ℕ → Layout
layout_of device_pages cluster_pages md_pages =
    let clusters = device_pages / cluster_pages in
    let page_len = mask_pages md_pages in
    let cluster_len = mask_pages clusters in
    let md_start = 1 + page_len + cluster_len + page_len in
    record {
      device_pages = device_pages;
      cluster_pages = cluster_pages;
      md_pages = md_pages;
      page_mask_start = 1;
      page_mask_len = page_len;
      cluster_mask_start = 1 + page_len;
      cluster_mask_len = cluster_len;
      blob_mask_start = 1 + page_len + cluster_len;
      blob_mask_len = page_len;
      md_start = md_start;
      clusters = clusters;
      fixed_clusters = div_ceil (md_start + md_pages) cluster_pages;
    }

-- where no number of metadata pages is asked for, there are as many as clusters
abbrev pub md_pages_of : ℕ → ℕ → Option ℕ → ℕ
md_pages_of device_pages cluster_pages md_pages = unwrap_or md_pages (device_pages / cluster_pages)

-- a cluster has at least one page, and its bytes are a number of 32 bits
unfoldable pub cluster_pages_fault : ℕ → Option SuperFault
cluster_pages_fault pages = unless (nat_lt 0 pages && nat_lt pages (2 ^ 20)) (BadClusterSize (in_u32 (pages * 4096)))

-- the fixed clusters are on the device
unfoldable pub room_fault : Layout → Option SuperFault
room_fault plan =
    unless (nat_le plan.fixed_clusters plan.clusters)
    (DeviceTooSmall plan.device_pages (plan.fixed_clusters * plan.cluster_pages))

-- the first fault of a plan
unfoldable pub plan_fault : ℕ → ℕ → ℕ → Option SuperFault
plan_fault device_pages cluster_pages md_pages =
    first_fault
    (cluster_pages_fault cluster_pages ∷ pages_fault md_pages ∷ clusters_fault
    (device_pages / cluster_pages) ∷ room_fault (layout_of device_pages cluster_pages md_pages) ∷ [])

-- a layout that was planned without a fault
pub record IsPlanned (plan : Layout) : Type 0 where
  pub value : plan ≡ layout_of plan.device_pages plan.cluster_pages plan.md_pages
  pub no_fault : plan_fault plan.device_pages plan.cluster_pages plan.md_pages ≡ None

-- the super block of a new store with this layout, for a super blob and a kind of store
unfoldable pub new_super : Layout → ℕ → List ℕ → Super
new_super plan super_blob bstype = record {
  device_pages = plan.device_pages;
  signature = codes "SPDKBLOB";
  version = 3;
  length = 4096;
  clean = 1;
  super_blob = super_blob;
  cluster_size = plan.cluster_pages * 4096;
  used_page_mask_start = plan.page_mask_start;
  used_page_mask_len = plan.page_mask_len;
  used_cluster_mask_start = plan.cluster_mask_start;
  used_cluster_mask_len = plan.cluster_mask_len;
  md_start = plan.md_start;
  md_len = plan.md_pages;
  bstype = bstype;
  used_blobid_mask_start = plan.blob_mask_start;
  used_blobid_mask_len = plan.blob_mask_len;
  size = plan.device_pages * 4096;
  io_unit_size = 4096;
  md_page_size = 0;
  rest = replicate 3996 0;
  crc = 0;
}

-- the masks of a new store: the fixed clusters are used, every metadata page is free, and no blob begins anywhere
abbrev pub new_masks : Layout → Masks
new_masks plan = record {
  pages = replicate plan.md_pages false;
  clusters = first_of plan.fixed_clusters plan.clusters;
  blobs = replicate plan.md_pages false;
}
