-- What stands in the page of the super block.
use Rattle.std.specs.Prelude.{◌≡◌, ℕ, List, ◌++◌, ◌<◌, ◌^◌, length}
use Rattle.crc32c.specs.Crc.{crc32c_of}
use Rattle.page_fields.specs.Fields.{field, number_at, number_bytes}
use Rattle.super_block.specs.declared.page.Super.{Super}

-- each field is the number or the bytes in its place, beside the number of the device's pages, which the page doesn't
-- hold
unfoldable pub super_of : List ℕ → ℕ → Super
super_of page device_pages = record {
  device_pages = device_pages;
  signature = field 0 8 page;
  version = number_at 8 4 page;
  length = number_at 12 4 page;
  clean = number_at 16 4 page;
  super_blob = number_at 20 8 page;
  cluster_size = number_at 28 4 page;
  used_page_mask_start = number_at 32 4 page;
  used_page_mask_len = number_at 36 4 page;
  used_cluster_mask_start = number_at 40 4 page;
  used_cluster_mask_len = number_at 44 4 page;
  md_start = number_at 48 4 page;
  md_len = number_at 52 4 page;
  bstype = field 56 16 page;
  used_blobid_mask_start = number_at 72 4 page;
  used_blobid_mask_len = number_at 76 4 page;
  size = number_at 80 8 page;
  io_unit_size = number_at 88 4 page;
  md_page_size = number_at 92 4 page;
  rest = field 96 3996 page;
  crc = number_at 4092 4 page;
}

-- the fields before the sum, one after the other
unfoldable pub super_front : Super → List ℕ
super_front s =
    s.signature ++ number_bytes 4 s.version ++ number_bytes 4 s.length ++ number_bytes 4 s.clean
    ++ number_bytes 8 s.super_blob ++ number_bytes 4 s.cluster_size
    ++ number_bytes 4 s.used_page_mask_start ++ number_bytes 4 s.used_page_mask_len
    ++ number_bytes 4 s.used_cluster_mask_start ++ number_bytes 4 s.used_cluster_mask_len
    ++ number_bytes 4 s.md_start ++ number_bytes 4 s.md_len ++ s.bstype
    ++ number_bytes 4 s.used_blobid_mask_start ++ number_bytes 4 s.used_blobid_mask_len
    ++ number_bytes 8 s.size ++ number_bytes 4 s.io_unit_size ++ number_bytes 4 s.md_page_size ++ s.rest

-- the page that a super block is written as: the sum is the last field, whatever `crc` holds
unfoldable pub super_bytes : Super → List ℕ
super_bytes s = super_front s ++ number_bytes 4 (crc32c_of (super_front s))

-- the fields have the lengths of their rows
pub record FitsSuper (s : Super) : Type 0 where
  pub signature-row : length s.signature ≡ 8
  pub version-row : s.version < 2 ^ 32
  pub length-row : s.length < 2 ^ 32
  pub clean-row : s.clean < 2 ^ 32
  pub super_blob-row : s.super_blob < 2 ^ 64
  pub cluster_size-row : s.cluster_size < 2 ^ 32
  pub used_page_mask_start-row : s.used_page_mask_start < 2 ^ 32
  pub used_page_mask_len-row : s.used_page_mask_len < 2 ^ 32
  pub used_cluster_mask_start-row : s.used_cluster_mask_start < 2 ^ 32
  pub used_cluster_mask_len-row : s.used_cluster_mask_len < 2 ^ 32
  pub md_start-row : s.md_start < 2 ^ 32
  pub md_len-row : s.md_len < 2 ^ 32
  pub bstype-row : length s.bstype ≡ 16
  pub used_blobid_mask_start-row : s.used_blobid_mask_start < 2 ^ 32
  pub used_blobid_mask_len-row : s.used_blobid_mask_len < 2 ^ 32
  pub size-row : s.size < 2 ^ 64
  pub io_unit_size-row : s.io_unit_size < 2 ^ 32
  pub md_page_size-row : s.md_page_size < 2 ^ 32
  pub rest-row : length s.rest ≡ 3996
