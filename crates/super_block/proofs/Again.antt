-- What is written is read as the same value, but for the sum.
use Rattle.std.proofs.Common.{◌≡◌, ℕ, ◌^◌, ◌<◌, true, List, [], length, refl, sym, ◌∙◌, append_assoc, arith}
use Rattle.std.proofs.Common.{length-append}
use Rattle.std.proofs.lemmas.List.{append-nil}
use Rattle.crc32c.specs.Crc.{crc32c_of, is_sound}
use Rattle.crc32c.proofs.Sealed.{is_sound-sealed}
use Rattle.page_fields.specs.Fields.{field, number_at, number_bytes}
use Rattle.page_fields.proofs.Laws.{next_field, next_number, len-number_bytes}
use Rattle.super_block.specs.declared.page.Super.{Super}
use Rattle.super_block.specs.Page.{FitsSuper, super_of, super_front, super_bytes}
use Rattle.super_block.specs.Numbers.{cluster_pages_of, clusters_of, placed}
use Rattle.super_block.specs.Faults.{tests, fault_of, signature_fault, version_fault, page_size_fault}
use Rattle.super_block.specs.Faults.{cluster_size_fault, size_fault, past_fault, mask_fault, overlap_fault}

len-front : (s : Super) → FitsSuper s → length (super_front s) ≡ 4092
unfolding super_front
len-front s f = simp (length-append, len-number_bytes) (omega (arith, f))

-- what is written is a sound page
pub is_sound-written : (s : Super) → FitsSuper s → crc32c_of (super_front s) < 2 ^ 32 → is_sound (super_bytes s) ≡ true
unfolding super_bytes number_bytes
is_sound-written s f lt = is_sound-sealed (super_front s) (len-front s f) lt

-- a value whose fields are those of the page
same : (s : Super) (page : List ℕ) → field 0 8 page ≡ s.signature → number_at 8 4 page ≡ s.version
    → number_at 12 4 page ≡ s.length → number_at 16 4 page ≡ s.clean → number_at 20 8 page ≡ s.super_blob
    → number_at 28 4 page ≡ s.cluster_size → number_at 32 4 page ≡ s.used_page_mask_start
    → number_at 36 4 page ≡ s.used_page_mask_len → number_at 40 4 page ≡ s.used_cluster_mask_start
    → number_at 44 4 page ≡ s.used_cluster_mask_len → number_at 48 4 page ≡ s.md_start → number_at 52 4 page ≡ s.md_len
    → field 56 16 page ≡ s.bstype → number_at 72 4 page ≡ s.used_blobid_mask_start
    → number_at 76 4 page ≡ s.used_blobid_mask_len → number_at 80 8 page ≡ s.size → number_at 88 4 page ≡ s.io_unit_size
    → number_at 92 4 page ≡ s.md_page_size → field 96 3996 page ≡ s.rest → number_at 4092 4 page ≡ s.crc
    → super_of page s.device_pages ≡ s
unfolding super_of
same s page e0 e1 e2 e3 e4 e5 e6 e7 e8 e9 e10 e11 e12 e13 e14 e15 e16 e17 e18 e19 =
    rw (e0, e1, e2, e3, e4, e5, e6, e7, e8, e9, e10, e11, e12, e13, e14, e15, e16, e17, e18, e19) refl

-- what is written is read as the same value, with the sum
pub super_of-written : (s : Super) → FitsSuper s → crc32c_of (super_front s) < 2 ^ 32
    → super_of (super_bytes s) s.device_pages ≡ record s { crc = crc32c_of (super_front s) }
unfolding super_of super_bytes super_front
super_of-written s f lt =
    let page = super_bytes s in
    let sum = number_bytes 4 (crc32c_of (super_front s)) in
    let signature = next_field 0 8 page s.signature _ (simp append_assoc) f.signature-row in
    let version = next_number 8 4 s.version page _ signature.1 f.version-row in
    let length = next_number 12 4 s.length page _ version.1 f.length-row in
    let clean = next_number 16 4 s.clean page _ length.1 f.clean-row in
    let super_blob = next_number 20 8 s.super_blob page _ clean.1 f.super_blob-row in
    let cluster_size = next_number 28 4 s.cluster_size page _ super_blob.1 f.cluster_size-row in
    let page_mask_start = next_number 32 4 s.used_page_mask_start page _ cluster_size.1 f.used_page_mask_start-row in
    let page_mask_len = next_number 36 4 s.used_page_mask_len page _ page_mask_start.1 f.used_page_mask_len-row in
    let cluster_mask_start =
    next_number 40 4 s.used_cluster_mask_start page _ page_mask_len.1 f.used_cluster_mask_start-row in
    let cluster_mask_len =
    next_number 44 4 s.used_cluster_mask_len page _ cluster_mask_start.1 f.used_cluster_mask_len-row in
    let md_start = next_number 48 4 s.md_start page _ cluster_mask_len.1 f.md_start-row in
    let md_len = next_number 52 4 s.md_len page _ md_start.1 f.md_len-row in
    let bstype = next_field 56 16 page s.bstype _ md_len.1 f.bstype-row in
    let blob_mask_start = next_number 72 4 s.used_blobid_mask_start page _ bstype.1 f.used_blobid_mask_start-row in
    let blob_mask_len = next_number 76 4 s.used_blobid_mask_len page _ blob_mask_start.1 f.used_blobid_mask_len-row in
    let size = next_number 80 8 s.size page _ blob_mask_len.1 f.size-row in
    let io_unit_size = next_number 88 4 s.io_unit_size page _ size.1 f.io_unit_size-row in
    let md_page_size = next_number 92 4 s.md_page_size page _ io_unit_size.1 f.md_page_size-row in
    let rest = next_field 96 3996 page s.rest sum md_page_size.1 f.rest-row in
    let crc = next_number 4092 4 (crc32c_of (super_front s)) page [] (rest.1 ∙ sym (append-nil sum)) lt in
    let summed : Super = record s { crc = crc32c_of (super_front s) } in
    same summed page signature.0 version.0 length.0 clean.0 super_blob.0 cluster_size.0 page_mask_start.0
    page_mask_len.0 cluster_mask_start.0 cluster_mask_len.0 md_start.0 md_len.0 bstype.0 blob_mask_start.0
    blob_mask_len.0 size.0 io_unit_size.0 md_page_size.0 rest.0 crc.0

-- the sum has no part in the tests
pub fault_of-sum : (s : Super) (sum : ℕ) → fault_of true (record s { crc = sum }) ≡ fault_of true s
unfolding fault_of tests signature_fault version_fault page_size_fault cluster_size_fault size_fault past_fault
    mask_fault overlap_fault cluster_pages_of clusters_of placed
fault_of-sum s sum = refl
