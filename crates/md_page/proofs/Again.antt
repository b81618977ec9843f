-- What is written is read again.
use Rattle.std.proofs.Common.{◌≡◌, ℕ, ◌^◌, ◌<◌, true, List, ◌++◌, replicate, refl, sym, append_assoc, arith}
use Rattle.std.proofs.Common.{length-append}
use Rattle.crc32c.specs.Crc.{crc32c_of, is_sound}
use Rattle.crc32c.proofs.Sealed.{is_sound-sealed}
use Rattle.page_fields.specs.Fields.{number_bytes}
use Rattle.page_fields.proofs.Laws.{next_field, next_number, len-number_bytes}
use Rattle.md_page.specs.declared.MdPage.{MdPage}
use Rattle.md_page.specs.Page.{IsMdPage, FitsMdPage, page_front, page_bytes, id_of, sequence_of, body_of, next_of}

-- the bytes of a page say its fields
pub is_read : (m : MdPage) → FitsMdPage m → IsMdPage (page_bytes m) m
unfolding page_bytes id_of sequence_of body_of next_of
is_read m f =
    let page = page_bytes m in
    let zeros : List ℕ = replicate 4 0 in
    let sum = number_bytes 4 (crc32c_of (page_front m)) in
    let behind_id = number_bytes 4 m.sequence ++ (zeros ++ (m.body ++ (number_bytes 4 m.next ++ sum))) in
    let id = next_number 0 8 m.id page behind_id (simp append_assoc) f.id in
    let sequence = next_number 8 4 m.sequence page _ id.1 f.sequence in
    let reserved = next_field 12 4 page zeros _ sequence.1 refl in
    let body = next_field 16 4072 page m.body _ reserved.1 f.body in
    let next = next_number 4088 4 m.next page _ body.1 f.next in
    record { id = sym id.0; sequence = sym sequence.0; body = sym body.0; next = sym next.0 }

-- the bytes of a page are sound
pub is_read_sound : (m : MdPage) → FitsMdPage m → crc32c_of (page_front m) < 2 ^ 32 → is_sound (page_bytes m) ≡ true
unfolding page_bytes number_bytes
is_read_sound m f fits =
    is_sound-sealed (page_front m) (simp (length-append, len-number_bytes) (omega (arith, f.body))) fits
