-- The text of a page that was read.
use Rattle.std.specs.Prelude.{ℕ, if◌then◌else◌, List, ◌++◌, take, codes}
use Rattle.std.specs.Int.{from_le_bytes, to_be_bytes, w32, w64}
use Rattle.std.specs.Str.{bytes_eq}
use Rattle.crc32c.specs.Crc.{crc32c_of}
use Rattle.volume_model.specs.Volumes.{fill_page}
use Rattle.blob_report.specs.Pieces.{hex_text}

-- the little-endian word of a page's first eight bytes
abbrev pub first_word : List ℕ → ℕ
first_word page = from_le_bytes w64 (take 8 page)

-- The word that the page is filled with, if it is one word repeated; else the checksum of its bytes. Both in
-- hexadecimal, the highest digit first.
abbrev pub page_text : List ℕ → List ℕ
page_text page = if bytes_eq page (fill_page (first_word page))
    then codes "page fill " ++ hex_text (to_be_bytes w64 (first_word page))
    else codes "page crc " ++ hex_text (to_be_bytes w32 (crc32c_of page))
