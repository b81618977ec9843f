-- What stands in a page of a blob's metadata.
use Rattle.std.specs.Prelude.{◌≡◌, ℕ, List, ◌++◌, ◌<◌, ◌^◌, replicate, length}
use Rattle.crc32c.specs.Crc.{crc32c_of}
use Rattle.page_fields.specs.Fields.{field, number_at, number_bytes}
use Rattle.md_page.specs.declared.MdPage.{MdPage}

-- the blob's id
unfoldable pub id_of : List ℕ → ℕ
id_of page = number_at 0 8 page

-- the page's place in its chain
unfoldable pub sequence_of : List ℕ → ℕ
sequence_of page = number_at 8 4 page

-- the descriptors
unfoldable pub body_of : List ℕ → List ℕ
body_of page = field 16 4072 page

-- the place of the next page, or 0xFFFFFFFF
unfoldable pub next_of : List ℕ → ℕ
next_of page = number_at 4088 4 page

-- each field of the value is what the page holds in its place
pub record IsMdPage (page : List ℕ) (m : MdPage) : Type 0 where
  pub id : m.id ≡ id_of page
  pub sequence : m.sequence ≡ sequence_of page
  pub body : m.body ≡ body_of page
  pub next : m.next ≡ next_of page

-- the fields before the sum, one after the other, with four zeros for the reserved word
abbrev pub page_front : MdPage → List ℕ
page_front m = number_bytes 8 m.id ++ number_bytes 4 m.sequence ++ replicate 4 0 ++ m.body ++ number_bytes 4 m.next

-- the page that the fields are written as: the sum is the last field
unfoldable pub page_bytes : MdPage → List ℕ
page_bytes m = page_front m ++ number_bytes 4 (crc32c_of (page_front m))

-- the fields have the lengths of their rows
pub record FitsMdPage (m : MdPage) : Type 0 where
  pub id : m.id < 2 ^ 64
  pub sequence : m.sequence < 2 ^ 32
  pub body : length m.body ≡ 4072
  pub next : m.next < 2 ^ 32
