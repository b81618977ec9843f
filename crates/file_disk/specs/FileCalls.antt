-- The calls on a file that write or sync, what they make of what it held, and what a power failure may leave of it.
use Rattle.std.specs.Prelude.{◌≡◌, ◌⊎◌, ◌+◌, ◌-◌, ◌*◌, ◌<◌, ◌≤◌, ◌==◌, if◌then◌else◌, ltb, ℕ, Bool, true, false, IsTrue}
use Rattle.std.specs.Prelude.{List, [], ◌∷◌, length, map, get_or, Result, Ok, Err}
use Rattle.std.specs.List.{range_with_len}
use Rattle.page_disk.specs.Disk.{Image, Images, Written}
use Rattle.page_disk.specs.declared.disk.WriteKind.{WriteKind}

-- the byte at each offset of a file
abbrev pub FileBytes : Type 0
FileBytes = ℕ → ℕ

-- so many bytes of it, from this offset on
unfoldable pub bytes_from : FileBytes → ℕ → ℕ → List ℕ
bytes_from file offset count = map file (range_with_len offset count)

-- page p is the 4096 bytes from byte 4096 p on
abbrev pub pages_in : FileBytes → Image
pages_in file page = bytes_from file (page * 4096) 4096

-- the file with these bytes from this offset on
unfoldable pub with_bytes : FileBytes → ℕ → List ℕ → FileBytes
with_bytes file offset bytes = λ at. if ltb at offset then file at else get_or bytes (at - offset) (file at)

-- a file of zeros
abbrev pub blank : FileBytes
blank at = 0

-- the file begins with these bytes
abbrev pub HasBytes : List ℕ → FileBytes → Type 0
HasBytes bytes file = (at : ℕ) → at < length bytes → get_or bytes at 0 ≡ file at

-- the file with a run of pages, one behind the other, from this offset on
abbrev pub with_run : FileBytes → ℕ → List (List ℕ) → FileBytes
with_run file offset [] = file
with_run file offset (page ∷ pages) = with_run (with_bytes file offset page) (offset + 4096) pages

-- A call and its answer: a write of a run of pages from this offset on, and whether it took all of them; a sync, and
-- whether it answered Ok.
pub data FileCall : Type 0 where
  DidWrite : (offset : ℕ) (pages : List (List ℕ)) (kind : WriteKind) (took : Bool) → FileCall
  DidSync : (ok : Bool) → FileCall

-- a read or a write that answers so moved so many pages, and no less
abbrev pub moved_pages : {E : Type 0} → ℕ → Result ℕ E → Bool
moved_pages pages (Ok count) = count == pages * 4096
moved_pages pages (Err error) = false

-- these bytes from this offset on are this page
pub record IsPageAt (page offset : ℕ) (bytes : List ℕ) : Type 0 where
  pub place : offset ≡ page * 4096
  pub long : length bytes ≡ 4096

-- each write took all of its bytes, and each sync answered Ok
abbrev pub NoneFailed : List FileCall → Type 0
NoneFailed [] = Unit {0}
NoneFailed (DidWrite offset pages kind took ∷ earlier) = IsTrue took × NoneFailed earlier
NoneFailed (DidSync ok ∷ earlier) = IsTrue ok × NoneFailed earlier

-- how many calls did not fail
abbrev pub ticks : List FileCall → ℕ
ticks [] = 0
ticks (DidWrite offset pages kind true ∷ earlier) = ticks earlier + 1
ticks (DidWrite offset pages kind false ∷ earlier) = ticks earlier
ticks (DidSync true ∷ earlier) = ticks earlier + 1
ticks (DidSync false ∷ earlier) = ticks earlier

-- what a power failure may leave where these bytes were written from this offset on: of a page the old one, or what a
-- write of this kind may put; of anything else all
abbrev pub WrittenAt : Images → ℕ → WriteKind → List ℕ → Images
WrittenAt old offset kind bytes image = (page : ℕ) → IsPageAt page offset bytes → Written old page kind bytes image

-- what it may leave where a run of pages was written: of each page what a write of that page alone may, whether one of
-- the others is left or not
abbrev pub WrittenRun : Images → ℕ → WriteKind → List (List ℕ) → Images
WrittenRun old offset kind [] = old
WrittenRun old offset kind (page ∷ pages) = WrittenRun (WrittenAt old offset kind page) (offset + 4096) kind pages

-- of a file that had these bytes, and nothing else that a power failure could leave, before these calls, newest first
module _ (opened : FileBytes) where
  -- what it holds: a write that failed is taken as not seen
  abbrev pub file_after : List FileCall → FileBytes
  file_after [] = opened
  file_after (DidWrite offset pages kind true ∷ earlier) = with_run (file_after earlier) offset pages
  file_after (DidWrite offset pages kind false ∷ earlier) = file_after earlier
  file_after (DidSync ok ∷ earlier) = file_after earlier

  -- What a power failure may leave of its pages: of each page that was written, whether that failed or not, what a
  -- write of its kind may leave; what it held at the last sync that answered Ok.
  abbrev pub may_leave : List FileCall → Images
  may_leave [] = λ image. image ≡ pages_in opened
  may_leave (DidWrite offset pages kind took ∷ earlier) = WrittenRun (may_leave earlier) offset kind pages
  may_leave (DidSync true ∷ earlier) = λ image. image ≡ pages_in (file_after earlier)
  may_leave (DidSync false ∷ earlier) = may_leave earlier

  -- what a power failure at some moment from that count of calls on might have left
  abbrev pub might_leave_since : List FileCall → ℕ → Images
  might_leave_since [] t image = (t ≤ 0) × (image ≡ pages_in opened)
  might_leave_since (call ∷ earlier) t image =
      might_leave_since earlier t image ⊎ ((t ≤ ticks (call ∷ earlier)) × may_leave (call ∷ earlier) image)
