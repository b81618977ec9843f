-- A run of pages with one page more.
use Rattle.std.proofs.Common.{◌≡◌, ◌+◌, ◌*◌, ℕ, List, [], ◌∷◌, ◌++◌, length, ◌∙◌, ap, arith}
use Rattle.page_disk.specs.Disk.{Images}
use Rattle.page_disk.specs.declared.disk.WriteKind.{WriteKind}
use Rattle.file_disk.specs.FileCalls.{FileBytes, WrittenAt, WrittenRun, with_bytes, with_run}

-- what the file holds then: the page is put behind the others
pub with_run-more : (file : FileBytes) (offset : ℕ) (pages : List (List ℕ)) (page : List ℕ)
    → with_run file offset (pages ++ page ∷ [])
    ≡ with_bytes (with_run file offset pages) (offset + length pages * 4096) page
with_run-more file offset [] page =
    let same : offset ≡ offset + 0 * 4096 = omega arith in ap (λ at. with_bytes file at page) same
with_run-more file offset (first ∷ pages) page =
    let same : offset + 4096 + length pages * 4096 ≡ offset + length (first ∷ pages) * 4096 = omega arith in
    with_run-more (with_bytes file offset first) (offset + 4096) pages page
    ∙ ap (λ at. with_bytes (with_run (with_bytes file offset first) (offset + 4096) pages) at page) same

-- what a power failure may leave then: the page is written onto what may be left of the others
pub WrittenRun-more : (old : Images) (offset : ℕ) (kind : WriteKind) (pages : List (List ℕ)) (page : List ℕ)
    → WrittenRun old offset kind (pages ++ page ∷ [])
    ≡ WrittenAt (WrittenRun old offset kind pages) (offset + length pages * 4096) kind page
WrittenRun-more old offset kind [] page =
    let same : offset ≡ offset + 0 * 4096 = omega arith in ap (λ at. WrittenAt old at kind page) same
WrittenRun-more old offset kind (first ∷ pages) page =
    let same : offset + 4096 + length pages * 4096 ≡ offset + length (first ∷ pages) * 4096 = omega arith in
    WrittenRun-more (WrittenAt old offset kind first) (offset + 4096) kind pages page
    ∙ ap (λ at. WrittenAt (WrittenRun (WrittenAt old offset kind first) (offset + 4096) kind pages) at kind page) same
