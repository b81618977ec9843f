-- What a write leaves of more images is more.
use Rattle.std.proofs.Common.{◌≡◌, ◌+◌, ◌*◌, ℕ, List, [], ◌∷◌, ◌++◌, length, subst, sym, ◌∙◌, ap}
use Rattle.page_disk.specs.Disk.{Image, Images}
use Rattle.page_disk.specs.declared.disk.WriteKind.{WriteKind}
use Rattle.file_disk.specs.FileCalls.{WrittenAt, WrittenRun}
use Rattle.file_disk.proofs.Runs.{WrittenRun-more}

-- of one page
pub at_more : (old more : Images) → ((image : Image) → old image → more image) → (offset : ℕ) (kind : WriteKind)
    (bytes : List ℕ) (image : Image) → WrittenAt old offset kind bytes image → WrittenAt more offset kind bytes image
at_more old more goes offset kind bytes image left = λ page at. let was = left page at in record {
  before = was.before;
  was = goes was.before was.was;
  page = was.page;
  kept_or_put = was.kept_or_put;
}

-- of a run of pages
pub run_more : (old more : Images) → ((image : Image) → old image → more image) → (offset : ℕ) (kind : WriteKind)
    (pages : List (List ℕ)) (image : Image) → WrittenRun old offset kind pages image
    → WrittenRun more offset kind pages image
run_more old more goes offset kind [] image left = goes image left
run_more old more goes offset kind (page ∷ pages) image left =
    run_more (WrittenAt old offset kind page) (WrittenAt more offset kind page)
    (at_more old more goes offset kind page) (offset + 4096) kind pages image left

-- of a run with one page more: that page is written onto what is left of the others
pub onto_run : (old : Images) (start offset : ℕ) (kind : WriteKind) (pages : List (List ℕ)) (page : List ℕ)
    → offset ≡ start + length pages * 4096 → (image : Image) → WrittenRun old start kind (pages ++ page ∷ []) image
    → WrittenAt (WrittenRun old start kind pages) offset kind page image
onto_run old start offset kind pages page is image left =
    subst (λ (images : Images). images image)
    (WrittenRun-more old start kind pages page ∙ ap (λ at. WrittenAt (WrittenRun old start kind pages) at kind page) (sym is))
    left
