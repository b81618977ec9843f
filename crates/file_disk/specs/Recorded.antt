-- What the record of a file's calls says of its pages.
use Rattle.std.proofs.Common.{◌≡◌, ◌⊎◌, inl, inr, ⊎_elim, ◌≤◌, ◌+◌, ℕ, Bool, true, false, List, [], ◌∷◌}
use Rattle.std.proofs.Common.{refl, subst, arith}
use Rattle.std.specs.Prelude.{◌↔◌}
use Rattle.page_disk.specs.Disk.{Image, Images, Puts, Telling, Elapses, Written, Wrote, WroteOrNot}
use Rattle.page_disk.specs.declared.disk.WriteKind.{WriteKind}
use Rattle.page_disk.specs.declared.disk.WriteKind.TheVariants.{Whole, Plain}
use Rattle.file_disk.specs.FileCalls.{FileBytes, FileCall, DidWrite, DidSync, IsPageAt, WrittenAt, WrittenRun, pages_in}
use Rattle.file_disk.specs.FileCalls.{file_after, may_leave, might_leave_since, ticks, with_bytes, with_run}
use Rattle.file_disk.specs.PageBytes.{page_put}

puts_given : (kind : WriteKind) (page : List ℕ) → Puts kind page page
puts_given Whole page = refl
puts_given Plain page = inl refl

-- an image may be left again where bytes were written
pub write_lost : (old : Images) (offset : ℕ) (kind : WriteKind) (bytes : List ℕ) (image : Image) → old image
    → WrittenAt old offset kind bytes image
write_lost old offset kind bytes image left = λ page at. record {
  before = image;
  was = left;
  page = bytes;
  kept_or_put = inl refl;
}

-- and where a run of pages was
pub run_lost : (old : Images) (offset : ℕ) (kind : WriteKind) (pages : List (List ℕ)) (image : Image) → old image
    → WrittenRun old offset kind pages image
run_lost old offset kind [] image left = left
run_lost old offset kind (page ∷ pages) image left =
    run_lost (WrittenAt old offset kind page) (offset + 4096) kind pages image
    (write_lost old offset kind page image left)

-- what a file reads with a run of pages is one of the images that are left then
run_reads : (old : Images) (file : FileBytes) (offset : ℕ) (kind : WriteKind) (pages : List (List ℕ))
    → old (pages_in file) → WrittenRun old offset kind pages (pages_in (with_run file offset pages))
run_reads old file offset kind [] left = left
run_reads old file offset kind (page ∷ pages) left =
    run_reads (WrittenAt old offset kind page) (with_bytes file offset page) (offset + 4096) kind pages
    (λ place at. record {
      before = pages_in file;
      was = left;
      page = page;
      kept_or_put = inr (page_put file place offset page at, puts_given kind page);
    })

-- of the calls of a file that held this at first
module _ (opened : FileBytes) where
  -- what its pages read is one of the images
  pub reads_left : (calls : List FileCall) → may_leave opened calls (pages_in (file_after opened calls))
  reads_left [] = refl
  reads_left (DidWrite offset pages kind true ∷ earlier) =
      run_reads (may_leave opened earlier) (file_after opened earlier) offset kind pages (reads_left earlier)
  reads_left (DidWrite offset pages kind false ∷ earlier) =
      run_lost (may_leave opened earlier) offset kind pages (pages_in (file_after opened earlier)) (reads_left earlier)
  reads_left (DidSync true ∷ earlier) = refl
  reads_left (DidSync false ∷ earlier) = reads_left earlier

  -- with a call the clock stays or rises by one
  ticks_on : (call : FileCall) (earlier : List FileCall)
      → (ticks (call ∷ earlier) ≡ ticks earlier) ⊎ (ticks (call ∷ earlier) ≡ ticks earlier + 1)
  ticks_on (DidWrite offset pages kind true) earlier = inr refl
  ticks_on (DidWrite offset pages kind false) earlier = inl refl
  ticks_on (DidSync true) earlier = inr refl
  ticks_on (DidSync false) earlier = inl refl

  ticks_later : (call : FileCall) (earlier : List FileCall) → ticks earlier ≤ ticks (call ∷ earlier)
  ticks_later call earlier = ⊎_elim (λ same. omega arith) (λ more. omega arith) (ticks_on call earlier)

  -- no moment is past the clock
  since_past : (calls : List FileCall) (t : ℕ) (image : Image) → might_leave_since opened calls t image
      → t ≤ ticks calls
  since_past [] t image left = left.0
  since_past (call ∷ earlier) t image left =
      ⊎_elim
      (λ was. let le = since_past earlier t image was in let later = ticks_later call earlier in omega arith)
      (λ now. now.0) left

  differs : {n : ℕ} → n + 1 ≡ n → ⊥
  differs {n} is = omega arith

  -- a call that leaves the clock takes no image away
  stays_within : (call : FileCall) (earlier : List FileCall) (image : Image)
      → ticks (call ∷ earlier) ≡ ticks earlier → may_leave opened earlier image
      → may_leave opened (call ∷ earlier) image
  stays_within (DidWrite offset pages kind true) earlier image same left = absurd (differs same)
  stays_within (DidWrite offset pages kind false) earlier image same left =
      run_lost (may_leave opened earlier) offset kind pages image left
  stays_within (DidSync true) earlier image same left = absurd (differs same)
  stays_within (DidSync false) earlier image same left = left

  pub since_now : (calls : List FileCall) (image : Image) → might_leave_since opened calls (ticks calls) image
      → may_leave opened calls image
  since_now [] image left = left.1
  since_now (call ∷ earlier) image left =
      ⊎_elim
      (λ was. ⊎_elim
      (λ same. stays_within call earlier image same
      (since_now earlier image (subst (λ (n : ℕ). might_leave_since opened earlier n image) same was)))
      (λ more. absurd (let le = since_past earlier (ticks (call ∷ earlier)) image was in omega arith))
      (ticks_on call earlier))
      (λ now. now.1) left

  counts_now : (calls : List FileCall) (t : ℕ) (image : Image) → t ≤ ticks calls → may_leave opened calls image
      → might_leave_since opened calls t image
  counts_now [] t image le left = (le, left)
  counts_now (call ∷ earlier) t image le left = inr (le, left)

  -- with a call time goes on
  pub elapses : (call : FileCall) (earlier : List FileCall)
      → Elapses (ticks earlier) (ticks (call ∷ earlier)) (might_leave_since opened earlier)
      (might_leave_since opened (call ∷ earlier)) (may_leave opened (call ∷ earlier))
  elapses call earlier = record {
    later = ticks_later call earlier;
    each = λ t image le. (
      λ left. ⊎_elim (λ was. inl was) (λ now. inr now.1) left,
      λ left. ⊎_elim (λ was. inl was) (λ now. inr (let later = ticks_later call earlier in omega arith, now)) left,
    );
  }

  -- with none it stands
  pub stands : (calls : List FileCall)
      → Elapses (ticks calls) (ticks calls) (might_leave_since opened calls) (might_leave_since opened calls)
      (may_leave opened calls)
  stands calls = record {
    later = omega arith;
    each = λ t image le. (λ left. inl left, λ left. ⊎_elim (λ was. was) (λ now. counts_now calls t image le now) left);
  }

  -- what the write of a page puts there and may leave
  module _ (place offset : ℕ) (bytes : List ℕ) (kind : WriteKind) (is_page : IsPageAt place offset bytes) where
    same_place : (page : ℕ) → IsPageAt page offset bytes → place ≡ page
    same_place page at = omega (arith, at.place, is_page.place)

    leaves : (took : Bool) (earlier : List FileCall) (image : Image)
        → may_leave opened (DidWrite offset (bytes ∷ []) kind took ∷ earlier) image
        ↔ Written (may_leave opened earlier) place kind bytes image
    leaves took earlier image = (
      λ left. left place is_page,
      λ was page at. subst (λ q. Written (may_leave opened earlier) q kind bytes image) (same_place page at) was,
    )

    pub wrote : (earlier : List FileCall)
        → Wrote (pages_in (file_after opened earlier))
        (pages_in (file_after opened (DidWrite offset (bytes ∷ []) kind true ∷ earlier)))
        (may_leave opened earlier) (may_leave opened (DidWrite offset (bytes ∷ []) kind true ∷ earlier)) place kind bytes
    wrote earlier = record {
      now = page_put (file_after opened earlier) place offset bytes is_page;
      images = leaves true earlier;
    }

    pub wrote_or_not : (earlier : List FileCall)
        → WroteOrNot (pages_in (file_after opened earlier))
        (pages_in (file_after opened (DidWrite offset (bytes ∷ []) kind false ∷ earlier)))
        (may_leave opened earlier) (may_leave opened (DidWrite offset (bytes ∷ []) kind false ∷ earlier)) place kind bytes
    wrote_or_not earlier = record {
      elsewhere = λ p other. refl;
      images = λ image left. (leaves false earlier image).0 left;
    }

-- what a disk over such a file tells
pub is_telling : {D : Type 0} (opened : D → FileBytes) (calls : D → List FileCall)
    → Telling (λ (f : D). pages_in (file_after (opened f) (calls f))) (λ (f : D). may_leave (opened f) (calls f))
    (λ (f : D). might_leave_since (opened f) (calls f)) (λ (f : D). ticks (calls f))
is_telling opened calls = record {
  reads_an_image = λ f. reads_left (opened f) (calls f);
  since_now = λ f image. since_now (opened f) (calls f) image;
  counts_now = λ f t image le left. counts_now (opened f) (calls f) t image le left;
}
