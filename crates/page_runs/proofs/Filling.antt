-- Pages are written one after the other.
use Rattle.std.proofs.Common.{◌≡◌, ◌≢◌, ℕ, ◌+◌, ◌<◌, ◌≤◌, List, ap, subst, ◌∙◌, ⊎_elim, arith}
use Rattle.std.proofs.Common.{below_more, IsTrue, Result, OnOk, OnErr}
use Rattle.page_disk.specs.Disk.{Image, Images, HasCause, Elapses, Wrote, WroteOrNot, Written, Puts, with_page}
use Rattle.page_disk.specs.declared.disk.DiskFault.{DiskFault}
use Rattle.page_disk.specs.declared.disk.WriteKind.{WriteKind}
use Rattle.page_disk.specs.declared.disk.PageDisk.{Ghosts}
use Rattle.page_disk.proofs.Moments.{goes_on, written, not_written}
use Rattle.page_disk.proofs.Images.{with_page-here, with_page-elsewhere}
use Rattle.page_runs.specs.Content.{page_at, HoldsContent}
use Rattle.page_runs.specs.Writing.{IsAnyBut, IsBetween, SameBut, WritesOnly}
use Rattle.page_runs.specs.declared.content.Content.{Content}

-- what is known while so many pages from a start on are written, after this many of them
pub record Filling {D : Type 0} (d : Ghosts D) (content : Content) (start count : ℕ) (first disk : D)
    (index : ℕ) : Type 0 where
  pub filled : IsTrue d.tells → HoldsContent content start index (d.now disk)
  pub only : WritesOnly d (IsBetween start (start + count)) first disk
  pub quiet : d.write_faults disk ≡ d.write_faults first

module _ (content : Content) (start count index : ℕ) (low : index < count) (place : ℕ)
    (at : place ≡ start + index) where
  -- a page is put at the next place
  pub one_more : (old new : Image) → new ≡ with_page old place (page_at content index)
      → HoldsContent content start index old → HoldsContent content start (index + 1) new
  one_more old new is filled =
      below_more (λ k. new (start + k) ≡ page_at content k) index
      (λ k lt. ap (λ (i : Image). i (start + k)) is
      ∙ with_page-elsewhere old place (page_at content index) (start + k) (λ e. absurd (omega (arith, e, lt, at)))
      ∙ filled k lt)
      (subst (λ (p : ℕ). new p ≡ page_at content index) at
      (ap (λ (i : Image). i place) is ∙ with_page-here old place (page_at content index)))

  -- a page outside isn't the one that is written
  elsewhere : (page : ℕ) → (IsBetween start (start + count) page → ⊥) → page ≢ place
  elsewhere page out is = out (omega (arith, is, at), omega (arith, is, at, low))

  -- the pages outside are as before the first of these writes
  pub still_others : (first old new : Image) → ((page : ℕ) → page ≢ place → new page ≡ old page)
      → SameBut (IsBetween start (start + count)) first old → SameBut (IsBetween start (start + count)) first new
  still_others first old new same others page out = same page (elsewhere page out) ∙ others page out

  -- and so are they in what a crash may leave of it
  pub still_any : (kind : WriteKind) (page : List ℕ) (firsts olds : Images)
      → ((image : Image) → olds image → IsAnyBut (IsBetween start (start + count)) firsts image)
      → (image : Image) → Written olds place kind page image
      → IsAnyBut (IsBetween start (start + count)) firsts image
  still_any kind page firsts olds any image w =
      let was = any w.before w.was in (
        was.0,
        was.1,
        ⊎_elim
            (λ (kept : image ≡ w.before). λ p out. ap (λ (i : Image). i p) kept ∙ was.2 p out)
            (λ (put : (image ≡ with_page w.before place w.page)
            × Puts kind page w.page). still_others was.0 w.before image
            (λ p other. ap (λ (i : Image). i p) put.0 ∙ with_page-elsewhere w.before place w.page p other) was.2)
            w.kept_or_put,
      )

-- one page more, whether its write succeeds or not
pub one_written : {D : Type 0} (d : Ghosts D) (content : Content) (start count index : ℕ) (low : index < count)
    (place : ℕ) (at : place ≡ start + index) (first old new : D)
    → WritesOnly d (IsBetween start (start + count)) first old
    → (kind : WriteKind) (given : List ℕ) {T : Type 0} (r : Result T DiskFault)
    → (IsTrue d.tells → OnOk r (Wrote (d.now old) (d.now new) (d.images old) (d.images new) place kind given))
    → (IsTrue d.tells → OnErr r (WroteOrNot (d.now old) (d.now new) (d.images old) (d.images new) place kind given))
    → (IsTrue d.tells → Elapses (d.clock old) (d.clock new) (d.since old) (d.since new) (d.images new))
    → d.clock old ≤ d.clock new → d.pages new ≡ d.pages old → HasCause (d.write_faults old) (d.write_faults new) r
    → d.read_faults new ≡ d.read_faults old → d.reads new ≡ d.reads old
    → WritesOnly d (IsBetween start (start + count)) first new
one_written d content start count index low place at first old new was kind given r ok err time later pages cause
    read_faults reads = record {
      now =
          λ told. still_others content start count index low place at (d.now first) (d.now old) (d.now new)
          (not_written r (d.now old) (d.now new) (d.images old) (d.images new) place kind given (ok told) (err told))
          (was.now told);
      images = images_then;
      any_moment =
          λ told. goes_on d first old new (IsAnyBut (IsBetween start (start + count)) (d.images first))
          (was.any_moment told) (time told) (images_then told);
      later = let a = was.later in omega (arith, a, later);
      pages = pages ∙ was.pages;
      write_faults = let a = was.write_faults in let b = cause.later in omega (arith, a, b);
      read_faults = read_faults ∙ was.read_faults;
      reads = reads ∙ was.reads;
    }
  where
    images_then : IsTrue d.tells → (image : Image) → d.images new image
        → IsAnyBut (IsBetween start (start + count)) (d.images first) image
    images_then told image left =
        still_any content start count index low place at kind given (d.images first) (d.images old)
        (was.images told) image
        (written r (d.now old) (d.now new) (d.images old) (d.images new) place kind given (ok told)
        (err told) image left)
