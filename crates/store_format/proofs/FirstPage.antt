-- The metadata pages of a new store: zeros, and then the page of the super blob over the first.
use Rattle.std.proofs.Common.{◌≡◌, ℕ, zero, suc, ◌+◌, ◌<◌, ◌≤◌, List, Result, Some, refl, ap, ◌∙◌, ⊎_elim, arith}
use Rattle.std.proofs.Common.{Option, Ok, Err, sym, subst, IsTrue, OnOk, OnErr}
use Rattle.page_disk.specs.Disk.{Image, Images, Elapses, HasCause, Puts, Telling, with_page, Written, Wrote, WroteOrNot}
use Rattle.page_disk.specs.declared.disk.DiskFault.{DiskFault}
use Rattle.page_disk.specs.declared.disk.PageDisk.{Ghosts}
use Rattle.page_disk.specs.declared.disk.WriteKind.{WriteKind}
use Rattle.page_disk.proofs.Images.{with_page-here, with_page-elsewhere}
use Rattle.page_disk.proofs.Moments.{goes_on, not_written, started, written}
use Rattle.super_block.specs.declared.layout.Layout.{Layout}
use Rattle.page_runs.specs.Writing.{IsAnyBut, IsBetween, WritesOnly}
use Rattle.page_runs.proofs.Runs.{written_after}
use Rattle.store_format.specs.NewStore.{zeroed_page, HasMetadata}

-- one page was written, whether its write succeeded or not, and no other
module _ {D : Type 0} (d : Ghosts D) (law : IsTrue d.tells → Telling d.now d.images d.since d.clock) (place : ℕ)
    (kind : WriteKind) (given : List ℕ) {T : Type 0} (r : Result T DiskFault) (old new : D) where
  -- a page that isn't this one
  abbrev IsPlace : ℕ → Type 0
  IsPlace page = page ≡ place

  left : (image : Image) → Written (d.images old) place kind given image → IsAnyBut IsPlace (d.images old) image
  left image w = (
    w.before,
    w.was,
    ⊎_elim
        (λ (kept : image ≡ w.before). λ p out. ap (λ (i : Image). i p) kept)
        (λ (put : (image ≡ with_page w.before place w.page)
        × Puts kind given w.page). λ p out. ap (λ (i : Image). i p) put.0
        ∙ with_page-elsewhere w.before place w.page p out)
        w.kept_or_put,
  )

  pub one_page_written : (IsTrue d.tells
      → OnOk r (Wrote (d.now old) (d.now new) (d.images old) (d.images new) place kind given))
      → (IsTrue d.tells → OnErr r (WroteOrNot (d.now old) (d.now new) (d.images old) (d.images new) place kind given))
      → (IsTrue d.tells → Elapses (d.clock old) (d.clock new) (d.since old) (d.since new) (d.images new))
      → d.clock old ≤ d.clock new → d.pages new ≡ d.pages old → HasCause (d.write_faults old) (d.write_faults new) r
      → d.read_faults new ≡ d.read_faults old → d.reads new ≡ d.reads old → WritesOnly d IsPlace old new
  one_page_written ok err time later pages cause read_faults reads = record {
    now =
        λ told. not_written r (d.now old) (d.now new) (d.images old) (d.images new) place kind given (ok told)
        (err told);
    images = images_then;
    any_moment =
        λ told. goes_on d old old new (IsAnyBut IsPlace (d.images old))
        (started d old (IsAnyBut IsPlace (d.images old))
        (λ image now. (image, (law told).since_now old image now, λ p out. refl))) (time told) (images_then told);
    later = later;
    pages = pages;
    write_faults = cause.later;
    read_faults = read_faults;
    reads = reads;
  }
    where
      images_then : IsTrue d.tells → (image : Image) → d.images new image → IsAnyBut IsPlace (d.images old) image
      images_then told image now =
          left image
          (written r (d.now old) (d.now new) (d.images old) (d.images new) place kind given (ok told)
          (err told) image now)

-- the first page of a region was written behind others of it
pub first_written : {D : Type 0} (d : Ghosts D) (start count : ℕ) → 0 < count → (first mid last : D)
    → WritesOnly d (IsBetween start (start + count)) first mid → WritesOnly d (λ page. page ≡ start) mid last
    → WritesOnly d (IsBetween start (start + count)) first last
first_written d start count some first mid last was then =
    written_after d (IsBetween start (start + count)) first mid last was (λ page. page ≡ start)
    (λ page is. (omega (arith, is), omega (arith, is, some))) then

-- over zeros the super blob's page is the first
pub first_page : (plan : Layout) (page : List ℕ) (old new : Image)
    → ((k : ℕ) → k < plan.md_pages → old (plan.md_start + k) ≡ zeroed_page) → new ≡ with_page old plan.md_start page
    → HasMetadata plan (Some page) new
first_page plan page old new zeros is zero lt =
    let at : plan.md_start ≡ plan.md_start + 0 = omega arith in
    ap (λ (i : Image). i (plan.md_start + 0)) is
    ∙ subst (λ p. with_page old plan.md_start page p ≡ page) at (with_page-here old plan.md_start page)
first_page plan page old new zeros is (suc k) lt =
    ap (λ (i : Image). i (plan.md_start + suc k)) is
    ∙ with_page-elsewhere old plan.md_start page (plan.md_start + suc k) (λ e. absurd (omega (arith, e)))
    ∙ zeros (suc k) lt

-- and so it is where the write was done
pub first_page_told : (plan : Layout) (blob : Option (List ℕ)) (page : List ℕ) → blob ≡ Some page → (place : ℕ)
    → place ≡ plan.md_start → (old new : Image) (olds news : Images) (kind : WriteKind) {T : Type 0}
    (r : Result T DiskFault)
    → ((k : ℕ) → k < plan.md_pages → old (plan.md_start + k) ≡ zeroed_page)
    → OnOk r (Wrote old new olds news place kind page) → OnOk r (HasMetadata plan blob new)
first_page_told plan blob page is place at old new olds news kind (Ok done) zeros wrote =
    subst (λ (b : Option (List ℕ)). HasMetadata plan b new) (sym is)
    (first_page plan page old new zeros (subst (λ p. new ≡ with_page old p page) at wrote.now))
first_page_told plan blob page is place at old new olds news kind (Err fault) zeros wrote = tt
