-- The copy of a volume, page by page.
use Rattle.std.proofs.Common.{◌≡◌, ℕ, ◌+◌, ◌<◌, ◌≤◌, List, length, sym, ap, subst, ◌∙◌, arith}
use Rattle.std.proofs.Common.{below_more, IsTrue, Result, OnOk, Ok, Err, false}
use Rattle.std.specs.Result.{is_err}
use Rattle.page_disk.specs.Disk.{Image, IsSameElsewhere, with_page}
use Rattle.page_disk.specs.declared.disk.PageDisk.{Ghosts}
use Rattle.page_disk.proofs.Images.{with_page-here, with_page-elsewhere}
use Rattle.md_chain.specs.Reading.{OnlyRead}
use Rattle.volume_model.specs.Volumes.{Page}
use Rattle.whole_copy.specs.Copied.{BeginsWith, HoldsSo, IsLeft}

-- so many of the first pages are these, and every other page is as it was
pub record HasCopied (pages : List Page) (count : ℕ) (old new : Image) : Type 0 where
  pub copied : (page : ℕ) → page < count → HoldsSo pages page (new page)
  pub untouched : (page : ℕ) → count ≤ page → new page ≡ old page

-- what is known while a volume is copied, after this many pages
pub record Copying {D E : Type 0} (d : Ghosts D) (e : Ghosts E) (pages : Image → List Page) (first image : D)
    (first_target target : E) (count : ℕ) : Type 0 where
  pub so_far : IsTrue d.tells → IsTrue e.tells
      → HasCopied (pages (d.now first)) count (e.now first_target) (e.now target)
  pub same : OnlyRead d first image
  pub reads : d.read_faults image ≡ d.read_faults first
  pub writes : e.write_faults target ≡ e.write_faults first_target
  pub room : e.pages target ≡ e.pages first_target
  pub read_faults : e.read_faults target ≡ e.read_faults first_target

module _ (pages : List Page) (count : ℕ) (first old new : Image) (was : HasCopied pages count first old) where
  -- one page more
  pub one_more : (page : Page) → HoldsSo pages count page → new ≡ with_page old count page
      → HasCopied pages (count + 1) first new
  one_more page holds is = record {
    copied =
        below_more (λ p. HoldsSo pages p (new p)) count
        (λ p lt. subst (HoldsSo pages p) (sym (ap (λ (i : Image). i p) is
        ∙ with_page-elsewhere old count page p (λ e. absurd (omega (arith, e, lt))))) (was.copied p lt))
        (subst (HoldsSo pages count) (sym (ap (λ (i : Image). i count) is ∙ with_page-here old count page)) holds);
    untouched = λ p le. ap (λ (i : Image). i p) is
        ∙ with_page-elsewhere old count page p (λ e. absurd (omega (arith, e, le)))
        ∙ was.untouched p (omega (arith, le));
  }

  -- all of them
  pub all_copied : count ≡ length pages → new ≡ old → BeginsWith pages first new
  all_copied all is = record {
    copied = λ p lt. subst (HoldsSo pages p) (sym (ap (λ (i : Image). i p) is)) (was.copied p (omega (arith, all, lt)));
    behind = λ p le. ap (λ (i : Image). i p) is ∙ was.untouched p (omega (arith, all, le));
  }

  -- those so far, where the next call fails, which leaves every other page as it is
  pub left_so : count < length pages → IsSameElsewhere count old new → IsLeft pages first new
  left_so low others = record {
    done = count;
    copied = λ p lt. subst (HoldsSo pages p) (sym (others p (λ e. absurd (omega (arith, e, lt))))) (was.copied p lt);
    untouched = λ p lt. others p (λ e. absurd (omega (arith, e, lt))) ∙ was.untouched p (omega (arith, lt));
    behind = λ p le. others p (λ e. absurd (omega (arith, e, le, low))) ∙ was.untouched p (omega (arith, le, low));
  }

-- what begins with all of the pages is one thing that a copy leaves
pub left_whole : (pages : List Page) (old new : Image) → BeginsWith pages old new → IsLeft pages old new
left_whole pages old new is = record {
  done = length pages;
  copied = is.copied;
  untouched = λ p lt. is.behind p (omega (arith, lt));
  behind = is.behind;
}

-- a device that was only read, and read again
pub read_on : {D : Type 0} (d : Ghosts D) (first mid last : D) → OnlyRead d first mid → OnlyRead d mid last
    → OnlyRead d first last
read_on d first mid last a b = record {
  now = λ told. b.now told ∙ a.now told;
  images = λ told c.
      (λ x. (a.images told c).0 ((b.images told c).0 x), λ x. (b.images told c).1 ((a.images told c).1 x));
  since = λ told t c.
      (λ x. (a.since told t c).0 ((b.since told t c).0 x), λ x. (b.since told t c).1 ((a.since told t c).1 x));
  clock = b.clock ∙ a.clock;
  pages = b.pages ∙ a.pages;
  read_faults = let x = a.read_faults in let y = b.read_faults in omega (arith, x, y);
  write_faults = b.write_faults ∙ a.write_faults;
}

-- what follows of a call that answered Ok
pub ok_then : {T X : Type 0} (r : Result T X) (P : Type 0) → is_err r ≡ false → OnOk r P → P
ok_then (Ok x) P is p = p
ok_then (Err e) P is p = absurd (cc is)
