-- What an unload may leave is what closing a store may, and so is what marking it first may.
use Rattle.std.proofs.Common.{◌≡◌, ◌≢◌, ◌∙◌, ℕ, List, refl, sym, ap, subst, inl, inr, arith}
use Rattle.clean_stop.specs.Masks.{IsMaskPage, StandsApart}
use Rattle.clean_stop.specs.Stopping.{with_clean, IsSuperPage, IsUnloaded, IsUnloading}
use Rattle.page_disk.specs.Disk.{Image, Images, IsSameElsewhere, Only, with_page}
use Rattle.page_disk.specs.Moments.{IsReplaced}
use Rattle.page_disk.proofs.Images.{with_page-elsewhere, with_page-here}
use Rattle.page_runs.specs.Writing.{SameBut}
use Rattle.super_block.specs.Numbers.{clusters_of}
use Rattle.super_block.specs.declared.masks.Masks.{Masks}
use Rattle.super_block.specs.declared.page.Super.{Super}
use Rattle.blob_tool.specs.Closing.{as_before, clean, Closing, in_use, IsCleanWith, IsOfClosing, kept}

module _ (s : Super) (masks : Masks) where
  -- what was read, unloaded
  pub left_clean : (old other : Image) → IsUnloaded s masks old other → IsCleanWith s masks other
  left_clean old other x = record { super = x.super; whole = x.whole }

  -- what was read, marked and then unloaded
  pub marked_left : (old other : Image) → IsUnloaded (with_clean 0 s) masks old other → IsCleanWith s masks other
  unfolding clusters_of
  marked_left old other x = record {
    super = x.super;
    whole = record { pages = x.whole.pages; clusters = x.whole.clusters; blobs = x.whole.blobs };
  }

-- what was read, marked and then unloaded, but for the super block and the masks
pub marked_stays : (s : Super) (masks : Masks) (old mid other : Image) → IsSameElsewhere 0 old mid
    → IsUnloaded (with_clean 0 s) masks mid other → SameBut (IsOfClosing s) old other
unfolding clusters_of
marked_stays s masks old mid other marked x page out =
    x.others page out ∙ marked page (λ is. out (inl is))

module _ (s : Super) (masks : Masks) (apart : (page : ℕ) → IsMaskPage s page → StandsApart s page) where
  -- the super block's page is in no mask
  super_stays : (image other : Image) → SameBut (IsMaskPage s) image other → other 0 ≡ image 0
  super_stays image other same = same 0 (λ mask. let lt = (apart 0 mask).behind_super in omega (arith, lt))

  also_super : (image other : Image) → SameBut (IsMaskPage s) image other
      → SameBut (IsOfClosing s) image other
  also_super image other same page out = same page (λ mask. out (inr mask))

  -- an unload of a store that isn't clean
  pub unloading_closes : (images : Images) (now : Image) → images now → s.clean ≢ 1 → (other : Image)
      → IsUnloading s masks images now other → Closing s masks images other
  unloading_closes images now held dirty other (inl (image, was, same)) = record {
    image = image;
    was = was;
    others = also_super image other same;
    becomes = kept dirty (super_stays image other same);
  }
  unloading_closes images now held dirty other (inr x) = record {
    image = now;
    was = held;
    others = x.others;
    becomes = clean (left_clean s masks now other x);
  }

  -- an image from before
  pub before_closes : (images : Images) (other : Image) → images other → Closing s masks images other
  before_closes images other held = record {
    image = other;
    was = held;
    others = λ page out. refl;
    becomes = as_before (λ page. refl);
  }

  -- the mark of a store that is closed
  pub marking_closes : (images : Images) (now : Image) (page : List ℕ) → images now → IsSuperPage (with_clean 0 s) page
      → (other : Image) → IsReplaced images now 0 page other → Closing s masks images other
  marking_closes images now page held read other (inl was) = before_closes images other was
  marking_closes images now page held read other (inr is) = record {
    image = now;
    was = held;
    others = λ q out.
        ap (λ (i : Image). i q) is ∙ with_page-elsewhere now 0 page q (λ e. out (inl e));
    becomes = in_use
        (subst (IsSuperPage (with_clean 0 s)) (sym (ap (λ (i : Image). i 0) is ∙ with_page-here now 0 page)) read);
  }

  -- and its unload, once the mark is the one image
  pub marked_unloading_closes : (images marked : Images) (now mid : Image) (page : List ℕ) → images now
      → IsSuperPage (with_clean 0 s) page → mid ≡ with_page now 0 page → Only mid marked → (other : Image)
      → IsUnloading (with_clean 0 s) masks marked mid other → Closing s masks images other
  unfolding clusters_of
  marked_unloading_closes images marked now mid page held read is only other (inl (before, was, same)) =
      let one : before ≡ with_page now 0 page = (only before).0 was ∙ is in
      let super : other 0 ≡ page =
      super_stays before other same ∙ ap (λ (i : Image). i 0) one ∙ with_page-here now 0 page in
      record {
        image = now;
        was = held;
        others = λ q out.
            same q (λ mask. out (inr mask)) ∙ ap (λ (i : Image). i q) one
            ∙ with_page-elsewhere now 0 page q (λ e. out (inl e));
        becomes = in_use (subst (IsSuperPage (with_clean 0 s)) (sym super) read);
      }
  marked_unloading_closes images marked now mid page held read is only other (inr x) = record {
    image = now;
    was = held;
    others = λ q out.
        x.others q out ∙ ap (λ (i : Image). i q) is ∙ with_page-elsewhere now 0 page q (λ e. out (inl e));
    becomes = clean (marked_left s masks mid other x);
  }
