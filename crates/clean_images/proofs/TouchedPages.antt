-- Which pages of its images a touch of the device changes.
use Rattle.std.proofs.Common.{◌≡◌, ℕ, List, refl, sym, ap, ◌∙◌, subst, inl, inr, IsTrue}
use Rattle.page_disk.specs.Disk.{Image, Images, Telling, with_page}
use Rattle.page_disk.specs.Moments.{CallsLeave}
use Rattle.page_disk.specs.declared.disk.PageDisk.{Ghosts}
use Rattle.page_disk.proofs.Images.{with_page-elsewhere}
use Rattle.page_disk.proofs.Moments.{started}
use Rattle.store_model.specs.Agreeing.{IsSameButAt}
use Rattle.store_model.specs.Touches.{DoesTouch, left_by, no_new, puts, replaces, Touch, untouched}

-- no page is written
abbrev pub WritesNone : Touch → Type 0
WritesNone untouched = Unit {0}
WritesNone (no_new lasting) = Unit {0}
WritesNone _ = ⊥

-- this page alone is written
abbrev pub WritesTo : Touch → ℕ → Type 0
WritesTo (puts place content lasting) page = page ≡ place
WritesTo (replaces place content lasting) page = page ≡ place
WritesTo _ page = ⊥

-- An image is one from before, but for a page.
pub record Differs (old : Images) (page : ℕ) (c : Image) : Type 0 where
  pub before : Image
  pub was : old before
  pub but : IsSameButAt page before c

with_page_but : (image : Image) (place : ℕ) (content : List ℕ) (c : Image) → c ≡ with_page image place content
    → IsSameButAt place image c
with_page_but image place content c is q ne =
    ap (λ (i : Image). i q) is ∙ with_page-elsewhere image place content q ne

-- what reads and flushes leave was there before
pub none_new : (touch : Touch) → WritesNone touch → (old : Images) (now c : Image) → left_by touch old now c → old c
none_new untouched none old now c left = left
none_new (no_new lasting) none old now c left = left
none_new (puts place content lasting) none old now c left = absurd none
none_new (replaces place content lasting) none old now c left = absurd none

-- what a write leaves differs at its page alone
pub one_page : (touch : Touch) (page : ℕ) → WritesTo touch page → (old : Images) (now : Image) → old now → (c : Image)
    → left_by touch old now c → Differs old page c
one_page (puts place content lasting) page at old now held c w = subst (λ n. Differs old n c) (sym at)
    (record {
      before = w.before;
      was = w.was;
      but = elim w.kept_or_put [
        | inl e ↦ λ q ne. ap (λ (i : Image). i q) e
        | inr e ↦ with_page_but w.before place w.page c e.0
      ];
    })
one_page (replaces place content lasting) page at old now held c left = subst (λ n. Differs old n c) (sym at)
    (elim left [
      | inl was ↦ record { before = c; was = was; but = λ q ne. refl }
      | inr is ↦ record { before = now; was = held; but = with_page_but now place content c is }
    ])
one_page untouched page at old now held c left = absurd at
one_page (no_new lasting) page at old now held c left = absurd at

module _ {D : Type 0} (d : Ghosts D) (law : Telling d.now d.images d.since d.clock) (told : IsTrue d.tells)
    (from to : D) where
  abbrev pub Left : Touch → Images
  Left touch = left_by touch (d.images from) (d.now from)

  -- a device that was touched so leaves these images on the way
  pub leaves : (touch : Touch) → DoesTouch d from to touch → CallsLeave d from to (Left touch)
  leaves untouched same = subst (λ (disk : D). CallsLeave d from disk (d.images from)) (sym same)
      (started d from (d.images from) (λ c left. law.since_now from c left))
  leaves (puts page content lasting) does = does.moments told
  leaves (replaces page content lasting) does = does.moments told
  leaves (no_new lasting) does = does.moments told

  -- and each that is left after it is one of these
  pub left_then : (touch : Touch) → DoesTouch d from to touch → (c : Image) → d.images to c → Left touch c
  left_then touch does c held =
      let run = leaves touch does in run.each c (law.counts_now to (d.clock from) c run.later held)
