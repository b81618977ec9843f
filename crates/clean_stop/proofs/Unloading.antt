-- A store is unloaded: the masks are written, and then the super block.
use Rattle.std.proofs.Common.{◌≡◌, inl, inr, ⊎_elim, ap, subst, sym, ◌∙◌, arith, IsTrue}
use Rattle.clean_stop.specs.Masks.{HasMasks, IsMaskPage, MasksFit}
use Rattle.clean_stop.specs.Stopping.{with_clean, IsSuperPage, IsUnloaded, IsUnloading}
use Rattle.clean_stop.proofs.Places.{MasksPlaced}
use Rattle.clean_stop.proofs.Written.{mask_stays, resized}
use Rattle.page_disk.specs.Disk.{Image, Telling, with_page}
use Rattle.page_disk.specs.Moments.{CallsLeaveOnly, IsReplaced}
use Rattle.page_disk.specs.declared.disk.PageDisk.{Ghosts}
use Rattle.page_disk.proofs.Images.{with_page-here, with_page-elsewhere}
use Rattle.page_disk.proofs.Moments.{joined}
use Rattle.page_runs.specs.Writing.{SameBut, WritesOnly}
use Rattle.super_block.specs.Page.{super_bytes}
use Rattle.super_block.specs.declared.masks.Masks.{Masks}
use Rattle.super_block.specs.declared.page.Super.{Super}

module _ (s : Super) (masks : Masks) (fit : MasksFit s masks) (placed : MasksPlaced s) (old mid : Image)
    (same : SameBut (IsMaskPage s) old mid) (whole : HasMasks s masks mid)
    (read : IsSuperPage (with_clean 1 s) (super_bytes (with_clean 1 s))) where
  -- every page but the super block's is as it was when the masks were written
  elsewhere : (new : Image) → new ≡ with_page mid 0 (super_bytes (with_clean 1 s)) → SameBut (λ page. page ≡ 0) mid new
  elsewhere new is page other =
      ap (λ (i : Image). i page) is ∙ with_page-elsewhere mid 0 (super_bytes (with_clean 1 s)) page other

  -- over whole masks the super block makes an unloaded store
  pub is_unloaded : (new : Image) → new ≡ with_page mid 0 (super_bytes (with_clean 1 s)) → IsUnloaded s masks old new
  is_unloaded new is =
      let stays = elsewhere new is in
      record {
        super =
            subst (IsSuperPage (with_clean 1 s))
            (sym (ap (λ (i : Image). i 0) is ∙ with_page-here mid 0 (super_bytes (with_clean 1 s)))) read;
        whole = record {
          pages =
              mask_stays s.used_page_mask_start 0 masks.pages _ mid new stays
              (λ page a b. let lt = (placed.apart page (inl (resized _ page fit.pages a))).behind_super in omega
              (arith, lt, b))
              whole.pages;
          clusters =
              mask_stays s.used_cluster_mask_start 1 masks.clusters _ mid new stays
              (λ page a b.
              let lt = (placed.apart page (inr (inl (resized _ page fit.clusters a)))).behind_super in omega
              (arith, lt, b))
              whole.clusters;
          blobs =
              mask_stays s.used_blobid_mask_start 2 masks.blobs _ mid new stays
              (λ page a b.
              let lt = (placed.apart page (inr (inr (resized _ page fit.blobs a)))).behind_super in omega
              (arith, lt, b))
              whole.blobs;
        };
        others = λ page out. stays page (λ e. out (inl e)) ∙ same page (λ at. out (inr at));
      }

-- what a crash leaves while the masks and then the super block are written
pub unloading : {D : Type 0} (d : Ghosts D) → (IsTrue d.tells → Telling d.now d.images d.since d.clock) → (s : Super)
    (masks : Masks) → MasksFit s masks → MasksPlaced s → (first mid last : D) → WritesOnly d (IsMaskPage s) first mid
    → (IsTrue d.tells → HasMasks s masks (d.now mid)) → IsSuperPage (with_clean 1 s) (super_bytes (with_clean 1 s))
    → CallsLeaveOnly d mid last (IsReplaced (d.images mid) (d.now mid) 0 (super_bytes (with_clean 1 s)))
    → CallsLeaveOnly d first last (IsUnloading s masks (d.images first) (d.now first))
unloading d law s masks fit placed first mid last only whole read replaced told =
    joined d first mid last _ _ _ (only.any_moment told) (replaced told) (λ image x. inl x)
    (λ image left. ⊎_elim (λ held. inl (only.images told image held))
    (λ is. inr (is_unloaded s masks fit placed (d.now first) (d.now mid) (only.now told) (whole told) read image is))
    left)
