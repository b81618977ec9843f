-- What the end of a run leaves, or a device that is left alone.
use Rattle.std.proofs.Common.{ℕ, Option, None, Some, Bool, IsTrue, refl, subst, sym}
use Rattle.page_disk.specs.Disk.{Telling}
use Rattle.page_disk.specs.declared.disk.PageDisk.{Ghosts}
use Rattle.page_disk.proofs.Moments.{started}
use Rattle.super_block.specs.declared.masks.Masks.{Masks}
use Rattle.super_block.specs.declared.page.Super.{Super}
use Rattle.blob_tool.specs.Closing.{as_before, Closes, Closing, LeavesClosing}

module _ {D : Type 0} (d : Ghosts D) (s : Super) (masks : Masks) (old new : D)
    (law : IsTrue d.tells → Telling d.now d.images d.since d.clock) where
  -- a device that is left alone
  pub left_alone : LeavesClosing d s masks old old
  left_alone told =
      started d old (Closing s masks (d.images old))
      (λ c left. record {
        image = c;
        was = (law told).since_now old c left;
        others = λ page out. refl;
        becomes = as_before (λ page. refl);
      })

  -- whatever the end of a run is, the store is closed at most
  pub closes_at_most : (quick : Bool) (entries : ℕ) (stopped ended : Option ℕ)
      → Closes d s masks old new quick entries stopped ended
      → LeavesClosing d s masks old new
  closes_at_most quick entries (Some at) ended closes =
      subst (λ (disk : D). LeavesClosing d s masks old disk) (sym closes.1) left_alone
  closes_at_most quick entries None None closes = closes.closing
  closes_at_most quick entries None (Some at) closes = closes.1
