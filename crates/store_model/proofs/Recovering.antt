-- What an image recovers doesn't depend on who reads it.
use Rattle.std.proofs.Common.{◌≡◌, List, sym, subst}
use Rattle.std.proofs.Math.Path.{fun_ext}
use Rattle.page_disk.specs.Disk.{Image}
use Rattle.super_block.specs.declared.page.Super.{Super}
use Rattle.volume_model.specs.Volumes.{Volumes}
use Rattle.volume_model.specs.declared.reply.Entry.{Entry}
use Rattle.blob_meta.specs.Resolving.{resolved}
use Rattle.store_model.specs.Maps.{Metas, Chains}
use Rattle.store_model.specs.Regions.{region_of}
use Rattle.store_model.specs.Scans.{Says}
use Rattle.store_model.specs.Shown.{fixed_of, shows}
use Rattle.store_model.specs.Recovers.{AreSynced, Recovers}
use Rattle.store_model.proofs.One.{one_scan}

module _ (s : Super) (first : Volumes) (log : List Entry) where
  -- whatever metadata the image is found to say, it shows the log
  pub shown_by_all : (image : Image) (metas : Metas) (chains : Chains) → Recovers s first log image
      → Says (region_of s) metas chains image → AreSynced s first log (shows (fixed_of s) image (resolved metas))
  shown_by_all image metas chains x says =
      let same : metas ≡ x.metas =
      fun_ext (λ head. (one_scan _ (region_of s) metas x.metas chains x.chains says x.says head).0) in
      subst (λ (m : Metas). AreSynced s first log (shows (fixed_of s) image (resolved m))) (sym same) x.shown
