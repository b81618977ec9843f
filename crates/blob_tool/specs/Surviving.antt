-- What a crash may leave of a device on which a script was run, at any moment since the store was loaded.
use Rattle.std.specs.Prelude.{◌≡◌, ℕ, Some, None}
use Rattle.std.specs.FinMap as map
use Rattle.page_disk.specs.Disk.{Image, Only}
use Rattle.page_disk.specs.Marks.{MarksKept}
use Rattle.page_disk.specs.declared.disk.PageDisk.{Ghosts}
use Rattle.super_block.specs.Page.{super_of}
use Rattle.super_block.specs.declared.masks.Masks.{Masks}
use Rattle.super_block.specs.declared.page.Super.{Super}
use Rattle.volume_model.specs.Logs.{stable}
use Rattle.volume_model.specs.Volumes.{Volumes}
use Rattle.blob_meta.specs.Resolving.{resolved}
use Rattle.store_model.specs.Recovers.{Recovers, RecoversAt, RecoversFrom}
use Rattle.store_model.specs.Shown.{fixed_of, shows}
use Rattle.running_store.specs.LoadedWhole.{AreMasks}
use Rattle.running_store.specs.StoreView.{base_of, StoreView}
use Rattle.running_store.specs.Surviving.{HoldsMetadata}
use Rattle.unclean_load.specs.Quick.{HasNoHeadBesideMask, IsQuick}
use Rattle.blob_tool.specs.Found.{IsSoundImage}

-- a store that began with this super block and these volumes, at the end of its run, and the device that is left
module _ {D : Type 0} (d : Ghosts D) (s : Super) (first : Volumes) (p : StoreView D) (back : D) where
  -- the image is sound, and comes back to a prefix of the log of at least so many entries, or to that with the change
  -- in progress
  abbrev pub RunComesBack : ℕ → Image → Type 0
  RunComesBack least image = IsSoundImage s.device_pages image × RecoversFrom s first p.log least image

  -- what every crash leaves of the run, at any moment and at its end
  pub record RunSurvives : Type 0 where
    -- Since each mark, and so at each moment since the entry was logged, power may fail.
    pub any_moment : MarksKept d back p.marks RunComesBack
    -- Where the store didn't stop each image comes back to the whole log.
    pub whole : p.stopped ≡ None → (image : Image) → d.images back image
        → IsSoundImage s.device_pages image × Recovers s first p.log image
    -- Where it stopped each image comes back to the entries before the failed turn, or to these with its command done.
    pub stopped : (at : ℕ) → p.stopped ≡ Some at → (image : Image) → d.images back image
        → IsSoundImage s.device_pages image × RecoversAt s first p.log at image

  -- The super block says that the store is clean; the masks on the device are those that its metadata claims; and no
  -- page outside of the blob-id mask is a head.
  pub record IsLeftClean : Type 0 where
    pub masks : Masks
    pub quick : IsQuick (super_of (d.now back 0) s.device_pages) masks (d.now back)
    pub claims : AreMasks s (base_of p.metas p.marked) (map.get p.chains) masks
    pub no_head : HasNoHeadBesideMask (super_of (d.now back 0) s.device_pages) (d.now back)

  -- The device has one image, which holds just the metadata that the store has of it in memory, marks and all; which
  -- shows the replay of the log, contents and all, with the attributes that survive; and which is clean: the next load
  -- needs its masks alone.
  pub record IsLasting : Type 0 where
    pub one_image : Only (d.now back) (d.images back)
    pub holds : HoldsMetadata s (base_of p.metas p.marked) (map.get p.chains) (d.now back)
    pub shown : (head : ℕ) → shows (fixed_of s) (d.now back) (resolved (base_of p.metas p.marked)) head
        ≡ stable (fixed_of s) first p.log head
    pub unloaded : IsLeftClean
