-- A store as a load finds it.
use Rattle.std.proofs.Common.{◌≡◌, ◌↔◌, ◌∙◌, false, true, IsTrue, ap, subst, sym}
use Rattle.std.specs.FinMap as map
use Rattle.page_disk.specs.Disk.{Image}
use Rattle.page_disk.specs.declared.disk.PageDisk as disk
use Rattle.super_block.specs.Page.{super_of}
use Rattle.super_block.specs.declared.masks.Masks.{Masks}
use Rattle.md_chain.specs.Reading.{OnlyRead}
use Rattle.store_model.specs.Maps.{Chains, Metas}
use Rattle.store_model.specs.Regions.{look_of, region_of}
use Rattle.store_model.specs.Scans.{Says}
use Rattle.running_store.specs.declared.loaded.Loaded.{Loaded}
use Rattle.running_store.specs.Recovered.{base_of, IsLoadedFrom}
use Rattle.running_store.specs.Surviving.{HasOneImage, HoldsMetadata}
use Rattle.unclean_load.specs.Accepted.{IsAccepted}
use Rattle.unclean_load.specs.Heads.{AreWhole, is_listed}
use Rattle.unclean_load.specs.Quick.{AreHeads, AreListed, HasNoHeadBesideMask, IsQuick, IsReadBy}
use Rattle.unclean_load.specs.declared.heads.Heads.{Heads}
use Rattle.unclean_load.specs.declared.heads.Heads.TheVariants.{ByScan, Listed}
use Rattle.blob_tool.specs.Found.{HasSoundImage, IsFound, IsSoundImage, ReadsAs}

module _ {D : Type 0} (d : disk.Ghosts D) (before : D) (loaded : Loaded D) (same : OnlyRead d before loaded.disk) where
  abbrev base : Metas
  base = base_of loaded.metas loaded.marked

  abbrev chains : Chains
  chains = map.get loaded.chains

  -- a device that was only read has one image still
  still_one : HasOneImage d before → HasOneImage d loaded.disk
  still_one one = (
    one.0,
    λ c. (
      λ held. (one.1 c).0 ((same.images one.0 c).0 held) ∙ sym (same.now one.0),
      λ is. (same.images one.0 c).1 ((one.1 c).1 (is ∙ same.now one.0)),
    ),
  )

  -- and that is sound
  still_sound : HasSoundImage d before → HasSoundImage d loaded.disk
  still_sound x =
      record {
        one = still_one x.one;
        sound = subst (λ n. IsSoundImage n (d.now loaded.disk)) (sym same.pages)
            (subst (IsSoundImage (d.pages before)) (sym (same.now x.one.0)) x.sound);
      }

  -- a store as a load found it
  pub found_by : (IsTrue d.tells → loaded.sup ≡ super_of (d.now before 0) (d.pages before))
      → (IsTrue d.tells → IsReadBy loaded.quick loaded.sup (d.now before) base chains)
      → (IsTrue d.tells → (loaded.quick ≡ true) ↔ ((masks : Masks) × IsQuick loaded.sup masks (d.now before)))
      → (IsTrue d.tells → IsAccepted (d.pages before) (d.now before))
      → (IsTrue d.tells → HasNoHeadBesideMask loaded.sup (d.now before)
      → Says (region_of loaded.sup) base chains (d.now before))
      → IsLoadedFrom base loaded → d.read_faults loaded.disk ≡ d.read_faults before → IsFound d before loaded
  found_by super read quick accepted says recovered no_fault = record {
    super = super;
    read = read;
    quick = quick;
    accepted = accepted;
    says = says;
    recovered = recovered;
    same = same;
    no_fault = no_fault;
    sound = still_sound;
  }

  -- by masks, where the load was a quick one
  by_masks : loaded.quick ≡ true → (heads : Heads) → AreHeads loaded.sup (d.now before) heads
      → loaded.quick ≡ is_listed heads
      → AreWhole (look_of (region_of loaded.sup) (d.now before)) (region_of loaded.sup) heads base chains
      → (masks : Masks) × IsQuick loaded.sup masks (d.now before)
      × AreListed (look_of (region_of loaded.sup) (d.now before)) (region_of loaded.sup) masks.blobs base chains
  by_masks quick ByScan x is whole = absurd (let bad : true ≡ false = sym quick ∙ is in cc bad)
  by_masks quick (Listed places) x is whole = (
    x.0,
    x.1,
    subst (λ p. AreListed (look_of (region_of loaded.sup) (d.now before)) (region_of loaded.sup) p base chains) x.2
        whole,
  )

  -- what the device is read as
  pub read_as : loaded.sup.device_pages ≡ d.pages loaded.disk
      → (IsTrue d.tells → loaded.sup ≡ super_of (d.now before 0) (d.pages before))
      → (IsTrue d.tells → HasNoHeadBesideMask loaded.sup (d.now before)
      → HoldsMetadata loaded.sup base chains (d.now loaded.disk))
      → (IsTrue d.tells → IsReadBy loaded.quick loaded.sup (d.now before) base chains)
      → ReadsAs d loaded.quick loaded.sup base chains loaded.disk
  read_as device_pages super holds read = record {
    device_pages = device_pages;
    super = λ t.
        super t ∙ ap (λ (i : Image). super_of (i 0) (d.pages before)) (sym (same.now t))
        ∙ ap (λ n. super_of (d.now loaded.disk 0) n) (sym same.pages);
    holds = λ t no_head. holds t (subst (HasNoHeadBesideMask loaded.sup) (same.now t) no_head);
    trusted = λ t quick.
        let x = read t in
        subst
        (λ (i : Image). (masks : Masks) × IsQuick loaded.sup masks i
        × AreListed (look_of (region_of loaded.sup) i) (region_of loaded.sup) masks.blobs base chains)
        (sym (same.now t)) (by_masks quick x.heads x.are x.quick_is x.whole);
  }
