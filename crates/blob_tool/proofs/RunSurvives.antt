-- What a crash may leave of a run: images that are accepted, and come back to what its log says.
use Rattle.std.proofs.Common.{◌≡◌, ℕ, ◌<◌, length, Bool, refl, sym, ap, subst, ◌∙◌, inl, inr, arith, IsTrue, get_or}
use Rattle.std.specs.FinMap as map
use Rattle.clean_images.specs.CleanImages.{CleanImages, IsMarkedOrOpened}
use Rattle.clean_stop.specs.Masks.{IsMaskPage, StandsApart}
use Rattle.page_disk.specs.Disk.{Image, Images, Telling}
use Rattle.page_disk.specs.Marks.{MarksKept}
use Rattle.page_disk.specs.Moments.{CallsLeave}
use Rattle.page_disk.proofs.Marks.{kept_by_run}
use Rattle.page_disk.proofs.Moments.{started}
use Rattle.page_disk.specs.declared.disk.PageDisk.{Ghosts}
use Rattle.super_block.specs.Faults.{IsFaultless}
use Rattle.super_block.specs.declared.page.Super.{Super}
use Rattle.super_block.specs.Numbers.{cluster_pages_of, clusters_of, fixed_clusters_of, placed}
use Rattle.super_block.specs.Page.{super_of}
use Rattle.volume_model.specs.Volumes.{Volumes}
use Rattle.store_model.specs.StateLaws.{HasFixedPagesOf}
use Rattle.store_model.specs.StoreState.{shown}
use Rattle.store_model.proofs.AtStart.{stands_whole}
use Rattle.store_model.proofs.Besides.{loaded_same, recovers_at_same, recovers_from_same, recovers_same}
use Rattle.running_store.specs.StoreView.{base_of, state_of, WithOpening}
use Rattle.running_store.specs.Surviving.{CanBeLoaded, StoreComesBack, StoreSurvives}
use Rattle.store_core.specs.StoreInvariant.{OpensAsRead, opening_script, StoreInvariant}
use Rattle.unclean_load.specs.Accepted.{AcceptedAreKept, CanBeScanned, InUseAreAccepted, IsAccepted}
use Rattle.unclean_load.specs.Accepted.{UnloadedAreAccepted}
use Rattle.unclean_load.specs.Quick.{HasNoHeadBesideMask, ListedAreScanned, NoHeadIsKept, QuickIsKept}
use Rattle.blob_tool.specs.Found.{HasSoundImage, IsSoundImage, ReadsAs}
use Rattle.blob_tool.specs.Surviving.{RunComesBack, RunSurvives}
use Rattle.blob_tool.proofs.ClosedStore.{HasSameStore, some_fixed_page}

-- the laws of loading that are used
pub record LoadLaws : Type 0 where
  pub in_use : InUseAreAccepted
  pub unloaded : UnloadedAreAccepted
  pub listed : ListedAreScanned
  pub accepted_kept : AcceptedAreKept
  pub quick_kept : QuickIsKept
  pub no_head_kept : NoHeadIsKept
  pub apart : (s : Super) → IsFaultless s → (page : ℕ) → IsMaskPage s page → StandsApart s page

pub load_laws : InUseAreAccepted → UnloadedAreAccepted → ListedAreScanned → AcceptedAreKept → QuickIsKept → NoHeadIsKept
    → ((s : Super) → IsFaultless s → (page : ℕ) → IsMaskPage s page → StandsApart s page) → LoadLaws
load_laws in_use unloaded listed accepted_kept quick_kept no_head_kept apart = record {
  in_use = in_use;
  unloaded = unloaded;
  listed = listed;
  accepted_kept = accepted_kept;
  quick_kept = quick_kept;
  no_head_kept = no_head_kept;
  apart = apart;
}

-- what can be loaded can be scanned: the super block is that of the image, but for whether it was unloaded and for its
-- sum, and the regions are the same
scanned : (s : Super) (image : Image) (x : CanBeLoaded s image)
    → CanBeScanned
    (record s { clean = (super_of (image 0) s.device_pages).clean; crc = (super_of (image 0) s.device_pages).crc })
    image x.metas x.chains
unfolding fixed_clusters_of clusters_of placed cluster_pages_of
scanned s image x = record {
  faultless = x.store.faultless;
  is = x.store.same;
  says = x.says;
  few = x.few;
  named = x.named;
  lawful = x.lawful;
}

module _ {D : Type 0} (d : Ghosts D) (laws : LoadLaws) (law : IsTrue d.tells → Telling d.now d.images d.since d.clock)
    (b : WithOpening D) (kept_so : StoreInvariant d b) (quick : Bool)
    (read : ReadsAs d quick b.opening.super (base_of b.opening.metas b.opening.marked) (map.get b.opening.chains)
    b.opening.disk) (sound : HasSoundImage d b.opening.disk) where
  abbrev pub s : Super
  s = b.opening.super

  abbrev pub first : Volumes
  first = shown (state_of d b.opening)

  abbrev pub opened : Image
  opened = d.now b.opening.disk

  pub told : IsTrue d.tells
  told = sound.one.0

  super_read : s ≡ super_of (opened 0) (d.pages b.opening.disk)
  super_read = read.super told

  pub no_head_opened : HasNoHeadBesideMask s opened
  no_head_opened = subst (λ (t : Super). HasNoHeadBesideMask t opened) (sym super_read) sound.sound.no_head

  pub opens : OpensAsRead d b.opening
  opens = record {
    one = sound.one;
    super = super_read ∙ ap (λ n. super_of (opened 0) n) (sym read.device_pages);
    holds = read.holds told no_head_opened;
  }

  pub survived : StoreSurvives d s first b.at
  survived = kept_so.survives opens

  pub images : CleanImages d s opened (state_of d b.at) b.at.disk
  images = kept_so.images opens

  -- an image that has the fixed clusters of the one that was opened has its super block
  pub super_kept : (c : Image) → HasFixedPagesOf s opened c → s ≡ super_of (c 0) s.device_pages
  super_kept c fixed =
      super_read ∙ ap (λ n. super_of (opened 0) n) (sym read.device_pages)
      ∙ ap (λ page. super_of page s.device_pages) (sym (fixed 0 (some_fixed_page s kept_so.placed)))

  -- an image that is in use, or as the one that was opened, is sound
  pub sound_so : (c : Image) → CanBeLoaded s c → IsMarkedOrOpened s opened c → IsSoundImage s.device_pages c
  sound_so c x (inl in_use) =
      let y = laws.in_use _ c x.metas x.chains (scanned s c x) in_use in
      record { accepted = y.0; no_head = subst (λ (t : Super). HasNoHeadBesideMask t c) x.store.same y.1 }
  sound_so c x (inr fixed) = record {
    accepted = subst (λ n. IsAccepted n c) (sym read.device_pages)
        (laws.accepted_kept (d.pages b.opening.disk) opened c
        (subst (λ (t : Super). HasFixedPagesOf t opened c) super_read fixed) sound.sound.accepted);
    no_head = subst (λ (t : Super). HasNoHeadBesideMask t c) (super_kept c fixed)
        (laws.no_head_kept s opened c kept_so.faultless fixed no_head_opened);
  }

  -- what is known of the marks, both at once
  both : MarksKept d b.at.disk b.at.marks
      (λ i c. StoreComesBack d s first b.at i c × IsMarkedOrOpened s opened c)
  both = record {
    past = survived.any_moment.past;
    any_moment = λ t i lt c left.
        (survived.any_moment.any_moment t i lt c left, images.any_moment.any_moment t i lt c left);
  }

  -- an image of the device behind the last turn, from which another one comes that is sound
  pub record ComesFrom (c : Image) : Type 0 where
    pub image : Image
    pub was : d.images b.at.disk image
    pub same : HasSameStore s image c
    pub sound_too : IsSoundImage s.device_pages c

  some_mark : 0 < length b.at.marks
  some_mark = let count = kept_so.facts.counted in omega (arith, count)

  since_first : (c : Image) → d.images b.at.disk c → d.since b.at.disk (get_or b.at.marks 0 0) c
  since_first c held = (law told).counts_now b.at.disk (get_or b.at.marks 0 0) c (both.past 0 some_mark) held

  -- each image of the device behind the last turn can be loaded,
  pub loads : (c : Image) → d.images b.at.disk c → CanBeLoaded s c
  loads c held = (both.any_moment told 0 some_mark c (since_first c held)).0.0

  -- and is in use, or as the one that was opened
  pub way : (c : Image) → d.images b.at.disk c → IsMarkedOrOpened s opened c
  way c held = (both.any_moment told 0 some_mark c (since_first c held)).1

  pub from_itself : (c : Image) → d.images b.at.disk c → ComesFrom c
  from_itself c held = record {
    image = c;
    was = held;
    same = record { store = λ x. x; region = λ q low. refl; behind = λ page le. refl };
    sound_too = sound_so c (loads c held) (way c held);
  }

  -- ---- what is left behind the last turn

  module _ (back : D) (Left : Images) (run : CallsLeave d b.at.disk back Left)
      (from : (c : Image) → Left c → ComesFrom c) where
    pub was_one : (c : Image) → d.images back c → ComesFrom c
    was_one c held = from c (run.each c ((law told).counts_now back (d.clock b.at.disk) c run.later held))

    loads_same : (c : Image) (x : ComesFrom c) → CanBeLoaded s x.image → CanBeLoaded s c
    loads_same c x y = loaded_same s kept_so.placed x.image c (x.same.store y.store) x.same.region x.same.behind y

    comes_same : (least : ℕ) (c : Image) (x : ComesFrom c) → StoreComesBack d s first b.at least x.image
        → RunComesBack d s first b.at back least c
    comes_same least c x y = (
      x.sound_too,
      recovers_from_same s kept_so.placed x.image c (x.same.store y.0.store) x.same.region x.same.behind first b.at.log
          least y.1,
    )

    pub survives : RunSurvives d s first b.at back
    survives = record {
      any_moment = kept_by_run d b.at.disk back b.at.marks
          (λ i c. StoreComesBack d s first b.at i c × IsMarkedOrOpened s opened c)
          (RunComesBack d s first b.at back) Left both run.later (λ _. run)
          (λ i lt c y. (sound_so c y.0.0 y.1, y.0.1))
          (λ t i lt c left.
          let y = from c left in
          comes_same i c y (survived.any_moment.any_moment t i lt y.image
          ((law t).counts_now b.at.disk (get_or b.at.marks i 0) y.image (both.past i lt) y.was)));
      whole = λ runs c held.
          let y = was_one c held in
          let stands = survived.stands runs y.image y.was in
          let whole = stands_whole d told s first (opening_script b.opening) (state_of d b.at) b.at.disk refl refl
          kept_so.facts runs y.image stands in (
            y.sound_too,
            recovers_same s kept_so.placed y.image c (y.same.store stands.store) y.same.region y.same.behind first
                b.at.log whole,
          );
      stopped = λ at is c held.
          let y = was_one c held in
          let z = survived.stopped at is y.image y.was in (
            y.sound_too,
            recovers_at_same s kept_so.placed y.image c (y.same.store z.0.store) y.same.region y.same.behind first
                b.at.log at z.1,
          );
    }

  -- ---- a device that is left alone

  pub survives_alone : RunSurvives d s first b.at b.at.disk
  survives_alone = survives b.at.disk (d.images b.at.disk)
      (started d b.at.disk (d.images b.at.disk) (λ c left. (law told).since_now b.at.disk c left)) from_itself
