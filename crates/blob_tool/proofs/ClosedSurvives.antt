-- What a crash may leave of a run that closes its store, and so of a run however it ended.
use Rattle.std.proofs.Common.{◌≡◌, ◌≢◌, ⊎_elim, ℕ, Bool, true, false, Option, None, Some, refl, sym, ap, subst, ◌∙◌}
use Rattle.std.proofs.Common.{inl, inr, IsTrue}
use Rattle.std.specs.FinMap as map
use Rattle.clean_images.specs.CleanImages.{IsMarkedOrOpened}
use Rattle.page_disk.specs.Disk.{Image, Telling}
use Rattle.page_disk.specs.declared.disk.PageDisk.{Ghosts}
use Rattle.super_block.specs.declared.masks.Masks.{Masks}
use Rattle.super_block.specs.declared.page.Super.{Super}
use Rattle.super_block.specs.Numbers.{cluster_pages_of, clusters_of, fixed_clusters_of, placed}
use Rattle.super_block.specs.Page.{super_of}
use Rattle.store_model.specs.Maps.{Chains, Metas}
use Rattle.store_model.specs.StoreState.{shown}
use Rattle.store_model.proofs.Besides.{loaded_same, says_same}
use Rattle.running_store.specs.LoadedWhole.{AreMasks}
use Rattle.running_store.specs.Running.{super_left}
use Rattle.running_store.specs.StoreView.{base_of, state_of, WithOpening}
use Rattle.running_store.specs.Surviving.{CanBeLoaded, StoreSurvives}
use Rattle.store_core.specs.StoreInvariant.{StoreInvariant}
use Rattle.unclean_load.specs.Accepted.{IsAccepted}
use Rattle.unclean_load.specs.Quick.{HasNoHeadBesideMask, IsQuick}
use Rattle.blob_tool.specs.Closing.{Becomes, Closes, Closing, IsCleanWith, LeavesClosing}
use Rattle.blob_tool.specs.Closing as closing
use Rattle.blob_tool.specs.Found.{HasSoundImage, IsSoundImage, ReadsAs}
use Rattle.blob_tool.specs.Surviving.{RunSurvives}
use Rattle.blob_tool.proofs.ClosedStore.{becomes_same, HasSameStore}
use Rattle.blob_tool.proofs.RunSurvives as run
use Rattle.blob_tool.proofs.RunSurvives.{LoadLaws}

module _ {D : Type 0} (d : Ghosts D) (laws : LoadLaws) (law : IsTrue d.tells → Telling d.now d.images d.since d.clock)
    (b : WithOpening D) (kept_so : StoreInvariant d b) (quick : Bool)
    (read : ReadsAs d quick b.opening.super (base_of b.opening.metas b.opening.marked) (map.get b.opening.chains)
    b.opening.disk) (sound : HasSoundImage d b.opening.disk) where
  abbrev s : Super
  s = b.opening.super

  abbrev opened : Image
  opened = d.now b.opening.disk

  survived : StoreSurvives d s (shown (state_of d b.opening)) b.at
  survived = run.survived d laws law b kept_so quick read sound

  sound_so : (c : Image) → CanBeLoaded s c → IsMarkedOrOpened s opened c → IsSoundImage s.device_pages c
  sound_so = run.sound_so d laws law b kept_so quick read sound

  loads : (c : Image) → d.images b.at.disk c → CanBeLoaded s c
  loads = run.loads d laws law b kept_so quick read sound

  module _ (runs : b.at.stopped ≡ None) (masks : Masks)
      (claims : AreMasks b.at.super (base_of b.at.metas b.at.marked) (map.get b.at.chains) masks) where
    abbrev left : Super
    left = super_left b.at.clean s

    abbrev base : Metas
    base = base_of b.at.metas b.at.marked

    abbrev chains : Chains
    chains = map.get b.at.chains

    -- the super block with what an image says of being clean, and its sum
    abbrev pub super_at : Image → Super
    super_at c = record s {
      clean = (super_of (c 0) s.device_pages).clean;
      crc = (super_of (c 0) s.device_pages).crc;
    }

    pub claims_here : AreMasks s base chains masks
    claims_here = subst (λ (t : Super). AreMasks t base chains masks) kept_so.facts.super claims

    claims_at : (c : Image) → AreMasks (super_at c) base chains masks
    unfolding fixed_clusters_of clusters_of placed cluster_pages_of
    claims_at c =
        let x = claims_here in
        record {
          pages = x.pages;
          clusters = record {
            count = x.clusters.count;
            fixed = x.clusters.fixed;
            mapped = x.clusters.mapped;
            claimed_too = x.clusters.claimed_too;
            no_other = x.clusters.no_other;
            apart = x.clusters.apart;
          };
          count = x.count;
          blobs = x.blobs;
        }

    not_clean : left.clean ≢ 1 → b.at.clean ≡ false
    not_clean = by b.at.clean
      where
        by : (c : Bool) → (super_left c s).clean ≢ 1 → c ≡ false
        by true bad = absurd (bad refl)
        by false bad = refl

    -- an image that is unloaded is accepted, has masks that are trusted, and no head beside them
    pub unloaded_at : (image c : Image) → d.images b.at.disk image → HasSameStore s image c → IsCleanWith left masks c
        → IsAccepted s.device_pages c
        × IsQuick (super_at c) masks c × HasNoHeadBesideMask (super_at c) c
    unfolding fixed_clusters_of clusters_of placed cluster_pages_of
    unloaded_at image c held same is =
        let stands = survived.stands runs image held in
        let store = same.store stands.store in
        laws.unloaded (super_at c) masks c base chains
        (record {
          faultless = store.faultless;
          is = store.same;
          says = says_same s kept_so.placed image c store same.region same.behind base chains stands.says;
          few = kept_so.facts.few;
          named = kept_so.facts.named;
          lawful = kept_so.facts.lawful;
        })
        (ap (λ (t : Super). t.clean) is.super.reads)
        (record { pages = is.whole.pages; clusters = is.whole.clusters; blobs = is.whole.blobs })
        (claims_at c)

    sound_behind : (image c : Image) → d.images b.at.disk image → HasSameStore s image c → Becomes left masks image c
        → IsSoundImage s.device_pages c
    sound_behind image c held same (closing.as_before stays) = sound_so c
        (loaded_same s kept_so.placed image c (same.store (loads image held).store) same.region same.behind
        (loads image held))
        (⊎_elim
        (λ in_use. inl (subst (λ page. (super_of page s.device_pages).clean ≢ 1) (sym (stays 0)) in_use))
        (λ fixed. inr (λ page lt. stays page ∙ fixed page lt))
        (run.way d laws law b kept_so quick read sound image held))
    sound_behind image c held same (closing.kept dirty stays) = sound_so c
        (loaded_same s kept_so.placed image c (same.store (loads image held).store) same.region same.behind
        (loads image held))
        (inl (subst (λ page. (super_of page s.device_pages).clean ≢ 1) (sym stays)
        ((run.images d laws law b kept_so quick read sound).in_use (not_clean dirty) image held)))
    sound_behind image c held same (closing.in_use is) = sound_so c
        (loaded_same s kept_so.placed image c (same.store (loads image held).store) same.region same.behind
        (loads image held))
        (inl (λ one. let zero : 0 ≡ 1 = sym (ap (λ (t : Super). t.clean) is.reads) ∙ one in cc zero))
    sound_behind image c held same (closing.clean is) =
        let x = unloaded_at image c held same is in
        let stands = survived.stands runs image held in
        record {
          accepted = x.0;
          no_head = subst (λ (t : Super). HasNoHeadBesideMask t c) (same.store stands.store).same x.2;
        }

    pub from_closing : (c : Image) → Closing left masks (d.images b.at.disk) c
        → run.ComesFrom d laws law b kept_so quick read sound c
    from_closing c x =
        let same = becomes_same s kept_so.placed (laws.apart s kept_so.faultless) b.at.clean masks x.image c x.others
        x.becomes in
        record { image = x.image; was = x.was; same = same; sound_too = sound_behind x.image c x.was same x.becomes }

-- What a crash may leave of a run, however it ended.
module _ {D : Type 0} (d : Ghosts D) (laws : LoadLaws) (law : IsTrue d.tells → Telling d.now d.images d.since d.clock)
    (b : WithOpening D) (kept_so : StoreInvariant d b) (quick : Bool)
    (read : ReadsAs d quick b.opening.super (base_of b.opening.metas b.opening.marked) (map.get b.opening.chains)
    b.opening.disk) (masks : Masks) (back : D) where
  -- the store is closed by the super block with which it was opened
  pub at_opening : (P : Super → Type 0) → P b.at.super → P b.opening.super
  at_opening P x = subst P kept_so.facts.super x

  closing_survives : (sound : HasSoundImage d b.opening.disk) → b.at.stopped ≡ None
      → AreMasks b.at.super (base_of b.at.metas b.at.marked) (map.get b.at.chains) masks
      → LeavesClosing d (super_left b.at.clean b.at.super) masks b.at.disk back
      → RunSurvives d b.opening.super (shown (state_of d b.opening)) b.at back
  closing_survives sound runs claims closing =
      run.survives d laws law b kept_so quick read sound back _
      (at_opening (λ t. LeavesClosing d (super_left b.at.clean t) masks b.at.disk back) closing sound.one.0)
      (from_closing d laws law b kept_so quick read sound runs masks claims)

  pub survives_to_its_end : (entries : ℕ) (stopped ended : Option ℕ) → b.at.stopped ≡ stopped
      → (b.at.stopped ≡ None → AreMasks b.at.super (base_of b.at.metas b.at.marked) (map.get b.at.chains) masks)
      → Closes d (super_left b.at.clean b.at.super) masks b.at.disk back quick entries stopped ended
      → HasSoundImage d b.opening.disk → RunSurvives d b.opening.super (shown (state_of d b.opening)) b.at back
  survives_to_its_end entries (Some at) ended is claims closes sound =
      subst (λ (disk : D). RunSurvives d b.opening.super (shown (state_of d b.opening)) b.at disk) (sym closes.1)
      (run.survives_alone d laws law b kept_so quick read sound)
  survives_to_its_end entries None None is claims closes sound =
      closing_survives sound is (claims is) closes.closing
  survives_to_its_end entries None (Some at) is claims closes sound = closing_survives sound is (claims is) closes.1
