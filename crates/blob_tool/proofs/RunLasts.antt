-- Behind a run that didn't stop one image is left, which is clean.
use Rattle.std.proofs.Common.{◌≡◌, ◌+◌, Bool, true, false, None, refl, sym, ap, subst, ◌∙◌, inl, inr, arith}
use Rattle.std.proofs.Common.{IsTrue}
use Rattle.std.proofs.Math.Path.{fun_ext}
use Rattle.std.specs.FinMap as map
use Rattle.page_disk.specs.Disk.{Image, Telling}
use Rattle.page_disk.specs.declared.disk.PageDisk.{Ghosts}
use Rattle.super_block.specs.declared.masks.Masks.{Masks}
use Rattle.super_block.specs.declared.page.Super.{Super}
use Rattle.super_block.specs.Page.{super_of}
use Rattle.volume_model.specs.Volumes.{Volumes}
use Rattle.store_model.specs.Maps.{Chains, Metas}
use Rattle.store_model.specs.Recovers.{HasStore}
use Rattle.store_model.specs.Regions.{look_of, region_of}
use Rattle.store_model.specs.Scans.{Says}
use Rattle.store_model.specs.StateLaws.{HasFixedPagesOf}
use Rattle.store_model.specs.StoreState.{shown}
use Rattle.store_model.proofs.Besides.{says_same}
use Rattle.store_model.proofs.One.{one_scan}
use Rattle.store_model.proofs.Scanning.{same_region}
use Rattle.running_store.specs.LoadedWhole.{AreMasks}
use Rattle.running_store.specs.Running.{super_left}
use Rattle.running_store.specs.StoreView.{base_of, state_of, WithOpening}
use Rattle.store_core.specs.StoreInvariant.{StoreInvariant}
use Rattle.unclean_load.specs.Quick.{AreClaimed, AreListed, HasNoHeadBesideMask, IsQuick}
use Rattle.blob_tool.specs.Closing.{IsCleanWith, IsClosed}
use Rattle.blob_tool.specs.Found.{HasSoundImage, ReadsAs}
use Rattle.blob_tool.specs.Surviving.{IsLasting, IsLeftClean}
use Rattle.blob_tool.proofs.ClosedStore.{HasSameStore, stays_same}
use Rattle.blob_tool.proofs.ShownAtEnd.{shown_at_end}
use Rattle.blob_tool.proofs.ClosedSurvives as closes
use Rattle.blob_tool.proofs.RunSurvives as run
use Rattle.blob_tool.proofs.RunSurvives.{LoadLaws}

module _ {D : Type 0} (d : Ghosts D) (laws : LoadLaws) (law : IsTrue d.tells → Telling d.now d.images d.since d.clock)
    (b : WithOpening D) (kept : StoreInvariant d b) (quick : Bool)
    (read : ReadsAs d quick b.opening.super (base_of b.opening.metas b.opening.marked) (map.get b.opening.chains)
    b.opening.disk) (sound : HasSoundImage d b.opening.disk) (runs : b.at.stopped ≡ None) (masks : Masks)
    (claims : AreMasks b.at.super (base_of b.at.metas b.at.marked) (map.get b.at.chains) masks) (back : D)
    (closed : IsClosed d (super_left b.at.clean b.opening.super) masks b.at.disk back quick) where
  abbrev s : Super
  s = b.opening.super

  abbrev first : Volumes
  first = shown (state_of d b.opening)

  abbrev base : Metas
  base = base_of b.at.metas b.at.marked

  abbrev chains : Chains
  chains = map.get b.at.chains

  abbrev told : IsTrue d.tells
  told = sound.one.0

  abbrev image : Image
  image = d.now back

  came : run.ComesFrom d laws law b kept quick read sound image
  came = run.was_one d laws law b kept quick read sound back _ (closed.closing told)
      (closes.from_closing d laws law b kept quick read sound runs masks claims) image
      ((closed.lasting told image).1 refl)

  store : HasStore s image
  store = came.same.store ((run.survived d laws law b kept quick read sound).stands runs came.image came.was).store

  says : Says (region_of s) base chains image
  says = says_same s kept.placed came.image image store came.same.region came.same.behind base chains
      ((run.survived d laws law b kept quick read sound).stands runs came.image came.was).says

  -- ---- the masks were written

  super_here : closes.super_at d laws law b kept quick read sound runs masks claims image
      ≡ super_of (image 0) s.device_pages
  super_here = store.same

  written : IsCleanWith (super_left b.at.clean s) masks image → IsLeftClean d s first b.at back
  written is =
      let x = closes.unloaded_at d laws law b kept quick read sound runs masks claims came.image image came.was
      came.same
      is in
      record {
        masks = masks;
        quick = subst (λ (t : Super). IsQuick t masks image) super_here x.1;
        claims = closes.claims_here d laws law b kept quick read sound runs masks claims;
        no_head = subst (λ (t : Super). HasNoHeadBesideMask t image) super_here x.2;
      }

  -- ---- they were trusted, and nothing was written

  module _ (is_clean : b.at.clean ≡ true) (is_quick : quick ≡ true) where
    abbrev opened : Image
    opened = d.now b.opening.disk

    stays : image ≡ d.now b.at.disk
    stays = closed.same told (ap (λ c. (super_left c s).clean) is_clean, is_quick)

    fixed : HasFixedPagesOf s opened image
    fixed = subst (HasFixedPagesOf s opened) (sym stays)
        ((run.images d laws law b kept quick read sound).as_opened is_clean runs (d.now b.at.disk)
        ((law told).reads_an_image b.at.disk))

    found : (m : Masks) × IsQuick s m opened
        × AreListed (look_of (region_of s) opened) (region_of s) m.blobs
        (base_of b.opening.metas b.opening.marked) (map.get b.opening.chains)
    found = read.trusted told is_quick

    no_head : HasNoHeadBesideMask s opened
    no_head = run.no_head_opened d laws law b kept quick read sound

    -- the blobs of the mask are those in memory
    claimed_here : AreClaimed s found.0 opened → AreMasks s base chains found.0
    claimed_here x =
        let listed = laws.listed s opened found.0.blobs x.metas x.chains x.blobs (no_head found.0 found.1) in
        let here : Says (region_of s) x.metas x.chains image =
        same_region (look_of (region_of s) opened) (region_of s) x.metas x.chains listed (look_of (region_of s) image)
        (λ q low. fixed (s.md_start + q) (let end = kept.placed.md_end in omega (arith, end, low))) in
        let one = one_scan (look_of (region_of s) image) (region_of s) x.metas base x.chains chains here says in
        subst (λ (m : Metas). AreMasks s m chains found.0) (fun_ext (λ head. (one head).0))
        (subst (λ (c : Chains). AreMasks s x.metas c found.0) (fun_ext (λ head. (one head).1)) x.claims)

    super_stays : s ≡ super_of (image 0) s.device_pages
    super_stays = run.super_kept d laws law b kept quick read sound image fixed

    trusted : IsLeftClean d s first b.at back
    trusted = record {
      masks = found.0;
      quick = subst (λ (t : Super). IsQuick t found.0 image) super_stays
          (laws.quick_kept s opened image kept.faultless fixed found.0 found.1);
      claims = elim found.1.trusted [
        | inl x ↦ claimed_here x
        | inr faulty ↦ absurd (faulty _ _ found.2)
      ];
      no_head = subst (λ (t : Super). HasNoHeadBesideMask t image) super_stays
          (laws.no_head_kept s opened image kept.faultless fixed no_head);
    }

  -- ---- either

  unloaded : (c q : Bool) → b.at.clean ≡ c → quick ≡ q → IsLeftClean d s first b.at back
  unloaded true true is_clean is_quick = trusted is_clean is_quick
  unloaded false q is_clean is_quick =
      written (closed.clean told (λ both.
      let zero : 0 ≡ 1 = ap (λ c. (super_left c s).clean) (sym is_clean) ∙ both.0 in cc zero))
  unloaded true false is_clean is_quick =
      written (closed.clean told (λ both. let bad : false ≡ true = sym is_quick ∙ both.1 in cc bad))

  -- ---- what is shown

  -- all that the store has, but its super block and masks, is as it was read
  behind_same : HasSameStore s (d.now b.at.disk) image
  behind_same = stays_same s kept.placed (laws.apart s kept.faultless) b.at.clean masks (d.now b.at.disk) image
      (closed.others told) (λ _. store)

  read_says : Says (region_of s) base chains (d.now b.at.disk)
  read_says = ((run.survived d laws law b kept quick read sound).stands runs (d.now b.at.disk)
      ((law told).reads_an_image b.at.disk)).says

  -- what is left of a run that didn't stop
  pub lasting : IsLasting d s first b.at back
  lasting = record {
    one_image = closed.lasting told;
    holds = record { store = store; says = says };
    shown = shown_at_end d told b kept runs image store behind_same read_says;
    unloaded = unloaded b.at.clean quick refl refl;
  }
