-- The heads by which blobs were found, and the fault where they weren't.
use Rattle.std.proofs.Common.{◌≡◌, ℕ, true, false, [], refl, subst, inr}
use Rattle.clean_stop.specs.Masks.{MasksFit, SaysMasks}
use Rattle.md_chain.specs.Chain.{Look}
use Rattle.md_chain.specs.Reading.{region_look}
use Rattle.page_disk.specs.Disk.{Image}
use Rattle.page_disk.specs.declared.disk.PageDisk.{Ghosts}
use Rattle.store_model.specs.Maps.{Metas, Chains}
use Rattle.store_model.specs.Places.{Unclaimed, UsedClusters, UsedPages}
use Rattle.store_model.specs.Regions.{MdRegion, look_of, region_of}
use Rattle.super_block.specs.declared.masks.Masks.{Masks}
use Rattle.super_block.specs.declared.page.Super.{Super}
use Rattle.unclean_load.specs.declared.fault.LoadFault.{LoadFault}
use Rattle.unclean_load.specs.declared.fault.LoadFault.TheVariants as fault
use Rattle.unclean_load.specs.declared.heads.Heads.{Heads}
use Rattle.unclean_load.specs.declared.heads.Heads.TheVariants.{ByScan, Listed}
use Rattle.unclean_load.specs.Accepted.{IsImageFault}
use Rattle.unclean_load.specs.Claiming.{IsInTwo, IsPageFault}
use Rattle.unclean_load.specs.Heads.{AreWhole, IsHeadsFault, ShowsFirst}
use Rattle.unclean_load.specs.Quick.{AreHeads, IsFaultFound, IsQuick, IsReadBy}
use Rattle.unclean_load.specs.Reading.{IsOnlyFault}
use Rattle.unclean_load.proofs.LoadOutcome.{not_twice}
use Rattle.unclean_load.proofs.MaskClaims.{is_trusted, not_trusted}
use Rattle.unclean_load.proofs.Refusing.{none_shown}

-- ---- counts of read faults

-- where no read had failed before, a fault is counted as from the beginning
pub counted_behind : (old mid new : ℕ) (why : LoadFault) → mid ≡ old → IsOnlyFault mid new why → IsOnlyFault old new why
counted_behind old mid new why quiet x = subst (λ (n : ℕ). IsOnlyFault n new why) quiet x

-- chains with a place in common, or want of memory, are found with no read
pub pages_uncounted : (twice : ℕ → ℕ → Type 0) (old new : ℕ) (why : LoadFault) → new ≡ old → IsPageFault twice why
    → IsOnlyFault old new why
pages_uncounted twice old new (fault.Chain head e) same x = same
pages_uncounted twice old new fault.Memory same x = same
pages_uncounted twice old new fault.ReadFault same x = absurd x
pages_uncounted twice old new (fault.NoRoom head has wants) same x = absurd x
pages_uncounted twice old new (fault.Super e) same x = same
pages_uncounted twice old new (fault.Meta head e) same x = same
pages_uncounted twice old new (fault.MapsTooLarge slots) same x = same
pages_uncounted twice old new (fault.NoParentBlob blob parent) same x = same
pages_uncounted twice old new (fault.WritableParent blob parent) same x = same
pages_uncounted twice old new (fault.ParentLoop blob) same x = same
pages_uncounted twice old new (fault.Shared cluster a b) same x = same

-- masks that can't be read for want of memory, or for a failed read, say nothing of the store
pub unread_found : (s : Super) (image : Image) (why : LoadFault) → (IsImageFault why → ⊥) → IsFaultFound s image why
unread_found s image fault.ReadFault none = tt
unread_found s image fault.Memory none = tt
unread_found s image (fault.Super e) none = absurd (none tt)
unread_found s image (fault.Chain head e) none = absurd (none tt)
unread_found s image (fault.Meta head e) none = absurd (none tt)
unread_found s image (fault.MapsTooLarge slots) none = absurd (none tt)
unread_found s image (fault.NoParentBlob blob parent) none = absurd (none tt)
unread_found s image (fault.WritableParent blob parent) none = absurd (none tt)
unread_found s image (fault.ParentLoop blob) none = absurd (none tt)
unread_found s image (fault.Shared cluster a b) none = absurd (none tt)
unread_found s image (fault.NoRoom head has wants) none = absurd (none tt)

-- ---- by the masks

module _ (look : Look) (r : MdRegion) (heads : Heads) (metas : Metas) (chains : Chains)
    (whole : AreWhole look r heads metas chains) where
  -- where the heads are whole, memory alone is wanting for what they claim
  pub pages_fail : (why : LoadFault) → IsPageFault (IsInTwo chains) why → IsHeadsFault look r heads why
  pages_fail fault.Memory x = tt
  pages_fail (fault.Chain head e) x = absurd (not_twice look r heads metas chains whole head e x)
  pages_fail fault.ReadFault x = tt
  pages_fail (fault.NoRoom head has wants) x = absurd x
  pages_fail (fault.Super e) x = absurd x
  pages_fail (fault.Meta head e) x = absurd x
  pages_fail (fault.MapsTooLarge slots) x = absurd x
  pages_fail (fault.NoParentBlob blob parent) x = absurd x
  pages_fail (fault.WritableParent blob parent) x = absurd x
  pages_fail (fault.ParentLoop blob) x = absurd x
  pages_fail (fault.Shared cluster a b) x = absurd x

-- a fault that some heads show, where these are the store's
module _ (s : Super) (image : Image) (heads : Heads) where
  pub fault_found : (why : LoadFault)
      → (ShowsFirst (look_of (region_of s) image) (region_of s) heads why → AreHeads s image heads)
      → IsHeadsFault (look_of (region_of s) image) (region_of s) heads why → IsFaultFound s image why
  fault_found fault.ReadFault are x = tt
  fault_found fault.Memory are x = tt
  fault_found (fault.Super e) are x = record { heads = heads; are = are x; shows = x }
  fault_found (fault.Chain head e) are x = record { heads = heads; are = are x; shows = x }
  fault_found (fault.Meta head e) are x = record { heads = heads; are = are x; shows = x }
  fault_found (fault.MapsTooLarge slots) are x = record { heads = heads; are = are x; shows = x }
  fault_found (fault.NoParentBlob blob parent) are x = record { heads = heads; are = are x; shows = x }
  fault_found (fault.WritableParent blob parent) are x = record { heads = heads; are = are x; shows = x }
  fault_found (fault.ParentLoop blob) are x = record { heads = heads; are = are x; shows = x }
  fault_found (fault.Shared cluster a b) are x = record { heads = heads; are = are x; shows = x }
  fault_found (fault.NoRoom head has wants) are x = record { heads = heads; are = are x; shows = x }

module _ (s : Super) (masks : Masks) (image : Image) (clean : s.clean ≡ 1) (says : SaysMasks s masks image) where
  -- masks whose heads show a fault are trusted
  pub faulty_heads : (why : LoadFault) → ShowsFirst (look_of (region_of s) image) (region_of s) (Listed masks.blobs) why
      → AreHeads s image (Listed masks.blobs)
  faulty_heads why shows = (
    masks,
    record {
      clean = clean;
      says = says;
      trusted =
          inr (λ metas chains whole. none_shown (look_of (region_of s) image) (region_of s) (Listed masks.blobs) metas
          chains whole why shows);
    },
    refl,
  )

  pub fails_by_masks : (why : LoadFault)
      → IsHeadsFault (look_of (region_of s) image) (region_of s) (Listed masks.blobs) why
      → IsFaultFound s image why
  fails_by_masks why x = fault_found s image (Listed masks.blobs) why (faulty_heads why) x

-- masks that were read of a device, whose heads were read then
module _ {D : Type 0} (d : Ghosts D) (s : Super) (masks : Masks) (old mid : D) (same : d.now mid ≡ d.now old)
    (clean : s.clean ≡ 1) (says : SaysMasks s masks (d.now old)) where
  -- a fault of these is one of the device as it was
  pub fault_by_masks : (why : LoadFault)
      → IsHeadsFault (region_look s (d.now mid)) (region_of s) (Listed masks.blobs) why
      → IsFaultFound s (d.now old) why
  fault_by_masks why x =
      fails_by_masks s masks (d.now old) clean says why
      (subst (λ (image : Image). IsHeadsFault (region_look s image) (region_of s) (Listed masks.blobs) why) same x)

  module _ (fit : MasksFit s masks) (metas : Metas) (chains : Chains)
      (whole : AreWhole (region_look s (d.now mid)) (region_of s) (Listed masks.blobs) metas chains) where
    whole_then : AreWhole (look_of (region_of s) (d.now old)) (region_of s) (Listed masks.blobs) metas chains
    whole_then =
        subst (λ (image : Image). AreWhole (region_look s image) (region_of s) (Listed masks.blobs) metas chains) same
        whole

    -- where they are what the blobs claim, these are those of the store
    pub read_by_masks : UsedPages s.md_len masks.pages chains [] × UsedClusters s masks.clusters metas Unclaimed
        → IsReadBy true s (d.now old) metas chains
    read_by_masks claimed = record {
      heads = Listed masks.blobs;
      are = (
        masks,
        is_trusted s masks (d.now old) metas chains fit whole_then clean says claimed.0 claimed.1,
        refl,
      );
      quick_is = refl;
      whole = whole_then;
    }

    -- and else no masks are trusted
    pub not_by_masks : (UsedPages s.md_len masks.pages chains [] → UsedClusters s masks.clusters metas Unclaimed → ⊥)
        → ((other : Masks) → SaysMasks s other (d.now old) → other ≡ masks) → (other : Masks)
        → IsQuick s other (d.now old) → ⊥
    not_by_masks differs one other quick =
        not_trusted s masks (d.now old) metas chains fit whole_then differs
        (subst (λ (m : Masks). IsQuick s m (d.now old)) (one other quick.says) quick)

    -- whose chains have no page in common, so that memory alone is wanting
    pub pages_by_masks : (why : LoadFault) → IsPageFault (IsInTwo chains) why → IsFaultFound s (d.now old) why
    pages_by_masks why x =
        fails_by_masks s masks (d.now old) clean says why
        (pages_fail (look_of (region_of s) (d.now old)) (region_of s) (Listed masks.blobs) metas chains whole_then why
        x)

-- ---- by a scan

-- a scan, where no masks are trusted
module _ (s : Super) (image : Image) (none : (masks : Masks) → IsQuick s masks image → ⊥) where
  pub read_scan : (metas : Metas) (chains : Chains)
      → AreWhole (look_of (region_of s) image) (region_of s) ByScan metas chains
      → IsReadBy false s image metas chains
  read_scan metas chains whole = record { heads = ByScan; are = none; quick_is = refl; whole = whole }

  pub scan_fails : (why : LoadFault) → IsHeadsFault (look_of (region_of s) image) (region_of s) ByScan why
      → IsFaultFound s image why
  scan_fails why x = fault_found s image ByScan why (λ _. none) x
