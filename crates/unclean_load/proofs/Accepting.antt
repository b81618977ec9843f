-- An image of a store is accepted.
use Rattle.std.proofs.Common.{◌≡◌, ℕ, ◌*◌, ◌<◌, ◌≤◌, ◌⊎◌, Bool, true, false, List, ◌∷◌, Option, Some, None, ap, ◌∙◌}
use Rattle.std.proofs.Common.{refl, sym, subst, inl, inr, arith}
use Rattle.std.proofs.Math.Nat.{mul-le-mul_right}
use Rattle.std.proofs.Math.Path.{fun_ext}
use Rattle.crc32c.specs.Crc.{is_sound}
use Rattle.page_disk.specs.Disk.{Image}
use Rattle.super_block.specs.declared.masks.Masks.{Masks}
use Rattle.super_block.specs.declared.page.Super.{Super}
use Rattle.super_block.specs.declared.fault.SuperFault.{SuperFault}
use Rattle.super_block.specs.Numbers.{cluster_pages_of, clusters_of}
use Rattle.super_block.specs.Page.{super_of}
use Rattle.super_block.specs.Placed.{IsPlaced}
use Rattle.super_block.specs.Faults.{first_fault, fault_of, tests, super_fault, IsFaultless}
use Rattle.clean_stop.specs.Masks.{IsMaskPage, SaysMasks, StandsApart}
use Rattle.running_store.specs.LoadedWhole.{AreMasks}
use Rattle.store_model.specs.Maps.{Metas, Chains}
use Rattle.store_model.specs.Regions.{look_of, region_of}
use Rattle.store_model.specs.Scans.{Says}
use Rattle.store_model.specs.StateLaws.{HasFixedPagesOf}
use Rattle.store_model.proofs.One.{one_scan}
use Rattle.unclean_load.specs.declared.heads.Heads.{Heads}
use Rattle.unclean_load.specs.declared.heads.Heads.TheVariants.{ByScan, Listed}
use Rattle.unclean_load.specs.Accepted.{CanBeScanned, IsAccepted, SuperAt}
use Rattle.unclean_load.specs.Heads.{AreWhole}
use Rattle.unclean_load.specs.Quick.{AreClaimed, AreFaulty, AreHeads, HasNoFaultByMask, HasNoHeadBesideMask}
use Rattle.unclean_load.proofs.PlaceSays.{scan_of_set, whole_scan}
use Rattle.unclean_load.proofs.Quick.{are_listed, is_quick}
use Rattle.unclean_load.proofs.SamePages.{heads_kept, loads_kept, super_kept}

-- ---- the super block

third_fails : (a b : Option SuperFault) (f : SuperFault) (rest : List (Option SuperFault))
    → first_fault (a ∷ b ∷ Some f ∷ rest) ≡ None → ⊥
third_fails None None f rest e = cc e
third_fails None (Some g) f rest e = cc e
third_fails (Some g) b f rest e = cc e

pub faultless_by : (sound : Bool) (s : Super) → fault_of sound s ≡ None → fault_of true s ≡ None
unfolding fault_of tests
faultless_by true s e = e
faultless_by false s e = absurd (third_fails _ _ _ _ e)

some_pages : (s : Super) → IsPlaced s → 0 < s.device_pages
some_pages s placed =
    let some : 1 ≤ clusters_of s = let a = placed.some_fixed in let b = placed.fixed_clusters in omega (arith, a, b) in
    let more : 1 * cluster_pages_of s ≤ clusters_of s * cluster_pages_of s =
    mul-le-mul_right (cluster_pages_of s) some in
    let pages = placed.some_pages in
    let device = placed.on_device in
    omega (arith, more, pages, device)

-- ---- the image

-- what the laws of regions and of masks say
module _ (placed : (s : Super) → IsFaultless s → IsPlaced s) where
  super_at : (s : Super) (image : Image) (metas : Metas) (chains : Chains) → CanBeScanned s image metas chains
      → SuperAt s.device_pages image s
  super_at s image metas chains c =
      let fine : fault_of (is_sound (image 0)) s ≡ None =
      ap (λ (t : Super). fault_of (is_sound (image 0)) t) c.is ∙ c.faultless in
      record {
        some_pages = some_pages s (placed s (faultless_by (is_sound (image 0)) s fine));
        faultless = c.faultless;
        is = c.is;
      }

  module _ (s : Super) (image : Image) (metas : Metas) (chains : Chains) (c : CanBeScanned s image metas chains) where
    -- heads with the metadata of the scan make an image accepted
    accepted_by : (heads : Heads) → AreHeads s image heads
        → AreWhole (look_of (region_of s) image) (region_of s) heads metas chains → IsAccepted s.device_pages image
    accepted_by heads are whole = record {
      sup = s;
      super_at = super_at s image metas chains c;
      heads = heads;
      are = are;
      loads = record { metas = metas; chains = chains; whole = whole; named = c.named; lawful = c.lawful };
    }

    scanned : AreWhole (look_of (region_of s) image) (region_of s) ByScan metas chains
    scanned = whole_scan (look_of (region_of s) image) (region_of s) metas chains c.says c.few

    -- an image that isn't clean is accepted by a scan
    pub accepted_in_use : (s.clean ≡ 1 → ⊥) → IsAccepted s.device_pages image × HasNoHeadBesideMask s image
    accepted_in_use dirty = (
      accepted_by ByScan (λ masks quick. dirty quick.clean) scanned,
      λ masks quick. absurd (dirty quick.clean),
    )

    -- an unloaded store is accepted by its masks
    pub accepted_unloaded : (masks : Masks) → s.clean ≡ 1 → SaysMasks s masks image → AreMasks s metas chains masks
        → IsAccepted s.device_pages image
    accepted_unloaded masks clean says claims =
        accepted_by (Listed masks.blobs)
        (masks, is_quick s masks image metas chains c.says c.few claims clean says, refl)
        (are_listed s masks image metas chains c.says c.few claims)

    same_as_scan : (m : Metas) (l : Chains) → Says (region_of s) m l image → (metas ≡ m) × (chains ≡ l)
    same_as_scan m l says = (
      fun_ext (λ h. (one_scan (look_of (region_of s) image) (region_of s) metas m chains l c.says says h).0),
      fun_ext (λ h. (one_scan (look_of (region_of s) image) (region_of s) metas m chains l c.says says h).1),
    )

    -- by the heads that an image has it is accepted, where masks that are trusted name all and none with a fault
    pub accepted : (heads : Heads) → AreHeads s image heads → HasNoFaultByMask s image → HasNoHeadBesideMask s image
        → IsAccepted s.device_pages image
    accepted ByScan are fine none = accepted_by ByScan are scanned
    accepted (Listed places) are fine none = by are.1.trusted
      where
        by : AreClaimed s are.0 image ⊎ AreFaulty (look_of (region_of s) image) (region_of s) are.0.blobs
            → IsAccepted s.device_pages image
        by (inl x) =
            let look = look_of (region_of s) image in
            let says =
            scan_of_set look (region_of s) x.metas x.chains are.0.blobs x.blobs (none are.0 are.1) in
            let same = same_as_scan x.metas x.chains says in
            accepted_by (Listed places) are
            (subst (λ (l : List Bool). AreWhole look (region_of s) (Listed l) metas chains) (sym are.2)
            (subst (λ (m : Metas). AreWhole look (region_of s) (Listed are.0.blobs) m chains) (sym same.0)
            (subst (λ (l : Chains). AreWhole look (region_of s) (Listed are.0.blobs) x.metas l) (sym same.1) x.blobs)))
        by (inr f) = absurd (fine are.0 are.1 f)

-- an image with the same pages in the fixed clusters as one that is accepted is so too
module _ (placed : (s : Super) → IsFaultless s → IsPlaced s)
    (apart : (s : Super) → IsFaultless s → (page : ℕ) → IsMaskPage s page → StandsApart s page)
    (pages : ℕ) (image other : Image) (same : HasFixedPagesOf (super_of (image 0) pages) image other) where
  pub accepted_kept : IsAccepted pages image → IsAccepted pages other
  accepted_kept a =
      let s = a.sup in
      let at = a.super_at in
      let fine : IsFaultless s =
      faultless_by (is_sound (image 0)) s
      (ap (λ (t : Super). fault_of (is_sound (image 0)) t) at.is ∙ at.faultless) in
      let kept : HasFixedPagesOf s image other = subst (λ (t : Super). HasFixedPagesOf t image other)
      (sym at.is) same in
      let first : other 0 ≡ image 0 = super_kept s (placed s fine) (apart s fine) image other kept in
      record {
        sup = s;
        super_at = record {
          some_pages = at.some_pages;
          faultless = ap (λ (page : List ℕ). super_fault page pages) first ∙ at.faultless;
          is = at.is ∙ ap (λ (page : List ℕ). super_of page pages) (sym first);
        };
        heads = a.heads;
        are = heads_kept s (placed s fine) (apart s fine) image other kept a.heads a.are;
        loads = record {
          metas = a.loads.metas;
          chains = a.loads.chains;
          whole =
              loads_kept s (placed s fine) (apart s fine) image other kept a.heads a.loads.metas a.loads.chains
              a.loads.whole;
          named = a.loads.named;
          lawful = a.loads.lawful;
        };
      }
