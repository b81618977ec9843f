-- What was read of a store is whole.
use Rattle.std.proofs.Common.{◌≡◌, ℕ, ◌<◌, List, Option, Some, None, refl, sym, subst, ◌∙◌}
use Rattle.page_disk.specs.Disk.{Image}
use Rattle.super_block.specs.declared.page.Super.{Super}
use Rattle.blob_meta.specs.declared.meta.Meta.{Meta}
use Rattle.blob_meta.specs.Resolving.{resolved}
use Rattle.md_chain.specs.Chain.{Look}
use Rattle.md_chain.specs.declared.fault.ChainFault.{ChainFault}
use Rattle.md_chain.specs.declared.fault.ChainFault.TheVariants as chain
use Rattle.page_disk.specs.declared.disk.PageDisk.{Ghosts}
use Rattle.super_block.specs.Faults.{super_fault}
use Rattle.super_block.specs.Page.{super_of}
use Rattle.running_store.specs.Surviving.{HoldsMetadata}
use Rattle.store_model.specs.Recovers.{IsSameStore}
use Rattle.store_model.specs.Scans.{Says}
use Rattle.store_model.specs.Maps.{Metas, Chains}
use Rattle.store_model.specs.Regions.{MdRegion, region_of, look_of}
use Rattle.unclean_load.specs.declared.fault.LoadFault.{LoadFault}
use Rattle.unclean_load.specs.declared.fault.LoadFault.TheVariants as fault
use Rattle.unclean_load.specs.declared.heads.Heads.{Heads}
use Rattle.unclean_load.specs.Accepted.{FailsBy, IsFaultOf, ParentFails, StoreFails, SuperAt}
use Rattle.unclean_load.specs.Claiming.{AreChains, IsInTwo, IsTwice, IsRecoveryFault}
use Rattle.unclean_load.specs.Heads.{AreWhole}
use Rattle.unclean_load.specs.Quick.{AreHeads, IsFaultFound, ShowsBy}
use Rattle.unclean_load.specs.Parents.{ShowsParentFirst}
use Rattle.unclean_load.specs.Reading.{AreRead, IsChainOf}
use Rattle.unclean_load.proofs.PlaceSays.{apart}

-- ---- chains

module _ (s : Super) (metas : Metas) (chains : Chains) (read : AreRead s metas chains) where
  one_chain : (head : ℕ) (pages : List ℕ) (o : Option Meta) → metas head ≡ o → chains head ≡ Some pages
      → (head < s.md_len) × IsChainOf s.md_len head pages
  one_chain head pages None none there = let no = read.none head none in absurd (cc (no, there))
  one_chain head pages (Some m) is there =
      let x = read.chain head m is in
      let same : x.0 ≡ pages = let both = sym x.1 ∙ there in cc both in
      ((read.stored head m is).low, subst (λ (ps : List ℕ). IsChainOf s.md_len head ps) same x.2)

  -- the chains that were read are chains of the region
  pub read_chains : AreChains s.md_len chains
  read_chains head pages there = one_chain head pages (metas head) refl there

-- ---- places in two chains

module _ (look : Look) (r : MdRegion) (heads : Heads) (metas : Metas) (chains : Chains)
    (whole : AreWhole look r heads metas chains) where
  -- where the heads are whole, no place is in two chains
  pub not_twice : (head : ℕ) (why : ChainFault) → IsTwice (IsInTwo chains) head why → ⊥
  not_twice head (chain.Loop place) x =
      x.differs (apart look r heads metas chains whole x.other head place x.others x.pages x.other_chain x.chain
      x.other_among x.among)
  not_twice head (chain.LinkPastEnd a b) x = x
  not_twice head chain.ReadFault x = x
  not_twice head (chain.Unsound a) x = x
  not_twice head (chain.WrongId a b) x = x
  not_twice head (chain.WrongSequence a b d) x = x
  not_twice head (chain.BadItem a b d) x = x
  not_twice head chain.Memory x = x

-- ---- the image of a store

-- an image that says metadata holds it as that of its store, and so does one that is the same
pub holds_metadata : {D : Type 0} (d : Ghosts D) (before after : D) (s : Super) (metas : Metas) (chains : Chains)
    → SuperAt (d.pages before) (d.now before) s → s.device_pages ≡ d.pages before
    → Says (region_of s) metas chains (d.now before) → d.now after ≡ d.now before
    → HoldsMetadata s metas chains (d.now after)
holds_metadata d before after s metas chains at pages says same =
    let image = d.now before in
    subst (HoldsMetadata s metas chains) (sym same) (record {
      store = record {
        faultless = subst (λ n. super_fault (image 0) n ≡ None) (sym pages) at.faultless;
        same = subst (λ n. IsSameStore s (super_of (image 0) n)) (sym pages) (subst (IsSameStore s) at.is refl);
      };
      says = says;
    })

-- ---- faults of an image

module _ (pages : ℕ) (image : Image) (s : Super) (at : SuperAt pages image s) where
  by_shown : (why : LoadFault) → ((x : ShowsBy s image why) → FailsBy s image x.heads why) → ShowsBy s image why
      → StoreFails pages image why
  by_shown why fails x = record { sup = s; super_at = at; heads = x.heads; are = x.are; fails = fails x }

  -- the first fault that a head shows is one of the image
  pub heads_fail : (why : LoadFault) → IsFaultFound s image why → IsFaultOf pages image why
  heads_fail (fault.Super e) x = absurd x.shows.shows
  heads_fail fault.ReadFault x = tt
  heads_fail fault.Memory x = tt
  heads_fail (fault.Chain head e) x = by_shown (fault.Chain head e) (λ y. y.shows) x
  heads_fail (fault.Meta head e) x = by_shown (fault.Meta head e) (λ y. y.shows) x
  heads_fail (fault.MapsTooLarge slots) x = by_shown (fault.MapsTooLarge slots) (λ y. y.shows) x
  heads_fail (fault.NoParentBlob blob parent) x = absurd x.shows.shows
  heads_fail (fault.WritableParent blob parent) x = absurd x.shows.shows
  heads_fail (fault.ParentLoop blob) x = absurd x.shows.shows
  heads_fail (fault.Shared cluster a b) x = absurd x.shows.shows
  heads_fail (fault.NoRoom head has wants) x = absurd x.shows.shows

-- heads by which all are whole
module _ (pages : ℕ) (image : Image) (s : Super) (at : SuperAt pages image s) (heads : Heads)
    (are : AreHeads s image heads) where
  shown : (why : LoadFault) → FailsBy s image heads why → StoreFails pages image why
  shown why x = record { sup = s; super_at = at; heads = heads; are = are; fails = x }

  module _ (metas : Metas) (chains : Chains)
      (whole : AreWhole (look_of (region_of s) image) (region_of s) heads metas chains) where
    parents_fail : (why : LoadFault) → ShowsParentFirst (resolved metas) why → ParentFails s image heads why
    parents_fail why x = record { metas = metas; chains = chains; whole = whole; shows = x }

    -- a fault of what is resolved is one of the image too
    pub recovery_fails : (why : LoadFault) → IsRecoveryFault s.md_len metas chains why → IsFaultOf pages image why
    recovery_fails (fault.Chain head why) x =
        absurd (not_twice (look_of (region_of s) image) (region_of s) heads metas chains whole head why x)
    recovery_fails (fault.NoParentBlob blob parent) x =
        shown (fault.NoParentBlob blob parent) (parents_fail (fault.NoParentBlob blob parent) x)
    recovery_fails (fault.WritableParent blob parent) x =
        shown (fault.WritableParent blob parent) (parents_fail (fault.WritableParent blob parent) x)
    recovery_fails (fault.ParentLoop blob) x =
        shown (fault.ParentLoop blob) (parents_fail (fault.ParentLoop blob) x)
    recovery_fails (fault.Shared cluster a b) x =
        shown (fault.Shared cluster a b)
        (record { metas = metas; chains = chains; whole = whole; parents = x.0; shared = x.1 })
    recovery_fails fault.Memory x = tt
    recovery_fails fault.ReadFault x = absurd x
    recovery_fails (fault.Super e) x = absurd x
    recovery_fails (fault.Meta head e) x = absurd x
    recovery_fails (fault.MapsTooLarge slots) x = absurd x
    recovery_fails (fault.NoRoom head has wants) x = absurd x
