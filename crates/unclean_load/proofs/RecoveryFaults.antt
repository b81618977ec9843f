-- Each fault that is found once the blobs were read is one of recovery's.
use Rattle.std.proofs.Common.{ℕ}
use Rattle.blob_meta.specs.Resolving.{resolved}
use Rattle.md_chain.specs.declared.fault.ChainFault.{ChainFault}
use Rattle.md_chain.specs.declared.fault.ChainFault.TheVariants as chain
use Rattle.store_model.specs.Maps.{Metas, Chains}
use Rattle.running_store.specs.Recovered.{chains_of}
use Rattle.unclean_load.specs.declared.fault.LoadFault.{LoadFault}
use Rattle.unclean_load.specs.declared.fault.LoadFault.TheVariants as fault
use Rattle.unclean_load.specs.Claiming.{IsInTwo, IsMaskFault, IsPageFault, IsRecoveryFault, IsTwice}
use Rattle.unclean_load.specs.Parents.{HaveRightParents, IsParentFault}
use Rattle.unclean_load.proofs.ChainsOf.{in_two_there}

module _ (md_len : ℕ) (read : Metas) (chains : Chains) where
  twice_there : (metas : Metas) (head : ℕ) (why : ChainFault) → IsTwice (IsInTwo (chains_of metas chains)) head why
      → IsTwice (IsInTwo chains) head why
  twice_there metas head (chain.Loop place) x = in_two_there metas chains head place x
  twice_there metas head (chain.LinkPastEnd a b) x = absurd x
  twice_there metas head chain.ReadFault x = absurd x
  twice_there metas head (chain.Unsound a) x = absurd x
  twice_there metas head (chain.WrongId a b) x = absurd x
  twice_there metas head (chain.WrongSequence a b d) x = absurd x
  twice_there metas head (chain.BadItem a b d) x = absurd x
  twice_there metas head chain.Memory x = absurd x

  -- a place in two chains
  pub pages_fail : (metas : Metas) (why : LoadFault) → IsPageFault (IsInTwo (chains_of metas chains)) why
      → IsRecoveryFault md_len read chains why
  pages_fail metas (fault.Chain head why) x = twice_there metas head why x
  pages_fail metas fault.Memory x = tt
  pages_fail metas fault.ReadFault x = absurd x
  pages_fail metas (fault.Super e) x = absurd x
  pages_fail metas (fault.Meta head e) x = absurd x
  pages_fail metas (fault.MapsTooLarge slots) x = absurd x
  pages_fail metas (fault.NoParentBlob blob parent) x = absurd x
  pages_fail metas (fault.WritableParent blob parent) x = absurd x
  pages_fail metas (fault.ParentLoop blob) x = absurd x
  pages_fail metas (fault.Shared cluster a b) x = absurd x
  pages_fail metas (fault.NoRoom head has wants) x = absurd x

  -- a fault of parents
  pub parents_fail : (why : LoadFault) → IsParentFault (resolved read) why → IsRecoveryFault md_len read chains why
  parents_fail (fault.NoParentBlob blob parent) x = x
  parents_fail (fault.WritableParent blob parent) x = x
  parents_fail (fault.ParentLoop blob) x = x
  parents_fail fault.Memory x = tt
  parents_fail fault.ReadFault x = absurd x.shows
  parents_fail (fault.Super e) x = absurd x.shows
  parents_fail (fault.Chain head e) x = absurd x.shows
  parents_fail (fault.Meta head e) x = absurd x.shows
  parents_fail (fault.MapsTooLarge slots) x = absurd x.shows
  parents_fail (fault.Shared cluster a b) x = absurd x.shows
  parents_fail (fault.NoRoom head has wants) x = absurd x.shows

  -- a cluster in two slots, where there is none of parents
  pub masks_fail : (right : HaveRightParents (resolved read)) (why : LoadFault)
      → IsMaskFault md_len (resolved read) (chains_of (resolved read) chains) why
      → IsRecoveryFault md_len read chains why
  masks_fail right (fault.Chain head why) x = twice_there (resolved read) head why x
  masks_fail right (fault.Shared cluster a b) x = (right, x)
  masks_fail right fault.Memory x = tt
  masks_fail right fault.ReadFault x = absurd x
  masks_fail right (fault.Super e) x = absurd x
  masks_fail right (fault.Meta head e) x = absurd x
  masks_fail right (fault.MapsTooLarge slots) x = absurd x
  masks_fail right (fault.NoParentBlob blob parent) x = absurd x
  masks_fail right (fault.WritableParent blob parent) x = absurd x
  masks_fail right (fault.ParentLoop blob) x = absurd x
  masks_fail right (fault.NoRoom head has wants) x = absurd x
