-- What is read of a store behind its super block.
use Rattle.std.proofs.Common.{◌≡◌, ℕ, ◌+◌, ◌*◌, ◌≤◌, Bool, subst, arith}
use Rattle.page_disk.specs.Disk.{Image}
use Rattle.page_disk.specs.declared.disk.PageDisk.{Ghosts}
use Rattle.store_model.specs.Maps.{Metas, Chains}
use Rattle.super_block.specs.declared.page.Super.{Super}
use Rattle.unclean_load.specs.declared.fault.LoadFault.{LoadFault}
use Rattle.unclean_load.specs.declared.fault.LoadFault.TheVariants as fault
use Rattle.unclean_load.specs.Accepted.{IsFaultOf, IsSuperFault}
use Rattle.unclean_load.specs.Claiming.{IsRecoveryFault}
use Rattle.unclean_load.specs.Quick.{IsFaultFound, IsReadBy}
use Rattle.unclean_load.specs.Reading.{IsOnlyFault}
use Rattle.unclean_load.specs.Reads.{all_mask_pages, most_reads}

module _ {D : Type 0} (d : Ghosts D) (before first : D) (same : d.now first ≡ d.now before) (s : Super) where
  -- what was read once the super block was is read of the device as it was
  pub read_first : (quick : Bool) (metas : Metas) (chains : Chains) → IsReadBy quick s (d.now first) metas chains
      → IsReadBy quick s (d.now before) metas chains
  read_first quick metas chains x = subst (λ (image : Image). IsReadBy quick s image metas chains) same x

  -- and so is a fault
  pub fault_first : (why : LoadFault) → IsFaultFound s (d.now first) why → IsFaultFound s (d.now before) why
  fault_first why x = subst (λ (image : Image). IsFaultFound s image why) same x

-- ---- causes

-- a fault of the super block is one of the image
pub super_fails : (pages : ℕ) (image : Image) (why : LoadFault) → IsSuperFault pages image why
    → IsFaultOf pages image why
super_fails pages image (fault.Super e) x = x
super_fails pages image fault.ReadFault x = tt
super_fails pages image fault.Memory x = absurd x
super_fails pages image (fault.Chain head e) x = absurd x
super_fails pages image (fault.Meta head e) x = absurd x
super_fails pages image (fault.MapsTooLarge slots) x = absurd x
super_fails pages image (fault.NoParentBlob blob parent) x = absurd x
super_fails pages image (fault.WritableParent blob parent) x = absurd x
super_fails pages image (fault.ParentLoop blob) x = absurd x
super_fails pages image (fault.Shared cluster a b) x = absurd x
super_fails pages image (fault.NoRoom head has wants) x = absurd x

-- no read is needed to resolve what was read
pub recovery_only : (md_len : ℕ) (metas : Metas) (chains : Chains) (old new : ℕ) → new ≡ old → (why : LoadFault)
    → IsRecoveryFault md_len metas chains why → IsOnlyFault old new why
recovery_only md_len metas chains old new same fault.ReadFault x = absurd x
recovery_only md_len metas chains old new same (fault.NoRoom head has wants) x = absurd x
recovery_only md_len metas chains old new same fault.Memory x = same
recovery_only md_len metas chains old new same (fault.Super e) x = same
recovery_only md_len metas chains old new same (fault.Chain head e) x = same
recovery_only md_len metas chains old new same (fault.Meta head e) x = same
recovery_only md_len metas chains old new same (fault.MapsTooLarge slots) x = same
recovery_only md_len metas chains old new same (fault.NoParentBlob blob parent) x = same
recovery_only md_len metas chains old new same (fault.WritableParent blob parent) x = same
recovery_only md_len metas chains old new same (fault.ParentLoop blob) x = same
recovery_only md_len metas chains old new same (fault.Shared cluster a b) x = same

-- the reads of a load, with that of the super block
pub reads_behind : (old first new : ℕ) (s t : Super) → s ≡ t → first ≤ old + 1
    → new ≤ first + all_mask_pages s + 4 * s.md_len → new ≤ old + most_reads t
reads_behind old first new s t is one more =
    subst (λ (u : Super). new ≤ old + most_reads u) is (omega (arith, one, more))
