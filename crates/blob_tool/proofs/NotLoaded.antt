-- Why a store isn't loaded, by the fault of its load.
use Rattle.std.proofs.Common.{◌≡◌, refl}
use Rattle.page_disk.specs.declared.disk.PageDisk as disk
use Rattle.unclean_load.specs.Accepted.{IsImageFault}
use Rattle.unclean_load.specs.Reading.{IsOnlyFault}
use Rattle.unclean_load.specs.declared.fault.LoadFault.{LoadFault}
use Rattle.unclean_load.specs.declared.fault.LoadFault.TheVariants as loading
use Rattle.blob_tool.specs.Loading.{IsNotLoaded}
use Rattle.blob_tool.specs.Statuses.{of_loading}
use Rattle.blob_tool.specs.Untouched.{IsRefused}

module _ {D : Type 0} (d : disk.Ghosts D) (before back : D) where
  -- a store that wasn't loaded
  pub not_loaded : (fault : LoadFault) → IsOnlyFault (d.read_faults before) (d.read_faults back) fault
      → (IsImageFault fault → d.read_faults back ≡ d.read_faults before → IsRefused d before back fault)
      → IsNotLoaded d before back (of_loading fault)
  not_loaded loading.ReadFault counted refused = (refl, counted)
  not_loaded loading.Memory counted refused = tt
  not_loaded (loading.Super why) counted refused = refused tt counted
  not_loaded (loading.Chain head why) counted refused = refused tt counted
  not_loaded (loading.Meta head why) counted refused = refused tt counted
  not_loaded (loading.MapsTooLarge slots) counted refused = refused tt counted
  not_loaded (loading.NoParentBlob blob parent) counted refused = refused tt counted
  not_loaded (loading.WritableParent blob parent) counted refused = refused tt counted
  not_loaded (loading.ParentLoop blob) counted refused = refused tt counted
  not_loaded (loading.Shared cluster a b) counted refused = refused tt counted
  not_loaded (loading.NoRoom head has wants) counted refused = absurd counted
