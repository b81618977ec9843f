-- Why the store of a device isn't loaded.
use Rattle.std.specs.Prelude.{◌≡◌}
use Rattle.page_disk.specs.Disk.{Rose}
use Rattle.page_disk.specs.declared.disk.PageDisk as disk
use Rattle.blob_tool.specs.Untouched.{IsRefused}
use Rattle.blob_tool.specs.declared.status.Status.{Status}
use Rattle.blob_tool.specs.declared.status.Status.TheVariants as status

-- the image isn't accepted, and this is its first fault; or a read of the device failed; or memory ran out
abbrev pub IsNotLoaded : {D : Type 0} → disk.Ghosts D → D → D → Status → Type 0
IsNotLoaded d before back (status.Image fault) = IsRefused d before back fault
IsNotLoaded d before back (status.Device at) = (at ≡ 0) × Rose (d.read_faults before) (d.read_faults back)
IsNotLoaded d before back status.Memory = Unit {0}
IsNotLoaded d before back _ = ⊥
