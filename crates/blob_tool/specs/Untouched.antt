-- A device that is handed back as it was, or as it was read.
use Rattle.std.specs.Prelude.{◌≡◌, IsTrue}
use Rattle.page_disk.specs.declared.disk.PageDisk as disk
use Rattle.md_chain.specs.Reading.{OnlyRead}
use Rattle.unclean_load.specs.Accepted.{IsAccepted, IsFaultOf, IsImageFault}
use Rattle.unclean_load.specs.declared.fault.LoadFault.{LoadFault}

-- nothing is printed, and the device that is handed back is the one that was handed in
pub record NothingDone {D K : Type 0} (out out_now : K) (before back : D) : Type 0 where
  pub quiet : out_now ≡ out
  pub device : back ≡ before

module _ {D : Type 0} (d : disk.Ghosts D) (before : D) where
  -- nothing is printed, and the device was read at most
  pub record NothingWritten {K : Type 0} (out out_now : K) (back : D) : Type 0 where
    pub quiet : out_now ≡ out
    pub device : OnlyRead d before back

  -- The image isn't accepted, and this is its first fault. No read failed.
  pub record IsRefused (back : D) (why : LoadFault) : Type 0 where
    pub of_image : IsImageFault why
    pub first : IsTrue d.tells → IsFaultOf (d.pages before) (d.now before) why
    pub refused : IsTrue d.tells → IsAccepted (d.pages before) (d.now before) → ⊥
    pub no_fault : d.read_faults back ≡ d.read_faults before
