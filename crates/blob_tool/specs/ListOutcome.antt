-- What `list` came to, by its status.
use Rattle.std.specs.Prelude.{◌≡◌, ℕ, ◌++◌, IsTrue}
use Rattle.page_disk.specs.Disk.{Rose}
use Rattle.page_disk.specs.declared.disk.PageDisk as disk
use Rattle.running_store.specs.declared.loaded.Loaded.{Loaded}
use Rattle.unclean_load.specs.declared.fault.LoadFault.{LoadFault}
use Rattle.listing_text.specs.Formats.{listing_text}
use Rattle.listing_text.specs.declared.format.ListFormat.{ListFormat}
use Rattle.streams.specs.Printing.{IsPartOf}
use Rattle.streams.specs.declared.sink.Sink as sink
use Rattle.blob_tool.specs.Found.{IsFound}
use Rattle.blob_tool.specs.Untouched.{IsRefused, NothingWritten}
use Rattle.blob_tool.specs.declared.status.Status.{Status}
use Rattle.blob_tool.specs.declared.status.Status.TheVariants as status

module _ {D : Type 0} (d : disk.Ghosts D) (before back : D) where
  -- the store of the device was loaded, and the device is handed back as the load left it, which only read it
  pub record IsListed : Type 0 where
    pub loaded : Loaded D
    pub found : IsFound d before loaded
    pub device : back ≡ loaded.disk

  module _ {K : Type 0} (k : sink.Ghosts K) (out out_now : K) where
    -- the image isn't accepted, and this is its first fault
    abbrev pub IsUnlisted : LoadFault → Type 0
    IsUnlisted fault = NothingWritten d before out out_now back × IsRefused d before back fault

    -- a read of the device failed
    abbrev pub IsUnreadable : ℕ → Type 0
    IsUnreadable at =
        NothingWritten d before out out_now back × (at ≡ 0) × Rose (d.read_faults before) (d.read_faults back)

    module _ (format : ListFormat) where
      -- the store's text in this format was printed
      pub record IsPrintedListing : Type 0 where
        pub listed : IsListed
        pub printed : IsTrue k.tells → k.written out_now ≡ k.written out ++ listing_text format listed.loaded

      -- a part of it, from its beginning, and the sink failed
      pub record IsUnprintedListing : Type 0 where
        pub listed : IsListed
        pub part : IsTrue k.tells
            → IsPartOf (k.written out) (k.written out_now) (listing_text format listed.loaded)
        pub cause : Rose (k.faults out) (k.faults out_now)

      -- what each status says
      abbrev pub ListEnded : Status → Type 0
      ListEnded status.Good = IsPrintedListing
      ListEnded status.OutWrite = IsUnprintedListing
      ListEnded (status.Image fault) = IsUnlisted fault
      ListEnded (status.Device at) = IsUnreadable at
      ListEnded status.Memory = NothingWritten d before out out_now back
      ListEnded _ = ⊥
