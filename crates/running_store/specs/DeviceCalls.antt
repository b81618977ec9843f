-- What is seen of the device over the calls of a turn, and the page that marks a store as in use.
use Rattle.std.specs.Prelude.{◌≢◌, ℕ, List, Result, Ok, Err}
use Rattle.clean_stop.specs.Stopping.{with_clean}
use Rattle.page_disk.specs.declared.disk.DiskFault.{DiskFault}
use Rattle.super_block.specs.Page.{super_bytes}
use Rattle.super_block.specs.declared.page.Super.{Super}
use Rattle.volume_model.specs.declared.reply.Reply.{Reply}
use Rattle.volume_model.specs.declared.reply.Reply.TheVariants as r
use Rattle.store_model.specs.Cases.CopyNotRead.{IsNotRead}
use Rattle.store_model.specs.Cases.Read.{IsRead}
use Rattle.store_model.specs.Device.{Device}

-- what is seen of the device over one read at most, whatever reply other than a fault follows where it was done
abbrev pub IsReadSo : {T : Type 0} → Device → Device → Result T DiskFault → Type 0
IsReadSo old new (Ok x) = (reply : Reply) → reply ≢ r.ReadFault → IsRead old new reply
IsReadSo old new (Err e) = IsNotRead old new

-- the page by which the super block of a store says that the store is in use
abbrev pub mark_page : Super → List ℕ
mark_page s = super_bytes (with_clean 0 s)
