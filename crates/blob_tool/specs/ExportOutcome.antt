-- What `export` came to, by its status.
use Rattle.std.specs.Prelude.{◌≡◌, ◌⊎◌, ◌<◌, ℕ, ◌++◌, IsTrue}
use Rattle.std.specs.Ordering.{nat_cmp}
use Rattle.std.specs.FinMap as map
use Rattle.page_disk.specs.Disk.{Only, Rose}
use Rattle.page_disk.specs.declared.disk.PageDisk as disk
use Rattle.super_block.specs.declared.page.Super.{Super}
use Rattle.volume_model.specs.declared.command.VolumeRef.{VolumeRef}
use Rattle.blob_meta.specs.declared.meta.Meta.{Meta}
use Rattle.running_store.specs.declared.loaded.Loaded.{Loaded}
use Rattle.whole_copy.specs.Meant.{IsMeant, NoneIsMeant, pages_shown}
use Rattle.whole_copy.specs.Copied.{BeginsWith, HasFailed, IsLeft}
use Rattle.whole_copy.specs.declared.copying.CopyFault.{CopyFault}
use Rattle.whole_copy.specs.declared.finding.MeantVolume.{MeantVolume}
use Rattle.blob_report.specs.ExportText.{export_text}
use Rattle.blob_report.specs.declared.export.ExportLine.{ExportLine}
use Rattle.blob_report.specs.declared.export.ExportLine.TheVariants as line
use Rattle.streams.specs.Printing.{IsPartOf}
use Rattle.streams.specs.declared.sink.Sink as sink
use Rattle.blob_tool.specs.Found.{IsFound}
use Rattle.blob_tool.specs.ListOutcome.{IsUnlisted, IsUnreadable}
use Rattle.blob_tool.specs.Untouched.{NothingWritten}
use Rattle.blob_tool.specs.declared.status.Status.{Status}
use Rattle.blob_tool.specs.declared.status.Status.TheVariants as status

module _ (s : Super) (metas : map.FinMap nat_cmp Meta) (reference : VolumeRef) where
  -- why nothing is written to a target of so many pages: no volume is meant, or it has more pages
  abbrev pub IsNotExported : ℕ → ExportLine → Type 0
  IsNotExported room (line.Exported pages) = ⊥
  IsNotExported room line.NoVolume = NoneIsMeant s metas reference
  IsNotExported room line.OutOfRange =
      (volume : MeantVolume) × IsMeant s metas reference volume × (room < volume.pages)

  module _ {D : Type 0} (d : disk.Ghosts D) (before : D) {E : Type 0} (e : disk.Ghosts E) (target target_now : E)
    where
      -- The volume that is meant has so many pages. The target begins with what the image shows of it, also after a
      -- crash, and every other page is as it was.
      pub record IsExported (pages : ℕ) : Type 0 where
        pub volume : MeantVolume
        pub meant : IsMeant s metas reference volume
        pub long : volume.pages ≡ pages
        pub copied : IsTrue d.tells → IsTrue e.tells
            → BeginsWith (pages_shown s metas (d.now before) volume.head) (e.now target) (e.now target_now)
        pub lasting : IsTrue e.tells → Only (e.now target_now) (e.images target_now)

      -- what each line tells
      abbrev pub ExportTold : ExportLine → Type 0
      ExportTold (line.Exported pages) = IsExported pages
      ExportTold other = IsNotExported (e.pages target) other × (target_now ≡ target)

      -- One of the two devices failed, and the other didn't: some of the first pages are the volume's, and all others are
      -- as they were, but the one whose write failed.
      pub record IsCutOff (back : D) : Type 0 where
        pub volume : MeantVolume
        pub meant : IsMeant s metas reference volume
        pub left : IsTrue d.tells → IsTrue e.tells
            → IsLeft (pages_shown s metas (d.now before) volume.head) (e.now target) (e.now target_now)
        pub fault : CopyFault
        pub cause : HasFailed d before back e target target_now fault

module _ {D : Type 0} (d : disk.Ghosts D) (before back : D) {E : Type 0} (e : disk.Ghosts E) (target target_now : E)
    (reference : VolumeRef) {K : Type 0} (k : sink.Ghosts K) (out out_now : K) where
  -- the store of the image was loaded, and this line tells what came of it
  pub record HasTold (line : ExportLine) : Type 0 where
    pub loaded : Loaded D
    pub found : IsFound d before loaded
    pub told : ExportTold loaded.sup loaded.metas reference d before e target target_now line

  -- it was printed
  pub record IsPrintedExport : Type 0 where
    pub line : ExportLine
    pub told : HasTold line
    pub printed : IsTrue k.tells → k.written out_now ≡ k.written out ++ export_text line

  -- a part of it, from its beginning, and the sink failed
  pub record IsUnprintedExport : Type 0 where
    pub line : ExportLine
    pub told : HasTold line
    pub part : IsTrue k.tells → IsPartOf (k.written out) (k.written out_now) (export_text line)
    pub cause : Rose (k.faults out) (k.faults out_now)

  -- the store was loaded, and then a device failed
  pub record IsCutOffExport (at : ℕ) : Type 0 where
    pub at_is : at ≡ 0
    pub quiet : out_now ≡ out
    pub loaded : Loaded D
    pub found : IsFound d before loaded
    pub cut_off : IsCutOff loaded.sup loaded.metas reference d before e target target_now back

  -- what each status says
  abbrev pub ExportEnded : Status → Type 0
  ExportEnded status.Good = IsPrintedExport
  ExportEnded status.OutWrite = IsUnprintedExport
  ExportEnded (status.Image fault) = IsUnlisted d before back k out out_now fault × (target_now ≡ target)
  ExportEnded (status.Device at) =
      (IsUnreadable d before back k out out_now at × (target_now ≡ target)) ⊎ IsCutOffExport at
  ExportEnded status.Memory = NothingWritten d before out out_now back × (target_now ≡ target)
  ExportEnded _ = ⊥
