-- What an export came to.
use Rattle.std.proofs.Common.{◌≡◌, ◌∙◌, ℕ, Option, Some, inl, refl, sym, subst}
use Rattle.std.specs.FinMap as map
use Rattle.std.specs.Ordering.{nat_cmp}
use Rattle.page_disk.specs.Disk.{Image, Rose}
use Rattle.page_disk.specs.declared.disk.PageDisk as disk
use Rattle.super_block.specs.declared.page.Super.{Super}
use Rattle.volume_model.specs.declared.command.VolumeRef.{VolumeRef}
use Rattle.blob_meta.specs.declared.meta.Meta.{Meta}
use Rattle.md_chain.specs.Reading.{OnlyRead}
use Rattle.running_store.specs.Recovered.{base_of, IsLoadedFrom}
use Rattle.running_store.specs.declared.loaded.Loaded.{Loaded}
use Rattle.store_model.proofs.Resolved.{resolved_stored}
use Rattle.streams.specs.declared.sink.Sink as sink
use Rattle.blob_report.specs.declared.export.ExportLine.{ExportLine}
use Rattle.blob_report.specs.declared.export.ExportLine.TheVariants as line
use Rattle.whole_copy.specs.Meant.{AreHeld, pages_shown}
use Rattle.whole_copy.specs.Copied.{BeginsWith, HasFailed, IsLeft}
use Rattle.whole_copy.specs.declared.copying.CopyFault.{CopyFault}
use Rattle.whole_copy.specs.declared.copying.CopyFault.TheVariants.{Image as OfImage, Target}
use Rattle.blob_tool.specs.ExportOutcome.{ExportEnded, ExportTold, IsCutOff}
use Rattle.blob_tool.specs.Loading.{IsNotLoaded}
use Rattle.blob_tool.specs.Untouched.{NothingWritten}
use Rattle.blob_tool.specs.declared.status.Status.{Status}
use Rattle.blob_tool.specs.declared.status.Status.TheVariants as status

-- the store can hold the metadata that it was loaded with
pub held_as_loaded : {D : Type 0} (loaded : Loaded D) → IsLoadedFrom (base_of loaded.metas loaded.marked) loaded
    → AreHeld loaded.sup loaded.metas
held_as_loaded loaded recovered head m there =
    resolved_stored loaded.sup (base_of loaded.metas loaded.marked) recovered.stored head m
    (subst (λ (b : ℕ → Option Meta). b head ≡ Some m) (sym recovered.resolves) there)

-- a copy from a device that had only been read is one from the device before
module _ (s : Super) (metas : map.FinMap nat_cmp Meta) (reference : VolumeRef) {D : Type 0} (d : disk.Ghosts D)
    (before mid : D) (same : OnlyRead d before mid) {E : Type 0} (e : disk.Ghosts E) (target target_now : E) where
  pub told_before : (l : ExportLine) → ExportTold s metas reference d mid e target target_now l
      → ExportTold s metas reference d before e target target_now l
  told_before (line.Exported pages) told = record {
    volume = told.volume;
    meant = told.meant;
    long = told.long;
    copied = λ t u. subst (λ (i : Image). BeginsWith (pages_shown s metas i told.volume.head) (e.now target)
        (e.now target_now)) (same.now t) (told.copied t u);
    lasting = told.lasting;
  }
  told_before line.NoVolume told = told
  told_before line.OutOfRange told = told

  pub cut_before : d.read_faults mid ≡ d.read_faults before → (back : D)
      → IsCutOff s metas reference d mid e target target_now back
      → IsCutOff s metas reference d before e target target_now back
  cut_before quiet back cut = record {
    volume = cut.volume;
    meant = cut.meant;
    left = λ t u. subst (λ (i : Image). IsLeft (pages_shown s metas i cut.volume.head) (e.now target)
        (e.now target_now)) (same.now t) (cut.left t u);
    fault = cut.fault;
    cause = by cut.fault cut.cause;
  }
    where
      by : (fault : CopyFault) → HasFailed d mid back e target target_now fault
          → HasFailed d before back e target target_now fault
      by OfImage why = (subst (λ n. Rose n (d.read_faults back)) quiet why.0, why.1)
      by Target why = (why.0, why.1 ∙ quiet)

-- a store that wasn't loaded
module _ {D : Type 0} (d : disk.Ghosts D) (before back : D) {E : Type 0} (e : disk.Ghosts E) (target : E)
    (reference : VolumeRef) {K : Type 0} (k : sink.Ghosts K) (out : K) where
  pub not_exported : (st : Status) → NothingWritten d before out out back → IsNotLoaded d before back st
      → ExportEnded d before back e target target reference k out out st
  not_exported (status.Image fault) stays why = ((stays, why), refl)
  not_exported (status.Device at) stays why = inl ((stays, why.0, why.1), refl)
  not_exported status.Memory stays why = (stays, refl)
  not_exported status.Good stays why = absurd why
  not_exported status.OutWrite stays why = absurd why
  not_exported status.Usage stays why = absurd why
  not_exported (status.Script line kind) stays why = absurd why
  not_exported status.ScriptRead stays why = absurd why
