-- What a crash may leave at the start of a run, and what images that stand come back to.
use Rattle.std.proofs.Common.{◌≡◌, ℕ, List, [], ◌∷◌, None, refl, sym, ap, subst, ◌∙◌}
use Rattle.std.proofs.Common.{arith, IsTrue}
use Rattle.page_disk.specs.Disk.{Image, Only, Telling}
use Rattle.page_disk.specs.Marks.{MarksKept}
use Rattle.page_disk.specs.declared.disk.PageDisk.{Ghosts}
use Rattle.page_disk.proofs.Marks.{first_mark}
use Rattle.super_block.specs.declared.page.Super.{Super}
use Rattle.super_block.specs.Placed.{IsPlaced}
use Rattle.volume_model.specs.Volumes.{Volumes}
use Rattle.volume_model.specs.declared.command.Command.{Command}
use Rattle.store_model.specs.Device.{Device}
use Rattle.store_model.specs.Recovers.{Recovers}
use Rattle.store_model.specs.StoreState.{StoreState}
use Rattle.store_model.specs.RunInvariant.{RunInvariant}
use Rattle.store_model.specs.Agreeing.{Stands}
use Rattle.store_model.specs.Surviving.{CanBeLoaded, ComesBack, HoldsMetadata, Survives}
use Rattle.store_model.specs.Touches.{device_of, read_now}
use Rattle.store_model.proofs.StateAgrees.{plant_recovers}
use Rattle.store_model.proofs.StandsKept.{stands_now}
use Rattle.store_model.proofs.Over.{CrashLaws}

-- what a device that tells reads
pub told_reads : {D : Type 0} (d : Ghosts D) (disk : D) → IsTrue d.tells → read_now d disk ≡ d.now disk
told_reads d disk told = rw told refl

-- an image that stands as those of a running store do comes back to the whole log
pub stands_whole : {D : Type 0} (d : Ghosts D) → IsTrue d.tells
    → (s : Super) (first : Volumes) (script : ℕ → List Command) (p : StoreState) (disk : D)
    → p.device ≡ device_of d disk → p.tells ≡ d.tells → RunInvariant s first script p → p.stopped ≡ None
    → (image : Image) → Stands s first p.base p.chains p.log (d.now disk) image → Recovers s first p.log image
stands_whole d told s first script p disk is tells facts runs image x =
    plant_recovers s first script p facts (tells ∙ told) runs image
    (subst (λ (now : Image). Stands s first p.base p.chains p.log now image)
    (sym (ap (λ (v : Device). v.reads) is ∙ told_reads d disk told)) x)

pub holds_loaded : (s : Super) (first : Volumes) (script : ℕ → List Command) (p : StoreState)
    → RunInvariant s first script p → (image : Image) → HoldsMetadata s p.base p.chains image → CanBeLoaded s image
holds_loaded s first script p facts image x = record {
  store = x.store;
  metas = p.base;
  chains = p.chains;
  says = x.says;
  stored = facts.stored;
  named = facts.named;
  few = facts.few;
  lawful = facts.lawful;
}

-- ---- at the start

pub survives_start : {D : Type 0} (d : Ghosts D)
    → CrashLaws → IsTrue d.tells → (IsTrue d.tells → Telling d.now d.images d.since d.clock) → (s : Super) → IsPlaced s
    → (first : Volumes) (script : ℕ → List Command) (p : StoreState) (disk : D)
    → p.device ≡ device_of d disk → p.tells ≡ d.tells → p.log ≡ [] → p.marks ≡ d.clock disk ∷ []
    → p.stopped ≡ None → p.job ≡ None → RunInvariant s first script p → Only (d.now disk) (d.images disk)
    → HoldsMetadata s p.base p.chains (d.now disk) → Survives d s first p disk
survives_start d laws told law s placed first script p disk is tells log_is marks_is runs no_job facts one holds =
    let stands = stands_now s first p.base p.chains p.log (d.now disk) holds.store holds.says in
    let recovers = stands_whole d told s first script p disk is tells facts runs (d.now disk) stands in
    let back : ComesBack d s first p disk 0 (d.now disk) = (
      holds_loaded s first script p facts (d.now disk) holds,
      laws.growing.whole s first p.log 0 (d.now disk) (omega arith) recovers,
    ) in
    record {
      any_moment = subst (λ (m : List ℕ). MarksKept d disk m (ComesBack d s first p disk)) (sym marks_is)
          (first_mark d disk (ComesBack d s first p disk) law
          (λ _ c held. subst (ComesBack d s first p disk 0) (sym ((one c).0 held)) back));
      stands = λ _ c held. subst (Stands s first p.base p.chains p.log (d.now disk)) (sym ((one c).0 held)) stands;
      written = λ _ job is. absurd (let e = sym no_job ∙ is in cc e);
      stopped = λ at is. absurd (let e = sym runs ∙ is in cc e);
    }
