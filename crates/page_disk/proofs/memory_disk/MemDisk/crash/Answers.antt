use Rattle.std.proofs.Common.{◌≡◌, ◌∙◌, ap, sym, subst, List}
use Rattle.page_disk.specs.Disk.{Image}
use Rattle.page_disk.specs.Record.{Recorded, base_image, image_of, images_of, ImagesFrom}
use Rattle.page_disk.specs.Crash.{crash_image, left_after}
use Rattle.page_disk.specs.declared.record.Call.{Call}
use Rattle.page_disk.proofs.RecordBegun.{one_left, reads_base}
use Rattle.page_disk.proofs.memory_disk.MemDisk.crash.Goals as goal

reads : (c : goal.In_ok-disk) → image_of c.in_ok-disk.disk ≡ base_image c.in_ok-base.base.entries
reads c =
    reads_base c.in_ok-disk.disk (ap (λ (m : Recorded). m.calls) c.in_ok-disk.ensures)
    ∙ ap (λ (m : Recorded). base_image m.base) c.in_ok-disk.ensures

pub returns-clause-picked : goal.returns-clause-picked
returns-clause-picked c =
    let base = base_image c.self.inside.base.entries in
    reads c ∙ c.in_ok-base.ensures.picked
    ∙ ap (λ (l : List Call). left_after c.args.pick base base l) c.deref.ensures.value
    ∙ ap (λ (m : Recorded). crash_image c.args.pick m) c.self.view_is

pub returns-clause-image : goal.returns-clause-image
returns-clause-image c =
    let left = base_image c.in_ok-base.base.entries in
    subst (λ (i : Image). images_of c.args.self.now i) (sym (reads c))
    (subst (λ (m : Recorded). images_of m left) c.self.view_is
    (subst (λ (l : List Call). ImagesFrom
    (base_image c.self.inside.base.entries) l left) c.deref.ensures.value c.in_ok-base.ensures.image))

pub returns-clause-one : goal.returns-clause-one
returns-clause-one c = one_left c.in_ok-disk.disk (ap (λ (m : Recorded). m.calls) c.in_ok-disk.ensures)
