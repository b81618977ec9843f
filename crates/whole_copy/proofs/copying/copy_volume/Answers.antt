use Rattle.std.proofs.Common.{◌∙◌, List, sym, subst}
use Rattle.page_disk.specs.Disk.{Image}
use Rattle.volume_model.specs.Volumes.{Page}
use Rattle.whole_copy.specs.Meant.{pages_shown}
use Rattle.whole_copy.specs.Copied.{HoldsSo}
use Rattle.whole_copy.proofs.CopySteps.{one_more, ok_then, read_on}
use Rattle.whole_copy.proofs.copying.copy_volume.Goals as goal

pub loop-page-preserved : goal.loop-page-preserved
loop-page-preserved g c =
    let was = c.loop-page.invariant in
    let r = c.in-Ok.ensures in
    let w = c.write_page.ensures in
    let d = g.D.PageDisk in
    let pages : Image → List Page = λ image. pages_shown c.args.sup.now c.args.metas.now image c.args.volume.now.head in
    record {
      so_far =
          λ of_image of_target. one_more (pages (d.now c.args.disk.now)) c.loop-page.page
          (g.E.PageDisk.now c.args.target.now) (g.E.PageDisk.now c.loop-page.target)
          (g.E.PageDisk.now c.write_page.new.disk) (was.so_far of_image of_target) c.in-Ok.content
          (subst (λ image. HoldsSo (pages image) c.loop-page.page c.in-Ok.content) (was.same.now of_image)
          (r.content of_image))
          (ok_then c.write_page.result _ (sym c.is_err.ensures.value ∙ c.if-is_err.false) (w.written of_target));
      same = read_on d c.args.disk.now c.loop-page.disk c.read_shown.new.disk was.same r.same;
      reads = r.no_fault ∙ was.reads;
      writes = ok_then c.write_page.result _ (sym c.is_err.ensures.value ∙ c.if-is_err.false) w.no_fault ∙ was.writes;
      room = w.pages ∙ was.room;
      read_faults = w.read_faults ∙ was.read_faults;
    }
