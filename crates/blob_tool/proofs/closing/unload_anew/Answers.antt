use Rattle.std.proofs.Common.{◌≡◌, subst, sym, ap, ◌∙◌}
use Rattle.std.proofs.lemmas.Result.{on_ok_weaker}
use Rattle.clean_stop.specs.Masks.{MasksFit}
use Rattle.clean_stop.specs.Stopping.{with_clean, IsUnloaded, IsUnloading}
use Rattle.page_disk.proofs.Moments.{joined, weaker}
use Rattle.super_block.specs.Numbers.{clusters_of}
use Rattle.super_block.specs.declared.masks.Masks.{Masks}
use Rattle.super_block.specs.declared.page.Super.{Super}
use Rattle.blob_tool.specs.Closing.{Closing}
use Rattle.blob_tool.proofs.ClosingImages.{marked_left, marked_stays, marked_unloading_closes, marking_closes}
use Rattle.blob_tool.proofs.closing.unload_anew.Goals as goal

pub returns-in_err-mark_dirty-clause-any_moment : goal.returns-in_err-mark_dirty-clause-any_moment
returns-in_err-mark_dirty-clause-any_moment g c told =
    let d = g.D.PageDisk in
    let s = c.args.sup.now in
    weaker d c.args.disk.now c.mark_dirty.new.disk _ _ (c.mark_dirty.ensures.any_moment told)
    (marking_closes s c.args.masks.now (c.unloaded_masks_are_read.ensures.apart s c.requires.faultless)
    (d.images c.args.disk.now) (d.now c.args.disk.now) _
    ((g.met.D.PageDisk.telling told).reads_an_image c.args.disk.now)
    c.mark_dirty.ensures.read)

-- the masks fit a store whether it is clean or not
fit_marked : (s : Super) (masks : Masks) → MasksFit s masks → MasksFit (with_clean 0 s) masks
unfolding clusters_of
fit_marked s masks fit = record { pages = fit.pages; clusters = fit.clusters; blobs = fit.blobs }

pub unload-requires-clause-masks : goal.unload-requires-clause-masks
unload-requires-clause-masks g c =
    subst (λ (s : Super). MasksFit s c.args.masks.now) (sym c.in_ok-mark_dirty.ensures.dirty)
    (fit_marked c.args.sup.now c.args.masks.now c.requires.masks)

pub returns-clause-any_moment : goal.returns-clause-any_moment
returns-clause-any_moment g c told =
    let d = g.D.PageDisk in
    let s = c.args.sup.now in
    let masks = c.args.masks.now in
    let apart = c.unloaded_masks_are_read.ensures.apart s c.requires.faultless in
    let held = (g.met.D.PageDisk.telling told).reads_an_image c.args.disk.now in
    let mid = c.mark_dirty.new.disk in
    joined d c.args.disk.now mid c.unload.new.disk _ _ (Closing s masks (d.images c.args.disk.now))
    (c.mark_dirty.ensures.any_moment told) (c.unload.ensures.any_moment told)
    (marking_closes s masks apart (d.images c.args.disk.now) (d.now c.args.disk.now) _ held c.mark_dirty.ensures.read)
    (λ other left.
    marked_unloading_closes s masks apart (d.images c.args.disk.now) (d.images mid) (d.now c.args.disk.now) (d.now mid)
    _ held c.mark_dirty.ensures.read (c.in_ok-mark_dirty.ensures.marked told)
    (c.in_ok-mark_dirty.ensures.one_image told) other
    (subst (λ (t : Super). IsUnloading t masks (d.images mid) (d.now mid) other) c.in_ok-mark_dirty.ensures.dirty left))

pub returns-clause-unloaded : goal.returns-clause-unloaded
returns-clause-unloaded g c told =
    let s = c.args.sup.now in
    let masks = c.args.masks.now in
    let d = g.D.PageDisk in
    let mid = c.mark_dirty.new.disk in
    let dirty = c.in_ok-mark_dirty.ensures.dirty in
    on_ok_weaker c.unload.result
    (λ x. marked_left s masks (d.now mid) (d.now c.unload.new.disk)
    (subst (λ (t : Super). IsUnloaded t masks (d.now mid) (d.now c.unload.new.disk)) dirty x))
    (c.unload.ensures.unloaded told
    (λ bad. let zero : 0 ≡ 1 = sym (ap (λ (t : Super). t.clean) dirty) ∙ bad in cc zero))

pub returns-clause-others : goal.returns-clause-others
returns-clause-others g c told =
    let s = c.args.sup.now in
    let masks = c.args.masks.now in
    let d = g.D.PageDisk in
    let mid = c.mark_dirty.new.disk in
    let dirty = c.in_ok-mark_dirty.ensures.dirty in
    on_ok_weaker c.unload.result
    (λ x. marked_stays s masks (d.now c.args.disk.now) (d.now mid) (d.now c.unload.new.disk)
    (c.mark_dirty.ensures.elsewhere told)
    (subst (λ (t : Super). IsUnloaded t masks (d.now mid) (d.now c.unload.new.disk)) dirty x))
    (c.unload.ensures.unloaded told
    (λ bad. let zero : 0 ≡ 1 = sym (ap (λ (t : Super). t.clean) dirty) ∙ bad in cc zero))
