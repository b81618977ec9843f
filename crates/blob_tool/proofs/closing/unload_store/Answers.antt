use Rattle.std.proofs.Common.{⊎_elim, ap, inl, inr}
use Rattle.std.proofs.lemmas.Result.{on_ok_weaker}
use Rattle.page_disk.specs.Disk.{Image}
use Rattle.page_disk.proofs.Moments.{weaker}
use Rattle.blob_tool.proofs.ClosingImages.{before_closes, left_clean, unloading_closes}
use Rattle.blob_tool.proofs.closing.unload_store.Goals as goal

pub returns-else-sup-eq1-clause-any_moment : goal.returns-else-sup-eq1-clause-any_moment
returns-else-sup-eq1-clause-any_moment g c told =
    let d = g.D.PageDisk in
    let s = c.args.sup.now in
    let masks = c.args.masks.now in
    let old = c.args.disk.now in
    let apart = c.unloaded_masks_are_read.ensures.apart s c.requires.faultless in
    elim c.else-sup-eq1.either [
      | inl trusted ↦
          weaker d old c.unload.new.disk _ _ (c.unload.ensures.only_flushed trusted.0 told)
          (before_closes s masks apart (d.images old))
      | inr dirty ↦
          weaker d old c.unload.new.disk _ _ (c.unload.ensures.any_moment told)
          (unloading_closes s masks apart (d.images old) (d.now old)
          ((g.met.D.PageDisk.telling told).reads_an_image old) dirty)
    ]

pub returns-else-sup-eq1-clause-unloaded : goal.returns-else-sup-eq1-clause-unloaded
returns-else-sup-eq1-clause-unloaded g c told not_trusted =
    on_ok_weaker c.unload.result
    (left_clean c.args.sup.now c.args.masks.now (g.D.PageDisk.now c.args.disk.now)
    (g.D.PageDisk.now c.unload.new.disk))
    (c.unload.ensures.unloaded told (⊎_elim (λ trusted _. not_trusted trusted) (λ dirty. dirty) c.else-sup-eq1.either))

pub returns-else-sup-eq1-clause-same : goal.returns-else-sup-eq1-clause-same
returns-else-sup-eq1-clause-same g c told trusted = c.unload.ensures.same told trusted.0

pub returns-else-sup-eq1-clause-others : goal.returns-else-sup-eq1-clause-others
returns-else-sup-eq1-clause-others g c told =
    let d = g.D.PageDisk in
    elim c.else-sup-eq1.either [
      | inl trusted ↦ on_ok_weaker c.unload.result
          (λ _ page out. ap (λ (i : Image). i page) (c.unload.ensures.same told trusted.0))
          (c.unload.ensures.one_image told)
      | inr dirty ↦ on_ok_weaker c.unload.result (λ x. x.others) (c.unload.ensures.unloaded told dirty)
    ]
