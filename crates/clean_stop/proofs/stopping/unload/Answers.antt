use Rattle.std.proofs.Common.{Result, Ok, Err}
use Rattle.std.specs.Prelude.{OnOk}
use Rattle.clean_stop.proofs.Places.{masks_placed}
use Rattle.clean_stop.proofs.Unloading.{is_unloaded, unloading}
use Rattle.clean_stop.proofs.stopping.unload.Goals as goal

pub returns-clause-any_moment : goal.returns-clause-any_moment
returns-clause-any_moment g c =
    let s = c.args.sup.now in
    let r = c.replace_super.ensures in
    unloading g.D.PageDisk g.met.D.PageDisk.telling s c.args.masks.now c.requires.masks
    (masks_placed s c.requires.faultless (c.regions_are_placed.ensures s c.requires.faultless)) c.args.disk.now
    c.write_masks.new.disk c.replace_super.new.disk c.write_masks.ensures.only c.in_ok-write_masks.ensures.masks r.read
    r.any_moment

-- what follows at Ok
at_ok : {T E A B : Type 0} (r : Result T E) → (A → B) → OnOk r A → OnOk r B
at_ok (Ok x) f a = f a
at_ok (Err e) f a = a

pub returns-clause-unloaded : goal.returns-clause-unloaded
returns-clause-unloaded g c told dirty =
    let d = g.D.PageDisk in
    let s = c.args.sup.now in
    let r = c.replace_super.ensures in
    at_ok c.replace_super.result
    (is_unloaded s c.args.masks.now c.requires.masks
    (masks_placed s c.requires.faultless (c.regions_are_placed.ensures s c.requires.faultless))
    (d.now c.args.disk.now) (d.now c.write_masks.new.disk) (c.write_masks.ensures.only.now told)
    (c.in_ok-write_masks.ensures.masks told) r.read (d.now c.replace_super.new.disk))
    (r.replaced told)
