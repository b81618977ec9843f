use Rattle.std.proofs.Common.{◌≡◌, ℕ, ◌≤◌, ◌+◌, subst, sym, ◌∙◌, arith}
use Rattle.bit_array.specs.Mask.{mask_pages}
use Rattle.clean_stop.proofs.Places.{masks_placed}
use Rattle.clean_stop.proofs.Written.{page_mask_written, cluster_mask_written, blob_mask_written, masks_there}
use Rattle.clean_stop.proofs.masks.write_masks.Goals as goal

-- a mask ends on the device
inside : (start bits len pages device : ℕ) → len ≡ bits → device ≤ pages → start + mask_pages bits ≤ device
    → start + mask_pages len ≤ pages
inside start bits len pages device few least le =
    subst (λ (n : ℕ). start + mask_pages n ≤ pages) (sym few) (omega (arith, le, least))

pub write_mask-requires : goal.write_mask-requires
write_mask-requires g c =
    let s = c.args.sup.now in
    let placed = masks_placed s c.requires.faultless (c.regions_are_placed.ensures s c.requires.faultless) in
    inside _ _ _ _ _ c.requires.masks.pages c.requires.device placed.pages_end

pub write_mask-requires-2 : goal.write_mask-requires-2
write_mask-requires-2 g c =
    let s = c.args.sup.now in
    let placed = masks_placed s c.requires.faultless (c.regions_are_placed.ensures s c.requires.faultless) in
    inside _ _ _ _ _ c.requires.masks.clusters
    (subst (λ n. s.device_pages ≤ n) (sym c.write_mask.ensures.only.pages) c.requires.device) placed.clusters_end

pub write_mask-requires-3 : goal.write_mask-requires-3
write_mask-requires-3 g c =
    let s = c.args.sup.now in
    let placed = masks_placed s c.requires.faultless (c.regions_are_placed.ensures s c.requires.faultless) in
    inside _ _ _ _ _ c.requires.masks.blobs
    (subst (λ n. s.device_pages ≤ n) (sym (c.write_mask-2.ensures.only.pages ∙ c.write_mask.ensures.only.pages))
    c.requires.device) placed.blobs_end

pub returns-in_err-write_mask-clause-only : goal.returns-in_err-write_mask-clause-only
returns-in_err-write_mask-clause-only g c =
    page_mask_written g.D.PageDisk g.met.D.PageDisk.telling c.args.sup.now c.args.masks.now c.requires.masks
    c.args.disk.now c.write_mask.new.disk c.write_mask.ensures.only

pub returns-in_err-write_mask-2-clause-only : goal.returns-in_err-write_mask-2-clause-only
returns-in_err-write_mask-2-clause-only g c =
    cluster_mask_written g.D.PageDisk g.met.D.PageDisk.telling c.args.sup.now c.args.masks.now c.requires.masks
    c.args.disk.now c.write_mask.new.disk c.write_mask.ensures.only c.write_mask-2.new.disk c.write_mask-2.ensures.only

pub returns-in_err-write_mask-3-clause-only : goal.returns-in_err-write_mask-3-clause-only
returns-in_err-write_mask-3-clause-only g c =
    blob_mask_written g.D.PageDisk g.met.D.PageDisk.telling c.args.sup.now c.args.masks.now c.requires.masks
    c.args.disk.now c.write_mask.new.disk c.write_mask.ensures.only c.write_mask-2.new.disk c.write_mask-2.ensures.only
    c.write_mask-3.new.disk c.write_mask-3.ensures.only

pub returns-clause-only : goal.returns-clause-only
returns-clause-only g c =
    blob_mask_written g.D.PageDisk g.met.D.PageDisk.telling c.args.sup.now c.args.masks.now c.requires.masks
    c.args.disk.now c.write_mask.new.disk c.write_mask.ensures.only c.write_mask-2.new.disk c.write_mask-2.ensures.only
    c.write_mask-3.new.disk c.write_mask-3.ensures.only

pub returns-clause-masks : goal.returns-clause-masks
returns-clause-masks g c told =
    let s = c.args.sup.now in
    let placed = masks_placed s c.requires.faultless (c.regions_are_placed.ensures s c.requires.faultless) in
    masks_there g.D.PageDisk g.met.D.PageDisk.telling s c.args.masks.now c.requires.masks c.args.disk.now
    c.write_mask.new.disk c.write_mask.ensures.only c.write_mask-2.new.disk c.write_mask-2.ensures.only
    c.write_mask-3.new.disk c.write_mask-3.ensures.only placed told (c.in_ok-write_mask.ensures.mask told)
    (c.in_ok-write_mask-2.ensures.mask told) (c.in_ok-write_mask-3.ensures.mask told)
