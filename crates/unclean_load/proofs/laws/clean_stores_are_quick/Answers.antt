use Rattle.std.proofs.Common.{ap, ◌∙◌}
use Rattle.crc32c.specs.Crc.{is_sound}
use Rattle.super_block.specs.Faults.{IsFaultless, fault_of}
use Rattle.super_block.specs.declared.page.Super.{Super}
use Rattle.store_model.specs.Regions.{look_of, region_of}
use Rattle.unclean_load.proofs.Accepting.{accepted_unloaded, faultless_by}
use Rattle.unclean_load.proofs.PlaceSays.{scan_of_set}
use Rattle.unclean_load.proofs.Quick.{is_quick, masks_fit, no_head_beside}
use Rattle.unclean_load.proofs.laws.clean_stores_are_quick.Goals as goal

pub returns-clause-quick : goal.returns-clause-quick
returns-clause-quick c s masks image metas chains fine clean has says few claims =
    let law = c.unloaded_masks_are_read.ensures in
    let read = law.read s masks image fine (masks_fit s masks image metas chains says few claims) has in (
      is_quick s masks image metas chains says few claims clean read,
      no_head_beside s masks image metas chains says few claims clean read
          (λ other is. law.one s other masks image is read),
    )

pub returns-clause-accepted : goal.returns-clause-accepted
returns-clause-accepted c s masks image metas chains can clean has claims =
    let fine : IsFaultless s =
    faultless_by (is_sound (image 0)) s
    (ap (λ (t : Super). fault_of (is_sound (image 0)) t) can.is ∙ can.faultless) in
    let read =
    c.unloaded_masks_are_read.ensures.read s masks image fine
    (masks_fit s masks image metas chains can.says can.few claims) has in (
      accepted_unloaded c.regions_are_placed.ensures s image metas chains can masks clean read claims,
      is_quick s masks image metas chains can.says can.few claims clean read,
      no_head_beside s masks image metas chains can.says can.few claims clean read
          (λ other is. c.unloaded_masks_are_read.ensures.one s other masks image is read),
    )

pub returns-clause-listed : goal.returns-clause-listed
returns-clause-listed c s image places metas chains whole none =
    scan_of_set (look_of (region_of s) image) (region_of s) metas chains places whole none
