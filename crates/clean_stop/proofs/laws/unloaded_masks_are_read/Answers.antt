use Rattle.clean_stop.proofs.Places.{masks_placed}
use Rattle.clean_stop.proofs.Supers.{faultless_with}
use Rattle.clean_stop.proofs.Read.{says_masks, one_reading}
use Rattle.clean_stop.proofs.laws.unloaded_masks_are_read.Goals as goal

pub returns-clause-read : goal.returns-clause-read
returns-clause-read c s masks image none fit has =
    says_masks c.masks_read_back.ensures.bits c.masks_read_back.ensures.head s masks image
    (c.regions_are_placed.ensures s none) fit has

pub returns-clause-one : goal.returns-clause-one
returns-clause-one c = one_reading

pub returns-clause-apart : goal.returns-clause-apart
returns-clause-apart c s none = (masks_placed s none (c.regions_are_placed.ensures s none)).apart

pub returns-clause-faultless : goal.returns-clause-faultless
returns-clause-faultless c = faultless_with
