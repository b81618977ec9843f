use Rattle.listing_laws.proofs.OneText.{one_listing}
use Rattle.listing_laws.proofs.json_is_of_one_listing.Goals as goal

pub returns : goal.returns
returns c = one_listing
