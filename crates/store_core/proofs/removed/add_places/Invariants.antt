use Rattle.store_core.proofs.PlacesAdded.{AddsPlaces}
use Rattle.store_core.proofs.removed.add_places.Given as goal

-- the places so far are added
abbrev pub invariant-loop-place : goal.invariant-loop-place
invariant-loop-place l = AddsPlaces l.fn.bits l.places l.place-index l.bits
