-- A listing has no number but natural ones.
use Rattle.std.proofs.Common.{◌≡◌, ℕ, false, List, [], ◌∷◌, Option, Some, None, map, refl}
use Rattle.serde_json.specs.View.{items_of}
use Rattle.serde_json.specs.Written.{has_float, items_have_float}
use Rattle.listing_text.specs.Json.{data_of, parent_data, super_data, volume_data}
use Rattle.listing_text.specs.Listing.{BlobFacts, Listing, VolumeFacts}

parent_whole : (parent : Option ℕ) → has_float (parent_data parent) ≡ false
parent_whole None = refl
parent_whole (Some head) = refl

super_whole : (blob : Option BlobFacts) → has_float (super_data blob) ≡ false
super_whole None = refl
super_whole (Some blob) = refl

volume_whole : (v : VolumeFacts) → has_float (volume_data v) ≡ false
volume_whole v = rw (parent_whole v.parent) refl

volumes_whole : (vs : List VolumeFacts) → items_have_float (items_of (map volume_data vs)) ≡ false
volumes_whole [] = refl
volumes_whole (v ∷ vs) = rw (volume_whole v) (volumes_whole vs)

-- so its text is that of its data
pub no_float : (l : Listing) → has_float (data_of l) ≡ false
no_float l = rw (super_whole l.super_blob, volumes_whole l.volumes) refl
