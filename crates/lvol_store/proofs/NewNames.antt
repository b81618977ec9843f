-- The attributes of a new volume, by the uuid that is made for it.
use Rattle.std.proofs.Common.{◌≡◌, ℕ, List, Option, Some, sym, ap, ◌∙◌}
use Rattle.std.specs.Option.{option_map_or}
use Rattle.volume_model.specs.Uuids.{default_uuid}
use Rattle.volume_model.specs.Xattrs.{Text}
use Rattle.volume_model.specs.Volumes.{Fixed, store_uuid, two_xattrs, Volumes}

-- they are those of the uuid that was given, or else of the name's in the store's
pub named_new : (f : Fixed) (v : Volumes) (name : Text) (given : Option (List ℕ)) (store uuid : List ℕ)
    → store_uuid f v ≡ store → uuid ≡ option_map_or (λ bytes. bytes) given (default_uuid store name)
    → two_xattrs f v name (Some uuid) ≡ two_xattrs f v name given
named_new f v name given store uuid stored is =
    ap (λ uuid. two_xattrs f v name (Some uuid))
    (is ∙ ap (λ store. option_map_or (λ bytes. bytes) given (default_uuid store name)) (sym stored))
