use Rattle.std.proofs.Common.{◌≡◌, ◌≤◌, ◌-◌, map}
use Rattle.serde_json.specs.View.{view}
use Rattle.listing_text.specs.Json.{volume_data}
use Rattle.listing_text.specs.Listing.{volumes_below}
use Rattle.listing_text.proofs.objects.volumes_value.Given as goal

abbrev pub invariant-loop-head : goal.invariant-loop-head
invariant-loop-head l =
    (l.from ≤ l.sup.md_len) × (map view l.volumes.items ≡ map volume_data (volumes_below l.sup l.metas l.from))

abbrev pub decreases-loop-head : goal.decreases-loop-head
decreases-loop-head l = l.sup.md_len - l.from
