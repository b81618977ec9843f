-- The clusters of a map without fault are clusters of the store behind the fixed ones.
pub use Rattle.shown_volumes.proofs.Inside.{IsInside, none_second, none_of_map, passes, inside_slot}
