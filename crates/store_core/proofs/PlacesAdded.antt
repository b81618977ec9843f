-- How far places are added to a set, one after another.
use Rattle.std.proofs.Common.{◌≡◌, ℕ, Bool, true, List, length, drop}
use Rattle.store_model.specs.Places.{all_set}

-- the places before one are added
pub record AddsPlaces (old : List Bool) (places : List ℕ) (i : ℕ) (now : List Bool) : Type 0 where
  pub count : length now ≡ length old
  pub so_far : all_set now (drop i places) true ≡ all_set old places true
