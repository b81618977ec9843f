-- How far clusters are put into slots, one after another.
use Rattle.std.proofs.Common.{◌≡◌, ℕ, ◌<◌, true, List, length, get_or, drop, ◌∙◌}
use Rattle.std.proofs.Common.{All, Bool, ap, arith, inl, inr}
use Rattle.std.proofs.lemmas.Bool.{both_ways, cases_lt}
use Rattle.bit_array.specs.Bits.{is_in}
use Rattle.blob_meta.specs.declared.meta.Meta.{Meta}
use Rattle.store_model.specs.Jobs.{with_clusters}
use Rattle.store_model.specs.Places.{AreLeastClear}
use Rattle.store_model.proofs.Sets.{were_clear}
use Rattle.running_store.proofs.Cleared.{among_get}

-- so many have their clusters
pub record Fills (m : Meta) (slots clusters : List ℕ) (i : ℕ) (now : Meta) : Type 0 where
  pub so_far : with_clusters now (drop i slots) (drop i clusters) ≡ with_clusters m slots clusters
  pub long : length now.map ≡ length m.map

-- where place 0 is in use it isn't among the least clear ones
pub some_claimed : (bits : List Bool) (claimed : List ℕ) → is_in bits 0 ≡ true → AreLeastClear bits claimed
    → All (λ cluster. 0 < cluster) claimed
some_claimed bits claimed first least k d lt =
    let x = get_or claimed k d in
    let was = were_clear bits claimed least x (among_get claimed k d lt) in
    elim (cases_lt 0 x) [
      | inl some ↦ some
      | inr none ↦
          let zero : x ≡ 0 = omega (arith, none) in
          absurd (both_ways (is_in bits x) was.clear (ap (is_in bits) zero ∙ first))
    ]
