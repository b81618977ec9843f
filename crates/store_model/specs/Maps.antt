-- Finite maps from heads, as functions: those of a store.
use Rattle.std.specs.Prelude.{◌≡◌, ◌≢◌, ℕ, ◌==◌, if◌then◌else◌, Option, List}
use Rattle.shown_volumes.specs.Maps.{Map}
pub use Rattle.shown_volumes.specs.Maps.{Map, Metas, with_entry, without_entry}

-- the places of each blob's chain, by its head
abbrev pub Chains : Type 0
Chains = Map (List ℕ)

-- the map with one entry given or gone
abbrev pub with_option : {X : Type 0} → Map X → ℕ → Option X → Map X
with_option m head o = λ q. if q == head then o else m q

-- one entry is another, or new, or gone
pub record Changed {X : Type 0} (old : Map X) (head : ℕ) (entry : Option X) (new : Map X) : Type 0 where
  pub here : new head ≡ entry
  pub elsewhere : (q : ℕ) → q ≢ head → new q ≡ old q
