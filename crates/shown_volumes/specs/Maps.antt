-- Finite maps from heads, as functions.
use Rattle.std.specs.Prelude.{ℕ, ◌==◌, if◌then◌else◌, Option, None, Some}
use Rattle.blob_meta.specs.declared.meta.Meta.{Meta}

abbrev pub Map : Type 0 → Type 0
Map X = ℕ → Option X

-- the metadata of each blob, by its head
abbrev pub Metas : Type 0
Metas = Map Meta

-- the map with one entry given
abbrev pub with_entry : {X : Type 0} → Map X → ℕ → X → Map X
with_entry m head x = λ q. if q == head then Some x else m q

-- the map with one entry gone
abbrev pub without_entry : {X : Type 0} → Map X → ℕ → Map X
without_entry m head = λ q. if q == head then None else m q
