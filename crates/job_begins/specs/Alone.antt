-- The clusters of a blob that no other blob has.
use Rattle.std.specs.Prelude.{◌≡◌, ◌≢◌, ℕ, ◌<◌, Bool, true, false, List, Option, Some, IsSome}
use Rattle.bit_array.specs.Bits.{is_in}
use Rattle.blob_meta.specs.declared.meta.Meta.{Meta}
use Rattle.blob_meta.specs.Faults.{clusters_held}
use Rattle.md_chain.specs.Chain.{is_among}
use Rattle.store_model.specs.Maps.{Metas}

-- all clusters of the blobs are below a number
abbrev pub HaveRoom : Metas → ℕ → Type 0
HaveRoom base count =
    (head : ℕ) (m : Meta) (c : ℕ) → base head ≡ Some m → is_among c (clusters_held m.map) ≡ true → c < count

-- each blob has a chain
abbrev pub AreChained : Metas → (ℕ → Option (List ℕ)) → Type 0
AreChained base chains = (head : ℕ) (m : Meta) → base head ≡ Some m → IsSome (chains head)

-- Some blob below a place, other than that at a head, has the cluster.
pub record IsMappedBeside (end : ℕ) (base : Metas) (head cluster : ℕ) : Type 0 where
  pub other : ℕ
  pub low : other < end
  pub apart : other ≢ head
  pub meta : Meta
  pub there : base other ≡ Some meta
  pub among : is_among cluster (clusters_held meta.map) ≡ true

-- a cluster of a map that a set doesn't have
abbrev pub IsMissing : List Bool → List (Option ℕ) → ℕ → Type 0
IsMissing bits map c = (is_among c (clusters_held map) ≡ true) × (is_in bits c ≡ false)
