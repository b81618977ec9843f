-- What a replacement of a blob's metadata makes of a store.
use Rattle.std.specs.Prelude.{ℕ, ◌+◌, if◌then◌else◌, Bool, false, List, [], ◌∷◌, length, slice_set}
use Rattle.std.specs.Option.{option_map_or}
use Rattle.store_model.specs.Guarding.{all_renewed}
use Rattle.store_model.specs.Maps.{Map, without_entry}
use Rattle.store_model.specs.Phases.{rechained, replaced, Replacing}
use Rattle.store_model.specs.Places.{all_set}
use Rattle.store_model.specs.StoreState.{StoreState}

-- the blob that a replacement makes, which gets a generation
abbrev pub made_by : Replacing → List ℕ
made_by r = if r.makes then r.head ∷ [] else []

-- the generations behind it, with which these blobs get the next numbers: one that is erased has none any more
abbrev pub generations_with : Map ℕ → ℕ → Replacing → List ℕ → Map ℕ
generations_with generations drawn r heads =
    all_renewed (option_map_or (λ new. generations) r.new (without_entry generations r.head)) drawn heads

-- the pages in use behind it: the head's page of a blob that is erased is clear in this same turn
abbrev pub pages_with : List Bool → Replacing → List Bool
pages_with pages r = option_map_or (λ new. pages) r.new (slice_set pages r.head false)

-- What a replacement makes of the store: the blob's metadata and chain are the new ones, the clusters are clear that no
-- map has any more, and these blobs are renewed. The attributes of the volumes are read as they were.
abbrev pub with_replaced : StoreState → Replacing → List ℕ → StoreState
with_replaced p r heads = record p {
  base = replaced p.base r;
  chains = rechained p.chains r;
  clusters = all_set p.clusters r.freed false;
  pages = pages_with p.pages r;
  generations = generations_with p.generations p.drawn r heads;
  drawn = p.drawn + length heads;
}
