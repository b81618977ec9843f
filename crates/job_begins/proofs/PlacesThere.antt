-- New metadata of a blob that is there, with which nothing is done besides, takes no place in memory.
use Rattle.std.proofs.Common.{◌≡◌, ℕ, List, None, Some, IsSome}
use Rattle.std.specs.FinMap as map
use Rattle.blob_meta.specs.declared.meta.Meta.{Meta}
use Rattle.blob_meta.specs.Resolving.{mark_of}
use Rattle.running_store.specs.Blobs.{Blobs, HasPlaces}
use Rattle.job_begins.specs.Begins.{no_effects}
use Rattle.job_begins.proofs.EntryPlaces.{place_aside, place_plain}

-- where the store has it in memory, and it gets no mark,
pub places_there : (b : Blobs) (head : ℕ) (new : Meta) → mark_of new ≡ None → IsSome (map.get b.chains head)
    → IsSome (map.get b.metas head) → HasPlaces b head new no_effects
places_there b head new unmarked chain there = record {
  rooms = record { chain = chain; meta = place_plain b head new None unmarked there };
  commit = record { live_fits = tt; shown_fits = tt; numbers = tt };
}

-- or where it is kept aside, and stays so
pub places_aside : (b : Blobs) (head : ℕ) (new : Meta) (mark : List ℕ) → mark_of new ≡ Some mark
    → IsSome (map.get b.chains head) → IsSome (map.get b.marked head) → HasPlaces b head new no_effects
places_aside b head new mark is chain there = record {
  rooms = record { chain = chain; meta = place_aside b head new mark None is there };
  commit = record { live_fits = tt; shown_fits = tt; numbers = tt };
}
