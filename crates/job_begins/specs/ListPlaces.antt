-- What a store knows of places in memory where a job of several replacements begins.
use Rattle.std.specs.Prelude.{ℕ, ◌+◌, ◌-◌, ◌<◌, ◌^◌, Option, IsSome}
use Rattle.std.specs.FinMap as map
use Rattle.running_store.specs.Blobs.{Blobs}
use Rattle.running_store.specs.Places.{HasPlace}

-- For a snapshot of the blob at a head, made at another: there is room for its chain, its mark, its attributes and its
-- metadata. The volume has a chain and a generation, and the snapshot may have one; three numbers are left.
pub record HasSnapshotPlaces (b : Blobs) (of head : ℕ) (chain_room mark_room live_room shown_room : Option ℕ)
    : Type 0 where
  pub new : IsSome chain_room
  pub chain : HasPlace b.chains head chain_room
  pub mark : HasPlace b.marked head mark_room
  pub live : HasPlace b.live head live_room
  pub shown : HasPlace b.metas head shown_room
  pub chained : IsSome (map.get b.chains of)
  pub numbered : IsSome (map.get b.guards.generations of)
  pub few : map.len b.guards.generations < b.guards.room
  pub left : b.guards.drawn + 3 < 2 ^ 64

-- For a delete of the blob at a head, with a clone at another: there is room for its mark. Both have chains, and the
-- clone has a generation; a number is left.
pub record HasDeletePlaces (b : Blobs) (of clone : ℕ) (mark_room : Option ℕ) : Type 0 where
  pub mark : HasPlace b.marked of mark_room
  pub chained : IsSome (map.get b.chains of)
  pub chained_too : IsSome (map.get b.chains clone)
  pub numbered : IsSome (map.get b.guards.generations clone)
  pub left : b.guards.drawn < 2 ^ 64 - 1
