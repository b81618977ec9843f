-- Listings whose numbers fit into 64 bits, as those of any store do.
use Rattle.std.specs.Prelude.{◌<◌, ◌^◌, IfSome}
use Rattle.std.specs.List.{AllByRecursion}
use Rattle.listing_text.specs.Listing.{Listing, StoreFacts, VolumeFacts}

pub record FitsStore (s : StoreFacts) : Type 0 where
  pub cluster_size : s.cluster_size < 2 ^ 64
  pub clusters : s.space.clusters < 2 ^ 64
  pub free_clusters : s.space.free_clusters < 2 ^ 64
  pub pages : s.space.pages < 2 ^ 64
  pub free_pages : s.space.free_pages < 2 ^ 64

pub record FitsVolume (v : VolumeFacts) : Type 0 where
  pub head : v.blob.head < 2 ^ 64
  pub slots : v.slots < 2 ^ 64
  pub own : v.own < 2 ^ 64
  pub parent : IfSome v.parent (λ head. head < 2 ^ 64)

pub record FitsListing (l : Listing) : Type 0 where
  pub store : FitsStore l.store
  pub super_blob : IfSome l.super_blob (λ blob. blob.head < 2 ^ 64)
  pub volumes : AllByRecursion FitsVolume l.volumes
