-- What was read of a store, and what recovery makes of it, whatever the device tells.
use Rattle.std.specs.Prelude.{◌≡◌, ◌^◌, ◌≤◌, List}
use Rattle.std.specs.Option.{option_and_then, option_map}
use Rattle.std.specs.Ordering.{nat_cmp}
use Rattle.std.specs.FinMap as map
use Rattle.super_block.specs.declared.page.Super.{Super}
use Rattle.super_block.specs.declared.masks.Masks.{Masks}
use Rattle.blob_meta.specs.declared.meta.Meta.{Meta}
use Rattle.blob_meta.specs.declared.job.Replacement.{Replacement}
use Rattle.blob_meta.specs.Repairs.{removed, repairs}
use Rattle.blob_meta.specs.Resolving.{IsLawful, mark_of, resolved, slots_together}
use Rattle.store_model.specs.Maps.{Metas, Chains}
use Rattle.store_model.specs.RunInvariant.{HaveChains}
use Rattle.store_model.specs.Steady.{AreNamed, AreStored}
use Rattle.running_store.specs.declared.loaded.Loaded.{Loaded}
use Rattle.running_store.specs.LoadedWhole.{AreMasks}
pub use Rattle.running_store.specs.StoreView.{base_of}

-- the blobs with a mark, as they are
abbrev pub marked_blobs : Metas → Metas
marked_blobs metas head = option_and_then (λ m. option_map (λ _. m) (mark_of m)) (metas head)

-- the chains of the blobs that are there
abbrev pub chains_of : Metas → Chains → Chains
chains_of metas chains head = option_and_then (λ _. chains head) (metas head)

-- The store can hold the blobs that were read, each has its chain, and they have at most 2^24 slots together. Recovery
-- makes this metadata of them, by these repairs; it is lawful, and each SNAP in it names a head. The masks are what
-- the blobs that stay claim.
pub record IsRecovered (s : Super) (read : Metas) (links : Chains) (metas gone marked_too : map.FinMap nat_cmp Meta)
    (list : List Replacement) (used : Masks) : Type 0 where
  pub stored : AreStored s read
  pub chains : HaveChains s read links
  pub few : slots_together s.md_len read ≤ 2 ^ 24
  pub resolves : resolved read ≡ map.get metas
  pub removes : removed read ≡ map.get gone
  pub marks : marked_blobs read ≡ map.get marked_too
  pub repairs_are : list ≡ repairs s.md_len read
  pub named : AreNamed (resolved read)
  pub lawful : IsLawful s.md_len (resolved read)
  pub masks : AreMasks s (resolved read) (chains_of (resolved read) links) used

-- The store as it was loaded is what recovery makes of this metadata.
abbrev pub IsLoadedFrom : {D : Type 0} → Metas → Loaded D → Type 0
IsLoadedFrom read loaded = IsRecovered loaded.sup read (map.get loaded.chains) loaded.metas loaded.removed loaded.marked
    loaded.repairs loaded.masks
