-- How changes of metadata are laid on pages.
use Rattle.std.specs.Prelude.{◌≡◌, ◌⊎◌, ℕ, ◌+◌, ◌<◌, ◌≤◌, if◌then◌else◌, Bool, true, false, List, [], ◌∷◌, length, map}
use Rattle.std.specs.Prelude.{Option, Some, None, is_some}
use Rattle.pools.specs.Pool.{clear_in}
use Rattle.descriptors.specs.declared.item.Item.{Item}
use Rattle.super_block.specs.declared.page.Super.{Super}
use Rattle.super_block.specs.Numbers.{fixed_clusters_of}
use Rattle.volume_model.specs.Volumes.{zero_page}
use Rattle.blob_meta.specs.declared.meta.Meta.{Meta}
use Rattle.blob_meta.specs.declared.job.Replacement.{Replacement}
use Rattle.blob_meta.specs.Items.{IsItemsOf}
use Rattle.md_chain.specs.Chain.{is_among}
use Rattle.md_chain.specs.Packing.{parts_of}
use Rattle.md_chain.specs.Planned.{chain_pages}
use Rattle.md_chain.specs.declared.plan.PlannedPage.{PlannedPage}
use Rattle.store_model.specs.Maps.{Metas, Chains, with_option}
use Rattle.store_model.specs.Regions.{region_of}
use Rattle.store_model.specs.Scans.{MetaAt}
use Rattle.store_model.specs.Places.{all_set, AreLeastClear, IsMapped}
use Rattle.store_model.specs.Phases.{Replacing, page_in, taken_by, replaced, rechained, chain_before}

-- how many fresh pages the metadata needs: those of its chain but for the head
pub record Needs (new : Meta) (count : ℕ) : Type 0 where
  pub items : List Item
  pub are : IsItemsOf new items
  pub chain : length (parts_of items) ≡ count + 1

-- Fewer pages are clear than the metadata of a blob needs, which is there or new: a new one needs one for its head too.
pub record LacksPages (there : Bool) (new : Meta) (bits : List Bool) : Type 0 where
  pub count : ℕ
  pub needs : Needs new count
  pub lacking : clear_in bits < (if there then count else count + 1)

-- so many pages are taken for new metadata, the head's among them where no blob is there, and none for an erased blob
abbrev pub Takes : Bool → Option Meta → ℕ → Type 0
Takes there (Some new) count = (fresh : ℕ) × Needs new fresh × (count ≡ (if there then fresh else fresh + 1))
Takes there None count = count ≡ 0

-- So many are taken for replacements, each over what the one before it leaves.
abbrev pub AllTake : Metas → List Replacement → ℕ → Type 0
AllTake base [] count = count ≡ 0
AllTake base (x ∷ xs) count =
    (first : ℕ) × (others : ℕ) × Takes (is_some (base x.head)) x.new first
    × AllTake (with_option base x.head x.new) xs others × (count ≡ first + others)

-- fewer pages are clear than the replacements take
pub record LacksPagesFor (base : Metas) (list : List Replacement) (bits : List Bool) : Type 0 where
  pub count : ℕ
  pub take : AllTake base list count
  pub lacking : clear_in bits < count

-- The planned pages are just those on which the items of the new metadata are packed.
pub record IsPacked (new : Meta) (head : ℕ) (fresh : List ℕ) (planned : List PlannedPage) : Type 0 where
  pub items : List Item
  pub are : IsItemsOf new items
  pub pages : planned ≡ chain_pages items head fresh

-- the places of planned pages
abbrev pub places_of : List PlannedPage → List ℕ
places_of plan = map (λ x. x.place) plan

-- New metadata is packed on the blob's head and on the least clear pages, as many as it needs, and is read from these.
pub record IsPlannedFor (s : Super) (pages : List Bool) (new : Meta) (r : Replacing) : Type 0 where
  pub needs : Needs new (length r.fresh)
  pub least : AreLeastClear pages (taken_by r)
  pub packed : IsPacked new r.head r.fresh r.planned
  pub places : places_of r.planned ≡ r.head ∷ r.fresh
  pub says : MetaAt (page_in r.planned) (region_of s) r.head new (r.head ∷ r.fresh)

-- A blob that is there is erased: nothing but a page of zeros is laid, over its head's.
abbrev pub IsErasure : Replacing → Type 0
IsErasure r = (r.fresh ≡ []) × (r.makes ≡ false) × (r.planned ≡ record { place = r.head; page = zero_page } ∷ [])

-- new metadata is packed on pages, and an erased blob has none
abbrev pub IsJobPlanned : Super → List Bool → Option Meta → Replacing → Type 0
IsJobPlanned s pages (Some new) r = IsPlannedFor s pages new r
IsJobPlanned s pages None r = IsErasure r

-- The clusters in maps before and after a replacement: one that no map has any more is freed, and one that none had was
-- claimed.
pub record MovesClusters (s : Super) (base later : Metas) (freed claimed : List ℕ) : Type 0 where
  pub kept : (cluster : ℕ) → IsMapped base cluster → IsMapped later cluster ⊎ (is_among cluster freed ≡ true)
  pub let_go : (cluster : ℕ) → is_among cluster freed ≡ true
      → (fixed_clusters_of s ≤ cluster) × IsMapped base cluster × ¬ IsMapped later cluster
  pub gained : (cluster : ℕ) → IsMapped later cluster → IsMapped base cluster ⊎ (is_among cluster claimed ≡ true)
  pub filled : (cluster : ℕ) → is_among cluster claimed ≡ true → IsMapped later cluster

-- A replacement over this metadata and these chains, laid on pages of these that are clear.
pub record IsLaid (s : Super) (base : Metas) (chains : Chains) (pages : List Bool) (claimed : List ℕ) (x : Replacement)
    (r : Replacing) : Type 0 where
  pub head : r.head ≡ x.head
  pub new : r.new ≡ x.new
  pub chain : chains r.head ≡ chain_before r
  -- where the blob is new nothing is erased
  pub unerased : r.makes ≡ true → r.old ≡ []
  pub planned : IsJobPlanned s pages x.new r
  pub clusters : MovesClusters s base (replaced base r) r.freed claimed

-- each over what the one before it leaves
abbrev pub AreLaid : Super → Metas → Chains → List Bool → List ℕ → List Replacement → List Replacing → Type 0
AreLaid s base chains pages claimed [] [] = Unit {0}
AreLaid s base chains pages claimed (x ∷ xs) (r ∷ rs) =
    IsLaid s base chains pages claimed x r
    × AreLaid s (replaced base r) (rechained chains r) (all_set pages (taken_by r) true) [] xs rs
AreLaid s base chains pages claimed _ _ = ⊥
