-- Which state an image comes back to: that of a prefix of the log, as far as it survives a crash.
use Rattle.std.specs.Prelude.{◌≡◌, ◌⊎◌, ℕ, ◌^◌, ◌≤◌, List, [], ◌∷◌, ◌++◌, length, take, slice_get, Option, Some, None}
use Rattle.page_disk.specs.Disk.{Image}
use Rattle.super_block.specs.declared.page.Super.{Super}
use Rattle.super_block.specs.Page.{super_of}
use Rattle.super_block.specs.Faults.{super_fault}
use Rattle.volume_model.specs.Volumes.{Volume, Volumes}
use Rattle.volume_model.specs.Steps.{Allowed}
use Rattle.volume_model.specs.Logs.{replay, stable, IsSettled}
use Rattle.volume_model.specs.declared.reply.Reply.{Reply}
use Rattle.volume_model.specs.declared.reply.Reply.TheVariants as r
use Rattle.volume_model.specs.declared.reply.Entry.{Entry}
use Rattle.blob_meta.specs.Resolving.{resolved, slots_together, IsLawful}
use Rattle.store_model.specs.Maps.{Metas, Chains}
use Rattle.store_model.specs.Regions.{region_of}
use Rattle.store_model.specs.Scans.{Says}
use Rattle.store_model.specs.Shown.{fixed_of, shows}

-- the super block of a store, but for whether it was unloaded and for its sum
abbrev pub IsSameStore : Super → Super → Type 0
IsSameStore s t = record s { clean = t.clean; crc = t.crc } ≡ t

-- a page without fault, as the super block of this store
pub record HasStore (s : Super) (image : Image) : Type 0 where
  pub faultless : super_fault (image 0) s.device_pages ≡ None
  pub same : IsSameStore s (super_of (image 0) s.device_pages)

-- the page is the super block of this store without fault, and says that the store is in use
pub record SaysInUse (s : Super) (page : List ℕ) : Type 0 where
  pub faultless : super_fault page s.device_pages ≡ None
  pub same : IsSameStore s (super_of page s.device_pages)
  pub dirty : (super_of page s.device_pages).clean ≡ 0

-- the same volume, but for the content of pages that aren't settled
pub record IsSameBut (settled : ℕ → Type 0) (v w : Volume) : Type 0 where
  pub count : length v.pages ≡ length w.pages
  pub content : (page : ℕ) → settled page → slice_get v.pages page ≡ slice_get w.pages page
  pub rest : record v { pages = [] } ≡ record w { pages = [] }

abbrev pub AgreeAt : (ℕ → Type 0) → Option Volume → Option Volume → Type 0
AgreeAt settled None None = Unit {0}
AgreeAt settled (Some v) (Some w) = IsSameBut settled v w
AgreeAt settled _ _ = ⊥

-- the reply of a verb that changed metadata
abbrev pub IsChangeDone : Reply → Type 0
IsChangeDone r.Ok = Unit {0}
IsChangeDone (r.Made head) = Unit {0}
IsChangeDone _ = ⊥

-- the log from these volumes on
module _ (s : Super) (first : Volumes) where
  -- The entry whose turn failed, among the first n and the next, as if it had been done; behind these n it may be done.
  pub record InProgress (log : List Entry) (n : ℕ) (done : Entry) : Type 0 where
    pub place : ℕ
    pub reached : place ≤ n
    pub failed : slice_get log place ≡ Some (record done { reply = r.Fault })
    pub is_done : IsChangeDone done.reply
    pub allowed : Allowed (fixed_of s) (replay (fixed_of s) first (take n log)) done.command done.reply

  -- volumes that are those of the log as it survives: synced attributes, and the content of settled pages
  abbrev pub AreSynced : List Entry → Volumes → Type 0
  AreSynced log shown =
      (head : ℕ) → AgreeAt (IsSettled (fixed_of s) first log head) (shown head) (stable (fixed_of s) first log head)

  -- The image has this store, and says metadata that resolves to lawful one, which shows the log as it survives. Every
  -- metadata page is read for it.
  pub record Recovers (log : List Entry) (image : Image) : Type 0 where
    pub store : HasStore s image
    pub metas : Metas
    pub chains : Chains
    pub says : Says (region_of s) metas chains image
    pub few : slots_together s.md_len metas ≤ 2 ^ 24
    pub lawful : IsLawful s.md_len (resolved metas)
    pub shown : AreSynced log (shows (fixed_of s) image (resolved metas))

  -- the first n entries, or these and the change in progress
  abbrev pub RecoversAt : List Entry → ℕ → Image → Type 0
  RecoversAt log n image =
      Recovers (take n log) image ⊎ ((done : Entry) × InProgress log n done × Recovers (take n log ++ done ∷ []) image)

  -- A prefix of at least so many entries, or that prefix with the change in progress.
  pub record RecoversFrom (log : List Entry) (least : ℕ) (image : Image) : Type 0 where
    pub prefix : ℕ
    pub holds_all : least ≤ prefix
    pub within : prefix ≤ length log
    pub recovers : RecoversAt log prefix image
