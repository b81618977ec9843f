-- The laws of what a scan says, and of what an image recovers.
use Rattle.std.specs.Prelude.{◌≡◌, ◌≢◌, ◌<◌, ◌≤◌, ◌+◌, ◌++◌, ◌∷◌, [], ℕ, List, length, Some, false, true}
use Rattle.page_disk.specs.Disk.{Image}
use Rattle.super_block.specs.declared.page.Super.{Super}
use Rattle.volume_model.specs.Volumes.{Volumes}
use Rattle.volume_model.specs.Steps.{Allowed, IsRefusal}
use Rattle.volume_model.specs.Logs.{replay}
use Rattle.volume_model.specs.declared.reply.Reply.TheVariants.{Fault}
use Rattle.volume_model.specs.declared.reply.Entry.{Entry}
use Rattle.blob_meta.specs.Resolving.{resolved}
use Rattle.md_chain.specs.Chain.{Look, is_among}
use Rattle.store_model.specs.Maps.{Metas, Chains}
use Rattle.store_model.specs.Regions.{region_of, MdRegion}
use Rattle.store_model.specs.Scans.{head_at, is_head, Says, Scanned, Unlinked}
use Rattle.store_model.specs.Shown.{fixed_of, shows}
use Rattle.store_model.specs.Recovers.{AreSynced, IsChangeDone, Recovers, RecoversAt, RecoversFrom}

-- ---- what a scan says

pub record ScanLaws : Type 0 where
  -- an image says one thing
  pub one : (look : Look) (r : MdRegion) (m n : Metas) (c d : Chains) → Scanned look r m c → Scanned look r n d
      → (head : ℕ) → (m head ≡ n head) × (c head ≡ d head)
  -- no page is in two chains, and none that no chain has is a head
  pub apart : (look : Look) (r : MdRegion) (metas : Metas) (chains : Chains) → Scanned look r metas chains →
      (h k p : ℕ) (ps qs : List ℕ) → chains h ≡ Some ps → chains k ≡ Some qs → is_among p ps ≡ true
      → is_among p qs ≡ true → h ≡ k
  pub no_head : (look : Look) (r : MdRegion) (metas : Metas) (chains : Chains) → Scanned look r metas chains → (p : ℕ)
      → Unlinked chains p → head_at look r.len p ≡ false
  -- what is said doesn't depend on pages outside of the region, nor on a page in no chain that is changed to one that
  -- would be no head
  pub region : (look other : Look) (r : MdRegion) (metas : Metas) (chains : Chains) → Scanned look r metas chains
      → ((q : ℕ) → q < r.len → other q ≡ look q) → Scanned other r metas chains
  pub unlinked : (look other : Look) (r : MdRegion) (metas : Metas) (chains : Chains) (p : ℕ) (page : List ℕ)
      → Scanned look r metas chains →
      Unlinked chains p → is_head p page ≡ false → other p ≡ page → ((q : ℕ) → q ≢ p → other q ≡ look q)
      → Scanned other r metas chains

-- ---- what an image recovers

pub record RecoveryLaws : Type 0 where
  -- whatever metadata a load finds in an image that recovers a log, it shows the log as it survives
  pub loaded : (s : Super) (first : Volumes) (log : List Entry) (image : Image) (metas : Metas) (chains : Chains)
      → Recovers s first log image → Says (region_of s) metas chains image →
      AreSynced s first log (shows (fixed_of s) image (resolved metas))

pub record GrowthLaws : Type 0 where
  -- the whole log is a prefix of as many entries as are asked for; a prefix with all entries is the whole log
  pub whole : (s : Super) (first : Volumes) (log : List Entry) (least : ℕ) (image : Image) → least ≤ length log
      → Recovers s first log image → RecoversFrom s first log least image
  pub reached : (s : Super) (first : Volumes) (log : List Entry) (image : Image)
      → RecoversFrom s first log (length log) image → RecoversAt s first log (length log) image
  -- with one entry more, what was recovered is recovered still; also of all entries, if the new one isn't that of a
  -- verb which is done
  pub still : (s : Super) (first : Volumes) (log : List Entry) (e : Entry) (least : ℕ) (image : Image)
      → RecoversFrom s first log least image → RecoversFrom s first (log ++ e ∷ []) least image
  pub still_at : (s : Super) (first : Volumes) (log : List Entry) (e : Entry) (n : ℕ) (image : Image) → n ≤ length log
      → RecoversAt s first log n image → RecoversAt s first (log ++ e ∷ []) n image
  pub idle : (s : Super) (first : Volumes) (log : List Entry) (e : Entry) (image : Image) → IsRefusal e.reply
      → RecoversFrom s first log (length log) image → RecoversFrom s first (log ++ e ∷ []) (length log + 1) image
  -- the new entry is the fault of a verb that might be done, and whose change is there
  pub failed : (s : Super) (first : Volumes) (log : List Entry) (done : Entry) (least : ℕ) (image : Image)
      → IsChangeDone done.reply → Allowed (fixed_of s) (replay (fixed_of s) first log) done.command done.reply
      → least ≤ length log + 1 → Recovers s first (log ++ done ∷ []) image →
      RecoversFrom s first (log ++ record done { reply = Fault } ∷ []) least image
  pub failed_at : (s : Super) (first : Volumes) (log : List Entry) (done : Entry) (image : Image)
      → IsChangeDone done.reply → Allowed (fixed_of s) (replay (fixed_of s) first log) done.command done.reply
      → Recovers s first (log ++ done ∷ []) image →
      RecoversAt s first (log ++ record done { reply = Fault } ∷ []) (length log) image
