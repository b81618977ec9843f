-- The laws of the turns of a running store, and of what an image recovers of it.
use Rattle.std.specs.Prelude.{
  ◌≡◌,
  ◌≢◌,
  ℕ,
  true,
  false,
  ◌*◌,
  ◌^◌,
  ◌<◌,
  ◌≤◌,
  ◌++◌,
  ◌∷◌,
  [],
  Bool,
  List,
  length,
  All,
  slice_get,
}
use Rattle.std.specs.Prelude.{Some, None}
use Rattle.std.specs.List.{AllByRecursion}
use Rattle.page_disk.specs.Disk.{Image, Rose}
use Rattle.super_block.specs.declared.page.Super.{Super}
use Rattle.super_block.specs.Numbers.{cluster_pages_of, fixed_clusters_of}
use Rattle.super_block.specs.Placed.{IsPlaced}
use Rattle.crc32c.specs.Crc.{is_sound}
use Rattle.md_chain.specs.Chain.{Look, is_among}
use Rattle.volume_model.specs.Volumes.{Volumes, zero_page}
use Rattle.volume_model.specs.declared.command.Command.{Command}
use Rattle.volume_model.specs.declared.reply.Reply.TheVariants as r
use Rattle.volume_model.specs.declared.reply.Entry.{Entry}
use Rattle.blob_meta.specs.declared.job.Job.{Job as Changes}
use Rattle.blob_meta.specs.declared.job.Replacement.{Replacement}
use Rattle.blob_meta.specs.declared.meta.Meta.{Meta}
use Rattle.shown_volumes.specs.StoredLaws.{AreStoredWell}
use Rattle.store_model.specs.Phases.{Committing}
use Rattle.blob_meta.specs.Repairs.{HasNoMarks}
use Rattle.blob_meta.specs.Resolving.{IsLawful, resolved, slots_together}
use Rattle.store_model.specs.Maps.{with_entry, Metas, Chains}
use Rattle.store_model.specs.Regions.{region_of, MdRegion}
use Rattle.store_model.specs.Scans.{is_head, MetaAt, Says, Scanned}
use Rattle.store_model.specs.Cases.{IsQuiet}
use Rattle.store_model.specs.StoreState.{Opens, StoreState, shown}
use Rattle.store_model.specs.Filling.{FillStands}
use Rattle.store_model.specs.Guarding.{AreGenerations}
use Rattle.store_model.specs.Jobs.{with_zeroed}
use Rattle.store_model.specs.Places.{AreLeastClear, Unclaimed, UsedClusters, UsedPages}
use Rattle.store_model.specs.Asking.{IsJobFor}
use Rattle.store_model.specs.Cases.{Kind, Run, Turn}
use Rattle.store_model.specs.Repairing.{IsRepaired}
use Rattle.store_model.specs.RunInvariant.{AreNamed, AreStored, RunInvariant, HaveChains}
use Rattle.store_model.specs.Recovers.{HasStore, Recovers}

-- what a store is loaded with: nothing of a job, each attribute live as it is synced, and each blob with a generation
-- of its own
pub record IsLoadedWith (s : Super) (p : StoreState) : Type 0 where
  pub super : p.super ≡ s
  pub stored : AreStored s p.base
  pub named : AreNamed (resolved p.base)
  pub few : slots_together s.md_len p.base ≤ 2 ^ 24
  pub lawful : IsLawful s.md_len (resolved p.base)
  pub chains : HaveChains s p.base p.chains
  pub pages : UsedPages s.md_len p.pages p.chains []
  pub clusters : UsedClusters s p.clusters p.base Unclaimed
  pub live : (head : ℕ) (m : Meta) → resolved p.base head ≡ Some m → p.live head ≡ Some m.xattrs
  pub no_live : (head : ℕ) → resolved p.base head ≡ None → p.live head ≡ None
  pub generations : AreGenerations p.base p.generations p.drawn

-- on every page of the fixed clusters, so of the super block, the masks and the metadata region, the second image is as
-- the first one
abbrev pub HasFixedPagesOf : Super → Image → Image → Type 0
HasFixedPagesOf s image other = (page : ℕ) → page < fixed_clusters_of s * cluster_pages_of s → other page ≡ image page

-- the two images are the same behind the fixed clusters
abbrev pub IsSameBehind : Super → Image → Image → Type 0
IsSameBehind s image other = (page : ℕ) → fixed_clusters_of s * cluster_pages_of s ≤ page → other page ≡ image page

pub record StateLaws : Type 0 where
  -- a loaded store has what every state of a run has
  pub begin : (s : Super) (p : StoreState) → IsLoadedWith s p → Opens p
      → RunInvariant s (shown p) (λ channel. (p.rows channel).left) p
  -- each turn keeps it, and is one more of the run
  pub keep : (told : Bool) (s : Super) (first : Volumes) (script : ℕ → List Command) (p q : StoreState) (kind : Kind)
      → IsPlaced s → RunInvariant s first script p → Turn told p kind q → RunInvariant s first script q
  pub go_on : (told : Bool) (p q r : StoreState) (kinds : List Kind) (kind : Kind) → Run told p kinds q
      → Turn told q kind r → Run told p (kinds ++ kind ∷ []) r
  -- what is known of the fill's row is so along each run
  pub fill_stands : (told : Bool) (p q : StoreState) (kinds : List Kind) → Opens p → Run told p kinds q → FillStands q
  -- a store with nothing left to repair stays so, and so does one that serves a command or has stopped
  pub repaired_stays : (told : Bool) (s : Super) (first : Volumes) (script : ℕ → List Command) (p q : StoreState)
      (kind : Kind) → RunInvariant s first script p → Turn told p kind q → IsRepaired p → IsRepaired q
  -- where such a store runs and has no job, no blob is marked
  pub repaired_unmarked : (p : StoreState) → IsRepaired p → p.stopped ≡ None → p.job ≡ None → HasNoMarks p.base
  -- where no blob is marked, the metadata that a job is to write can be stored, at heads of the region, with the least
  -- clear clusters in the slots that are to read as zeros
  pub writable : (s : Super) (first : Volumes) (script : ℕ → List Command) (p : StoreState) (command : Command)
      (changes : Changes) (commit : Committing) → IsPlaced s → RunInvariant s first script p → p.stopped ≡ None
      → HasNoMarks p.base → IsJobFor p command changes commit → (claimed : List ℕ) → AreLeastClear p.clusters claimed
      → length claimed ≡ length changes.zero → AllByRecursion (λ (x : Replacement). x.head < s.md_len) changes.list
      → AreStoredWell s (record changes { list = with_zeroed changes.list changes.zero claimed })
  -- On a device that tells, an image with this store, which says the metadata that the store has, recovers the whole
  -- log.
  pub recovers : (s : Super) (first : Volumes) (script : ℕ → List Command) (p : StoreState) (image : Image) → IsPlaced s
      → RunInvariant s first script p → p.tells ≡ true → p.stopped ≡ None
      → HasStore s image → Says (region_of s) p.base p.chains image → IsSameBehind s p.device.reads image
      → Recovers s first p.log image

-- what runs log and count of failed reads, writes and flushes
pub record StopLaws : Type 0 where
  -- a run that begins running and ends stopped has counted a failed write or flush, or the count stands at its last
  -- number
  pub counted : (told : Bool) (p q : StoreState) (kinds : List Kind) (at : ℕ) → Run told p kinds q → p.stopped ≡ None
      → q.stopped ≡ Some at → Rose p.device.write_faults q.device.write_faults
  -- a run that ends running has counted none
  pub uncounted : (told : Bool) (p q : StoreState) (kinds : List Kind) → Run told p kinds q → q.stopped ≡ None
      → q.device.write_faults ≡ p.device.write_faults
  -- a run's log has no `fault` and no `stopped` while the store runs, and then one `fault` at most, where the store
  -- stopped
  pub quiet : (told : Bool) (p q : StoreState) (kinds : List Kind) → Run told p kinds q → p.log ≡ [] → q.stopped ≡ None
      → All (λ e. IsQuiet e.reply) q.log
  pub fault : (told : Bool) (p q : StoreState) (kinds : List Kind) → Run told p kinds q → p.log ≡ []
      → (k : ℕ) (e : Entry) → slice_get q.log k ≡ Some e → e.reply ≡ r.Fault → q.stopped ≡ Some k
  -- a run whose log has a `read fault` has counted a failed read, or the count stands at its last number
  pub read : (told : Bool) (p q : StoreState) (kinds : List Kind) → Run told p kinds q → p.log ≡ []
      → All (λ e. e.reply ≡ r.ReadFault → Rose p.device.read_faults q.device.read_faults) q.log

-- the pages that a job writes
pub record JobLaws : Type 0 where
  -- a torn page, a page of zeros and a fresh page of a planned chain are no heads
  pub torn : (place : ℕ) (page : List ℕ) → is_sound page ≡ false → is_head place page ≡ false
  pub zeros : (place : ℕ) → is_head place zero_page ≡ false
  pub fresh : (planned : Look) (r : MdRegion) (head : ℕ) (new : Meta) (fresh : List ℕ) (place : ℕ)
      → MetaAt planned r head new (head ∷ fresh) → is_among place fresh ≡ true → is_head place (planned place) ≡ false
  -- Where the fresh pages are read as planned, and the head's page, which no other blob's chain has, is the planned
  -- one, the metadata and the chain are the new ones, whether the blob was there or not.
  pub replaced : (look other planned : Look) (r : MdRegion) (metas : Metas) (chains : Chains) (head : ℕ)
      (new : Meta) (fresh : List ℕ) → Scanned look r metas chains → MetaAt planned r head new (head ∷ fresh)
      → ((k : ℕ) (pages : List ℕ) → k ≢ head → chains k ≡ Some pages → is_among head pages ≡ false)
      → ((place : ℕ) → is_among place fresh ≡ true → look place ≡ planned place)
      → other head ≡ planned head → ((place : ℕ) → place ≢ head → other place ≡ look place)
      → Scanned other r (with_entry metas head new) (with_entry chains head (head ∷ fresh))
