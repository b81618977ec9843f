-- What every state of a run has: plain data alone, whatever the device may leave after a crash.
use Rattle.std.specs.Prelude.{◌≡◌, ◌≢◌, ◌⊎◌, ℕ, ◌+◌, ◌^◌, ◌<◌, ◌≤◌, List, [], ◌∷◌, ◌++◌, length, Some, None, All, true}
use Rattle.volume_model.specs.Volumes.{Volumes}
use Rattle.volume_model.specs.Xattrs.{Xattrs}
use Rattle.volume_model.specs.Logs.{replay, IsLegal, Numbered}
use Rattle.volume_model.specs.declared.command.Command.{Command}
use Rattle.super_block.specs.declared.page.Super.{Super}
use Rattle.blob_meta.specs.declared.meta.Meta.{Meta}
use Rattle.blob_meta.specs.Resolving.{IsLawful, resolved, slots_together}
use Rattle.md_chain.specs.Chain.{is_among}
pub use Rattle.store_model.specs.Steady.{AreNamed, AreSteady, AreStored, CanBeWritten, IsSteady}
use Rattle.store_model.specs.Maps.{Metas, Chains}
use Rattle.store_model.specs.Shown.{fixed_of}
use Rattle.store_model.specs.Rows.{Copying, entries_of, fill_row, InJob, OpenClaim, Posted, Ended, Ready, Row, Stage}
use Rattle.store_model.specs.StoreState.{ForCommand, JobState, StoreState, shown, waiting}
use Rattle.store_model.specs.Phases.{has_commit}
use Rattle.store_model.specs.Places.{AreDistinct, ClaimsDiffer, HasClaim, held_by, UsedPages, UsedClusters}
use Rattle.store_model.specs.Guarding.{AreClaimsDrawn, AreGenerations, IsGuarded}
use Rattle.store_model.specs.Jobs.{JobStands}
use Rattle.store_model.specs.Copying.{AreCopied}
use Rattle.store_model.specs.Seen.{seen}

-- Each blob has a chain, which begins with its head; no place stands in two chains, or twice in one; each is of the
-- region.
pub record HaveChains (s : Super) (metas : Metas) (chains : Chains) : Type 0 where
  pub chain : (head : ℕ) (m : Meta) → metas head ≡ Some m → (rest : List ℕ) × (chains head ≡ Some (head ∷ rest))
  pub none : (head : ℕ) → metas head ≡ None → chains head ≡ None
  pub low : (head place : ℕ) (pages : List ℕ) → chains head ≡ Some pages → is_among place pages ≡ true
      → place < s.md_len
  pub apart : (h k place : ℕ) (ps qs : List ℕ) → chains h ≡ Some ps → chains k ≡ Some qs → is_among place ps ≡ true
      → is_among place qs ≡ true → h ≡ k
  pub differ : (head : ℕ) (pages : List ℕ) → chains head ≡ Some pages → AreDistinct pages

-- Of each channel, the commands so far, numbered in the log, and those that are left are all of the script's.
pub record OnItsWay (p : StoreState) (script : ℕ → List Command) (channel : ℕ) : Type 0 where
  pub made : List Command
  pub numbered : Numbered 0 (entries_of channel p.log) made
  pub all : made ++ (p.rows channel).left ≡ script channel

-- the stages at which a row may hold a claim
abbrev pub MayClaim : Stage → Type 0
MayClaim (Copying left) = Unit {0}
MayClaim Ready = Unit {0}
MayClaim (Posted serial) = Unit {0}
MayClaim InJob = Unit {0}
MayClaim _ = ⊥

-- a row whose first command a job serves
pub record IsServedRow (row : Row) : Type 0 where
  pub command : Command
  pub rest : List Command
  pub is : row ≡ record { left = command ∷ rest; stage = InJob; claim = None }

-- how rows stand to the job
pub record IsShaped (p : StoreState) : Type 0 where
  -- what is posted or in the job is a command, but for the claims of the fill's row, and an ended channel has none left
  pub posted : (channel serial : ℕ) → (p.rows channel).stage ≡ Posted serial
      → ((p.rows channel).claim ≡ None) ⊎ (channel ≢ fill_row) → (p.rows channel).left ≢ []
  pub in_job : (channel : ℕ) → (p.rows channel).stage ≡ InJob
      → (job : JobState) × (p.job ≡ Some job) × (waiting job.serves job.todo ≡ Some channel)
  -- and a job serves a command until its commit
  pub served : (job : JobState) (channel : ℕ) → p.job ≡ Some job → job.serves ≡ ForCommand channel
      → has_commit job.todo ≡ true → IsServedRow (p.rows channel)
  pub ended : (channel : ℕ) → (p.rows channel).stage ≡ Ended → (p.rows channel).left ≡ []
  -- a claim is held from when it is made until it is inserted or given back
  pub claims : (channel : ℕ) (claim : OpenClaim) → (p.rows channel).claim ≡ Some claim → MayClaim (p.rows channel).stage

-- while the store runs: what it has in memory is what the device says, and the volumes shown are the log's replay
pub record RunsWell (first : Volumes) (p : StoreState) : Type 0 where
  pub chains : HaveChains p.super p.base p.chains
  pub live : (head : ℕ) (m : Meta) → resolved p.base head ≡ Some m
      → (xattrs : Xattrs) × (p.live head ≡ Some xattrs) × CanBeWritten xattrs
  pub no_live : (head : ℕ) → resolved p.base head ≡ None → p.live head ≡ None
  pub pages : UsedPages p.super.md_len p.pages p.chains (held_by p.job)
  pub clusters : UsedClusters p.super p.clusters p.base (HasClaim p.rows p.job)
  pub claims : ClaimsDiffer p.rows p.job
  pub job : (job : JobState) → p.job ≡ Some job → JobStands p job
  pub generations : AreGenerations p.base p.generations p.drawn
  pub claims_drawn : AreClaimsDrawn p.rows p.drawn
  pub copied : AreCopied p
  pub replayed : shown p ≡ replay (fixed_of p.super) first (seen p.tells p.log)

pub record RunInvariant (s : Super) (first : Volumes) (script : ℕ → List Command) (p : StoreState) : Type 0 where
  pub super : p.super ≡ s
  pub stored : AreStored s p.base
  pub named : AreNamed (resolved p.base)
  pub few : slots_together s.md_len p.base ≤ 2 ^ 24
  pub lawful : IsLawful s.md_len (resolved p.base)
  pub legal : IsLegal (fixed_of s) first (seen p.tells p.log)
  pub well : p.stopped ≡ None → RunsWell first p
  pub way : (channel : ℕ) → OnItsWay p script channel
  pub shaped : IsShaped p
  pub guarded : IsGuarded p
  -- one mark for the loading and one for each entry, none of the future
  pub counted : length p.marks ≡ length p.log + 1
  pub past : All (λ t. t ≤ p.device.clock) p.marks
  -- a store stops behind some of its entries
  pub halted : (at : ℕ) → p.stopped ≡ Some at → at ≤ length p.log
  -- a job that runs has something left to do
  pub unfinished : (job : JobState) → p.job ≡ Some job → job.todo ≢ []
