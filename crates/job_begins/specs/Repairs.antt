-- The begin of a repair: which one is due, what it needs, and what it comes to.
use Rattle.std.specs.Prelude.{◌≡◌, ℕ, ◌<◌, List, [], ◌∷◌, Some}
use Rattle.page_disk.specs.declared.disk.PageDisk.{Ghosts}
use Rattle.pools.specs.Pool.{clear_in}
use Rattle.blob_meta.specs.declared.job.Replacement.{Replacement}
use Rattle.blob_meta.specs.declared.meta.Meta.{Meta}
use Rattle.blob_meta.specs.Repairs.{repair_at, repairs}
use Rattle.blob_meta.specs.Resolving.{resolved}
use Rattle.store_model.specs.Cases as kind
use Rattle.store_model.specs.Jobs.{Needs}
use Rattle.store_model.specs.Maps.{Metas}
use Rattle.store_model.specs.StoreState.{marked, StoreState}
use Rattle.running_store.specs.Jobs.{job_seen}
use Rattle.running_store.specs.StoreView.{StoreView, state_of}
use Rattle.running_store.specs.declared.job.RunningJob.{RunningJob}
use Rattle.running_store.specs.TurnMade.{TurnMade}
use Rattle.job_begins.specs.declared.repairing.RepairTurn.{RepairTurn}
use Rattle.job_begins.specs.declared.repairing.RepairTurn.TheVariants as repair

-- the repair at this head is the first that is left
abbrev pub IsDue : ℕ → Metas → ℕ → Type 0
IsDue md_len base head = (others : List Replacement) × (repairs md_len base ≡ repair_at base head ∷ others)

-- The repair that is due, of the blob at this head, needs more pages than are clear.
pub record LacksForRepair (p : StoreState) (head has wants : ℕ) : Type 0 where
  pub due : IsDue p.super.md_len p.base head
  pub new : Meta
  pub given : resolved p.base head ≡ Some new
  pub needs : Needs new wants
  pub clear : has ≡ clear_in p.pages
  pub lacking : has < wants

-- The repair that is due begins; none is left; too few pages are clear for it; or memory ran out for it.
abbrev pub RepairsOrNot : {D : Type 0} → Ghosts D → StoreView D → StoreView D → RepairTurn → Type 0
RepairsOrNot d p q repair.Began = TurnMade d p q kind.begins_repair
RepairsOrNot d p q repair.Clean = (repairs p.super.md_len (state_of d p).base ≡ []) × (q ≡ p)
RepairsOrNot d p q (repair.NoPage head has wants) = LacksForRepair (state_of d p) head has wants × (q ≡ p)
RepairsOrNot d p q repair.Memory = ((head : ℕ) × IsDue p.super.md_len (state_of d p).base head) × (q ≡ p)

-- what it lacks: pages, or memory
abbrev pub IsLackForRepair : StoreState → ℕ → RepairTurn → Type 0
IsLackForRepair p head (repair.NoPage at has wants) = LacksForRepair p at has wants
IsLackForRepair p head repair.Memory = Unit {0}
IsLackForRepair p head _ = ⊥

-- the store with the job of a repair that has begun
abbrev pub with_repair : {D : Type 0} → StoreView D → RunningJob → StoreView D
with_repair p job = record p { job = Some (marked p.clean (job_seen job)) }
