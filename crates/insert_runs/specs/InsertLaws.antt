-- The laws of the inserts of a run.
use Rattle.std.specs.Prelude.{◌≡◌, ℕ, ◌≤◌, Bool, List, Some}
use Rattle.super_block.specs.declared.page.Super.{Super}
use Rattle.super_block.specs.Placed.{IsPlaced}
use Rattle.volume_model.specs.Volumes.{Volumes}
use Rattle.volume_model.specs.declared.command.Command.{Command}
use Rattle.store_model.specs.Cases.{Kind, Run, Turn}
use Rattle.store_model.specs.Cases as kind
use Rattle.store_model.specs.Copying.{IsWanted}
use Rattle.store_model.specs.Rows.{OpenClaim}
use Rattle.store_model.specs.RunInvariant.{RunInvariant}
use Rattle.store_model.specs.StoreState.{StoreState}
use Rattle.insert_runs.specs.InsertRuns.{AreOncePerGeneration, claim_put, claims_put, PutsCluster, RiseInSlots}

pub record InsertLaws : Type 0 where
  -- with the commit of an insert the cluster of its row's claim stands in the claim's slot
  pub puts : (told : Bool) (s : Super) (first : Volumes) (script : ℕ → List Command) (p q : StoreState) → IsPlaced s
      → RunInvariant s first script p → (turn : Turn told p kind.inserts q)
      → (claim : OpenClaim) × (claim_put told kind.inserts p q turn ≡ Some claim) × PutsCluster p q claim
  -- A claim is wanted behind a turn only where it was before: a slot that is filled stays so while its blob's
  -- generation does.
  pub stays : (told : Bool) (s : Super) (first : Volumes) (script : ℕ → List Command) (p q : StoreState) (of : Kind)
      → IsPlaced s → RunInvariant s first script p → Turn told p of q
      → (claim : OpenClaim) → claim.generation ≤ p.drawn → IsWanted q claim → IsWanted p claim
  -- Of two inserts of a run into one slot the later is under a greater generation,
  pub rise : (told : Bool) (s : Super) (first : Volumes) (script : ℕ → List Command) (p q : StoreState)
      (kinds : List Kind) → IsPlaced s → RunInvariant s first script p → (run : Run told p kinds q)
      → RiseInSlots (claims_put told kinds p q run)
  -- so that of one slot under one generation at most one commits.
  pub once : (told : Bool) (s : Super) (first : Volumes) (script : ℕ → List Command) (p q : StoreState)
      (kinds : List Kind) → IsPlaced s → RunInvariant s first script p → (run : Run told p kinds q)
      → AreOncePerGeneration (claims_put told kinds p q run)
