-- Which clusters the turns of a run put into slots, and for which claims.
use Rattle.std.specs.Prelude.{◌≡◌, ℕ, ◌<◌, Bool, List, [], ◌∷◌, Option, None, Some, slice_get}
use Rattle.std.specs.Option.{option_map_or}
use Rattle.blob_meta.specs.declared.meta.Meta.{Meta}
use Rattle.store_model.specs.Cases.{Kind, Run, Turn}
use Rattle.store_model.specs.Cases as kind
use Rattle.store_model.specs.Claiming.{CanInsert}
use Rattle.store_model.specs.Inserting.{with_slot}
use Rattle.store_model.specs.Maps.{with_entry}
use Rattle.store_model.specs.Rows.{OpenClaim}
use Rattle.store_model.specs.StoreState.{StoreState}

-- ---- turns

-- A claim's cluster is put into its slot: the claim was up to date, and the slot was there and empty.
pub record PutsCluster (p q : StoreState) (claim : OpenClaim) : Type 0 where
  pub meta : Meta
  pub can : CanInsert p claim meta
  pub base : q.base ≡ with_entry p.base claim.head (with_slot meta claim.slot claim.cluster)

module _ (told : Bool) where
  -- the claim whose cluster a turn puts into its slot, if it puts one
  abbrev pub claim_put : (of : Kind) (p q : StoreState) → Turn told p of q → Option OpenClaim
  claim_put kind.inserts p q turn = (p.rows turn.inserting.row).claim
  claim_put _ p q turn = None

  -- the claims whose clusters the turns of a run put into their slots, in the order of these turns
  abbrev pub claims_put : (kinds : List Kind) (p q : StoreState) → Run told p kinds q → List OpenClaim
  claims_put [] p q run = []
  claims_put (of ∷ kinds) p q run =
      let later = claims_put kinds run.0 q run.2 in
      option_map_or (λ claim. claim ∷ later) (claim_put of p run.0 run.1) later

-- ---- claims of one slot

pub record IsOfSameSlot (claim other : OpenClaim) : Type 0 where
  pub head : claim.head ≡ other.head
  pub slot : claim.slot ≡ other.slot

-- of two claims of one slot the later in the list is under a greater generation
abbrev pub RiseInSlots : List OpenClaim → Type 0
RiseInSlots claims = (earlier later : ℕ) (claim other : OpenClaim) → earlier < later
    → slice_get claims earlier ≡ Some claim → slice_get claims later ≡ Some other → IsOfSameSlot claim other
    → claim.generation < other.generation

-- no two claims of the list are of one slot under one generation
abbrev pub AreOncePerGeneration : List OpenClaim → Type 0
AreOncePerGeneration claims = (i k : ℕ) (claim other : OpenClaim)
    → slice_get claims i ≡ Some claim → slice_get claims k ≡ Some other → IsOfSameSlot claim other
    → claim.generation ≡ other.generation → i ≡ k
