-- Which blobs are neither read nor written for a while, and the generation of each blob.
use Rattle.std.specs.Prelude.{◌≡◌, ℕ, ◌+◌, ◌≤◌, ◌==◌, if◌then◌else◌, is_some, Bool, true, false, List, [], ◌∷◌, Option}
use Rattle.std.specs.Prelude.{None, Some}
use Rattle.store_model.specs.Maps.{Map, Metas, with_entry}
use Rattle.store_model.specs.Phases.{Phase}
use Rattle.store_model.specs.Rows.{OpenClaim, Rows}
use Rattle.store_model.specs.StoreState.{JobState, StoreState}

-- the blob that a job freezes is frozen too
abbrev pub freezing : (ℕ → Bool) → Option ℕ → ℕ → Bool
freezing frozen None = frozen
freezing frozen (Some blob) = λ head. if head == blob then true else frozen head

-- it is released
abbrev pub releasing : (ℕ → Bool) → Option ℕ → ℕ → Bool
releasing frozen None = frozen
releasing frozen (Some blob) = λ head. if head == blob then false else frozen head

-- A job freezes its blob until nothing is left to do.
abbrev pub frozen_behind : (ℕ → Bool) → JobState → List Phase → ℕ → Bool
frozen_behind frozen j [] = releasing frozen j.freeze
frozen_behind frozen j (x ∷ xs) = frozen

-- these blobs are renewed one after another: each gets the next number as its generation
abbrev pub all_renewed : Map ℕ → ℕ → List ℕ → Map ℕ
all_renewed generations drawn [] = generations
all_renewed generations drawn (head ∷ heads) = all_renewed (with_entry generations head (drawn + 1)) (drawn + 1) heads

-- Each blob has a generation and nothing else has; each was drawn, and no two blobs have the same.
pub record AreGenerations (base : Metas) (generations : Map ℕ) (drawn : ℕ) : Type 0 where
  pub each : (head : ℕ) → is_some (generations head) ≡ is_some (base head)
  pub low : (head number : ℕ) → generations head ≡ Some number → number ≤ drawn
  pub differ : (head other number : ℕ) → generations head ≡ Some number → generations other ≡ Some number → head ≡ other

-- the generation of each open claim was drawn
abbrev pub AreClaimsDrawn : Rows → ℕ → Type 0
AreClaimsDrawn rows drawn = (channel : ℕ) (claim : OpenClaim) → (rows channel).claim ≡ Some claim
    → claim.generation ≤ drawn

-- A frozen blob is that which the running job freezes, and on a stopped store none is frozen.
pub record IsGuarded (p : StoreState) : Type 0 where
  pub frozen : (head : ℕ) → p.frozen head ≡ true → (job : JobState) × (p.job ≡ Some job) × (job.freeze ≡ Some head)
  pub stopped : (at : ℕ) → p.stopped ≡ Some at → (head : ℕ) → p.frozen head ≡ false
