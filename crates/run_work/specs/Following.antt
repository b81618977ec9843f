-- Runs that follow a schedule, over states of any kind and whatever their steps are.
use Rattle.std.specs.Prelude.{◌≡◌, ℕ, zero, suc, Bool, true, false, List, [], ◌∷◌}

-- Who makes a step: a channel, or the metadata thread.
pub data ActorInRun : Type 0 where
  ChannelActs : (ch : ℕ) → ActorInRun
  MetadataActs : ActorInRun

module _ {S : Type 0} (Step : ActorInRun → S → S → Type 0) (ended : S → Bool) where
  -- a step of each channel from 0 upwards, of so many; the last comes last
  abbrev pub Passes : ℕ → S → S → Type 0
  Passes zero w v = v ≡ w
  Passes (suc n) w v = (mid : S) × (Passes n w mid × Step (ChannelActs n) mid v)

  -- a step of each channel, and one of the metadata thread
  abbrev pub Round : S → S → Type 0
  Round w v = (mid : S) × (Passes 16 w mid × Step MetadataActs mid v)

  -- so many rounds, each from a state in which not all have ended
  abbrev pub Rounds : ℕ → S → S → Type 0
  Rounds zero w v = v ≡ w
  Rounds (suc n) w v = (mid : S) × (Rounds n w mid × ((ended mid ≡ false) × Round mid v))

  -- the steps that a schedule writes out
  abbrev pub Scheduled : List ActorInRun → S → S → Type 0
  Scheduled [] w v = v ≡ w
  Scheduled (actor ∷ actors) w v = (mid : S) × (Step actor w mid × Scheduled actors mid v)

  -- the steps of a schedule, and then rounds until all have ended
  pub record Follows (schedule : List ActorInRun) (w v : S) : Type 0 where
    pub mid : S
    pub scheduled : Scheduled schedule w mid
    pub count : ℕ
    pub rounds : Rounds count mid v
    pub ended_then : ended v ≡ true
