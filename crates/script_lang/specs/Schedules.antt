-- What a schedule says, as the list of its steps written out.
use Rattle.std.specs.Prelude.{◌≡◌, ℕ, zero, suc, ◌+◌, ◌<◌, ◌≤◌, ◌^◌, ◌⊎◌, List, [], ◌∷◌, ◌++◌, length, take, decimal}
use Rattle.std.specs.Prelude.{codes}
use Rattle.script_lang.specs.declared.schedule.Actor.{Actor}
use Rattle.script_lang.specs.declared.schedule.Actor.TheVariants.{Channel, Metadata}
use Rattle.script_lang.specs.declared.schedule.Part.{Part}
use Rattle.script_lang.specs.declared.schedule.ScheduleFault.{ScheduleFault}
use Rattle.script_lang.specs.declared.schedule.ScheduleFault.TheVariants.{BadSchedule, Memory}

-- actors in order, so many times
unfoldable pub repeated : ℕ → List Actor → List Actor
repeated zero actors = []
repeated (suc n) actors = actors ++ repeated n actors

-- parts one after the other, each as often as it counts
unfoldable pub written_out : List Part → List Actor
written_out [] = []
written_out (part ∷ parts) = repeated part.count part.actors ++ written_out parts

-- a channel number, or `m` for the metadata thread
pub data IsActor : List ℕ → Actor → Type 0 where
  metadata : IsActor (codes "m") Metadata
  channel : (n : ℕ) → n < 16 → IsActor (decimal n) (Channel n)

-- actors joined by `+`
pub data AreActors : List ℕ → List Actor → Type 0 where
  one_actor : (text : List ℕ) (actor : Actor) → IsActor text actor → AreActors text (actor ∷ [])
  more_actors : (text other : List ℕ) (actors : List Actor) (actor : Actor) → AreActors text actors
      → IsActor other actor
      → AreActors (text ++ 43 ∷ other) (actors ++ actor ∷ [])

-- actors, once or so many times in order: `*` and a count from 1 to 65,536
pub data IsPart : List ℕ → List Actor → Type 0 where
  once : (text : List ℕ) (actors : List Actor) → AreActors text actors → IsPart text (repeated 1 actors)
  times : (text : List ℕ) (actors : List Actor) (n : ℕ) → AreActors text actors → 1 ≤ n → n ≤ 2 ^ 16
      → IsPart (text ++ 42 ∷ decimal n) (repeated n actors)

-- parts separated by commas
pub data AreParts : List ℕ → List Actor → Type 0 where
  one_part : (text : List ℕ) (steps : List Actor) → IsPart text steps → AreParts text steps
  more_parts : (text other : List ℕ) (steps later : List Actor) → AreParts text steps → IsPart other later
      → AreParts (text ++ 44 ∷ other) (steps ++ later)

-- at most 65,536 steps in all
pub record IsSchedule (text : List ℕ) (steps : List Actor) : Type 0 where
  pub parts : AreParts text steps
  pub few : length steps ≤ 2 ^ 16

-- no schedule has this text
abbrev pub IsNoSchedule : List ℕ → Type 0
IsNoSchedule text = (steps : List Actor) → IsSchedule text steps → ⊥

-- some schedule begins so
pub record BeginsSchedule (front : List ℕ) : Type 0 where
  pub rest : List ℕ
  pub steps : List Actor
  pub schedule : IsSchedule (front ++ rest) steps

-- the place, from 0, of the first byte at which no schedule goes on; the text's length where the text ends too early
pub record IsFirstBadByte (text : List ℕ) (at : ℕ) : Type 0 where
  pub within : at ≤ length text
  pub before : BeginsSchedule (take at text)
  pub stops : (BeginsSchedule (take (at + 1) text) → ⊥) ⊎ ((at ≡ length text) × IsNoSchedule text)

-- why a text isn't taken
abbrev pub WhyNoSchedule : List ℕ → ScheduleFault → Type 0
WhyNoSchedule text (BadSchedule at) = IsFirstBadByte text at
WhyNoSchedule text Memory = Unit {0}

-- a refused text is no schedule
abbrev pub RefusesSchedule : List ℕ → ScheduleFault → Type 0
RefusesSchedule text (BadSchedule at) = IsNoSchedule text
RefusesSchedule text Memory = Unit {0}
