-- What can be kept in memory can be so too where other blobs are frozen.
use Rattle.std.proofs.Common.{◌≡◌, ℕ, false, List, [], ◌∷◌, Option, None, Some, IfSome, refl, ap, subst, sym}
use Rattle.std.specs.Ordering.{nat_cmp}
use Rattle.std.specs.FinSet as set
use Rattle.std.specs.Prelude.{is_some}
use Rattle.io_freeze.specs.Guards.{GuardsState, guard_removed, renewed}
use Rattle.running_store.specs.Blobs.{blobs_behind, numbered_in, Blobs, CanAllBeKept, CanBeKept, HasPlacesFor}
use Rattle.running_store.specs.Blobs.{WillBeKept}
use Rattle.running_store.specs.Jobs.{to_come}
use Rattle.running_store.specs.Places.{thawed, with_numbers, CanNumber}
use Rattle.running_store.specs.declared.job.RunningJob.{RunningJob}
use Rattle.running_store.specs.declared.replacements.Change.{Change}
use Rattle.running_store.specs.declared.replacements.Change.TheVariants as change
use Rattle.running_store.specs.declared.replacements.LaidReplacement.{LaidReplacement}

abbrev Frozen : Type 0
Frozen = set.FinSet nat_cmp

abbrev frozen_as : GuardsState → Frozen → GuardsState
frozen_as guards frozen = record guards { frozen = frozen }

-- generations don't ask which blobs are frozen
can_number : (guards : GuardsState) (frozen : Frozen) (heads : List ℕ) → CanNumber guards heads
    → CanNumber (frozen_as guards frozen) heads
can_number guards frozen [] can = tt
can_number guards frozen (head ∷ heads) can = (can.0, can.1, can_number (renewed guards head) frozen heads can.2)

numbers_frozen : (guards : GuardsState) (frozen : Frozen) (heads : List ℕ)
    → with_numbers (frozen_as guards frozen) heads ≡ frozen_as (with_numbers guards heads) frozen
numbers_frozen guards frozen [] = refl
numbers_frozen guards frozen (head ∷ heads) = numbers_frozen (renewed guards head) frozen heads

abbrev with_frozen : Blobs → Frozen → Blobs
with_frozen b frozen = record b { guards = frozen_as b.guards frozen }

-- the blobs that are frozen behind a replacement
abbrev frozen_behind : Frozen → Change → Frozen
frozen_behind frozen (change.Writes p) = frozen
frozen_behind frozen (change.Erases e) = set.remove frozen e.head

behind_frozen : (b : Blobs) (frozen : Frozen) (x : Change)
    → blobs_behind (with_frozen b frozen) x ≡ with_frozen (blobs_behind b x) (frozen_behind frozen x)
behind_frozen b frozen (change.Writes p) =
    ap (λ (g : GuardsState). record (blobs_behind b (change.Writes p)) { guards = g })
    (numbers_frozen b.guards frozen (numbered_in p.effects.commit (is_some p.effects.rooms.chain) p.head))
behind_frozen b frozen (change.Erases e) =
    ap (λ (g : GuardsState). record (blobs_behind b (change.Erases e)) { guards = g })
    (numbers_frozen (guard_removed b.guards e.head)
    (set.remove frozen e.head) (numbered_in e.commit false e.head))

places_frozen : (b : Blobs) (frozen : Frozen) (x : Change) → HasPlacesFor b x → HasPlacesFor (with_frozen b frozen) x
places_frozen b frozen (change.Writes p) has = record {
  rooms = record { chain = has.rooms.chain; meta = has.rooms.meta };
  commit = record {
    live_fits = has.commit.live_fits;
    shown_fits = has.commit.shown_fits;
    numbers = can_number b.guards frozen
        (numbered_in p.effects.commit (is_some p.effects.rooms.chain) p.head) has.commit.numbers;
  };
}
places_frozen b frozen (change.Erases e) has = record {
  live_fits = has.live_fits;
  shown_fits = has.shown_fits;
  numbers = can_number (guard_removed b.guards e.head)
      (set.remove frozen e.head) (numbered_in e.commit false e.head) has.numbers;
}

kept_frozen : (b : Blobs) (frozen : Frozen) (x : Change) → CanBeKept b x → CanBeKept (with_frozen b frozen) x
kept_frozen b frozen (change.Writes p) can = record {
  places = places_frozen b frozen (change.Writes p) can.places;
  shows = can.shows;
  resolved = can.resolved;
}
kept_frozen b frozen (change.Erases e) can = record {
  places = places_frozen b frozen (change.Erases e) can.places;
  shows = can.shows;
  resolved = can.resolved;
}

all_frozen : (b : Blobs) (frozen : Frozen) (list : List LaidReplacement) → CanAllBeKept b list
    → CanAllBeKept (with_frozen b frozen) list
all_frozen b frozen [] can = tt
all_frozen b frozen (x ∷ xs) can = (
  kept_frozen b frozen x.change can.0,
  subst (λ (c : Blobs). CanAllBeKept c xs) (sym (behind_frozen b frozen x.change))
      (all_frozen (blobs_behind b x.change) (frozen_behind frozen x.change) xs can.1),
)

-- so it is once a blob is released
pub kept_thawed : (b : Blobs) (o : Option RunningJob) (freeze : Option ℕ) → IfSome o (WillBeKept b)
    → IfSome o (WillBeKept (record b { guards = thawed b.guards freeze }))
kept_thawed b None freeze can = tt
kept_thawed b (Some j) None can = can
kept_thawed b (Some j) (Some head) can = all_frozen b (set.remove b.guards.frozen head) (to_come j) can
