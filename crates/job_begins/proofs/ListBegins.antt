-- The begin of a job of several replacements: its phases, and the pages that they take.
use Rattle.std.proofs.Common.{◌≡◌, ℕ, Bool, true, List, [], ◌∷◌, ◌++◌, Option, Some, None, refl, ◌∙◌, ap, map}
use Rattle.std.specs.Prelude.{◌-◌, ◌==◌, if◌then◌else◌, slice_set}
use Rattle.store_model.specs.Phases.{phases_of, todo_of, Committing, Replacing}
use Rattle.store_model.specs.Places.{all_set, AreLeastClear}
use Rattle.running_store.specs.Jobs.{phases_for, phases_in}
use Rattle.running_store.specs.declared.replacements.Change.{Change}
use Rattle.running_store.specs.declared.replacements.Change.TheVariants as change
use Rattle.running_store.specs.declared.replacements.LaidReplacement.{LaidReplacement}
use Rattle.job_views.specs.Replacing.{committing, replacing_for}

-- as the model has them
abbrev pub replacings : List LaidReplacement → List Replacing
replacings l = map (λ x. replacing_for x.change x.old) l

-- The one with this number, from 1, makes the commit, and no other does.
abbrev pub CommitsAt : ℕ → Committing → List LaidReplacement → Type 0
CommitsAt number commit [] = Unit {0}
CommitsAt number commit (x ∷ xs) =
    (committing x.change ≡ (if number == 1 then Some commit else None)) × CommitsAt (number - 1) commit xs

-- their phases are those of the model's list
pub phases_are : (l : List LaidReplacement) (number : ℕ) (commit : Committing) → CommitsAt number commit l
    → phases_in l ≡ todo_of (replacings l) number commit
phases_are [] number commit at = refl
phases_are (x ∷ xs) number commit at =
    one x.change refl
    ∙ ap (λ (o : Option Committing). phases_of (replacing_for x.change x.old) o (phases_in xs)) at.0
    ∙ ap (phases_of (replacing_for x.change x.old) (if number == 1 then Some commit else None))
    (phases_are xs (number - 1) commit at.1)
  where
    one : (c : Change) → x.change ≡ c
        → phases_for x (phases_in xs) ≡ phases_of (replacing_for x.change x.old) (committing x.change) (phases_in xs)
    one (change.Writes p) is = rw is refl
    one (change.Erases e) is = rw is refl

-- ---- pages

-- the first of the least clear ones are so,
pub least_first : (bits : List Bool) (ps qs : List ℕ) → AreLeastClear bits (ps ++ qs) → AreLeastClear bits ps
least_first bits [] qs least = tt
least_first bits (p ∷ ps) qs least = (least.0, least_first (slice_set bits p true) ps qs least.1)

-- and the others are, once these are taken
pub least_others : (bits : List Bool) (ps qs : List ℕ) → AreLeastClear bits (ps ++ qs)
    → AreLeastClear (all_set bits ps true) qs
least_others bits [] qs least = least
least_others bits (p ∷ ps) qs least = least_others (slice_set bits p true) ps qs least.1
