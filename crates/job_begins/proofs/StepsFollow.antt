-- The replacements of a command's job, as they are taken up one after another.
use Rattle.std.proofs.Common.{◌≡◌, ◌∙◌, ℕ, ◌+◌, ◌<◌, ◌≤◌, List, [], ◌∷◌, ◌++◌, drop, get_or, length, take}
use Rattle.std.proofs.Common.{sym, ap, subst, arith}
use Rattle.std.specs.List.{AllByRecursion}
use Rattle.std.proofs.lemmas.List.{take_more, take-append-drop}
use Rattle.store_model.specs.Maps.{Chains}
use Rattle.running_store.specs.Jobs.{IsFollowing}
use Rattle.running_store.specs.declared.job.Serves.{Serves}
use Rattle.running_store.specs.declared.replacements.LaidReplacement.{LaidReplacement}
use Rattle.running_store.specs.declared.replacements.Planned.{Planned}
use Rattle.job_begins.specs.JobSteps.{chained, needs_of, needs_together, AreLaidOn, IsLaidOn, IsStep, IsStepFor}
use Rattle.job_begins.specs.declared.steps.Step.{Step}
use Rattle.job_begins.specs.declared.steps.Step.TheVariants as step
use Rattle.job_begins.proofs.ListParts.{planned_as, planned_matched}

-- each is a step, whomever it is for
pub are_steps : (serves : Serves) (xs : List Step) → AllByRecursion (IsStepFor serves) xs → AllByRecursion IsStep xs
are_steps serves [] all = tt
are_steps serves (step.Writes x ∷ xs) all = (all.0.0, are_steps serves xs all.1)
are_steps serves (step.Erases e ∷ xs) all = (tt, are_steps serves xs all.1)

follows_one : (serves : Serves) (old : List ℕ) (x : Step) (taken : List ℕ) (laid : LaidReplacement)
    → IsStepFor serves x → IsLaidOn old x taken laid → IsFollowing serves laid
follows_one serves old (step.Writes x) taken laid is on = subst (IsFollowing serves) (sym on.laid_is) (
  planned_matched x _ on.planned on.on is.1,
  ap (λ (p : Planned). p.effects.claimed) (planned_as x _ on.planned on.on) ∙ is.2,
)
follows_one serves old (step.Erases e) taken laid is on = subst (IsFollowing serves) (sym on) is

-- laid, they may follow one another
pub all_follow : (serves : Serves) (chains : Chains) (xs : List Step) (taken : List ℕ) (laid : List LaidReplacement)
    → AllByRecursion (IsStepFor serves) xs → AreLaidOn chains xs taken laid → AllByRecursion (IsFollowing serves) laid
all_follow serves chains [] taken laid all on = subst (AllByRecursion (IsFollowing serves)) (sym on) tt
all_follow serves chains (x ∷ xs) taken [] all on = absurd on
all_follow serves chains (x ∷ xs) taken (l ∷ ls) all on = (
  follows_one serves _ x _ l all.0 on.0,
  all_follow serves (chained chains l.change) xs _ ls all.1 on.1,
)

-- where there are some, some are laid
pub none_laid : (chains : Chains) (xs : List Step) (taken : List ℕ) (laid : List LaidReplacement) → 0 < length xs
    → AreLaidOn chains xs taken laid → laid ≡ [] → ⊥
none_laid chains [] taken laid some on none = omega (arith, some)
none_laid chains (x ∷ xs) taken [] some on none = on
none_laid chains (x ∷ xs) taken (l ∷ ls) some on none = absurd (cc none)

-- ---- how many pages they take

needs_append : (xs ys : List Step) → needs_together (xs ++ ys) ≡ needs_together xs + needs_together ys
needs_append [] ys = omega arith
needs_append (x ∷ xs) ys = let rest = needs_append xs ys in omega (arith, rest)

-- one more takes its own,
pub needs_more : (xs : List Step) (index : ℕ) (x : Step) → index < length xs → get_or xs index x ≡ x
    → needs_together (take (index + 1) xs) ≡ needs_together (take index xs) + needs_of x
needs_more xs index x low is =
    ap needs_together (take_more xs index x low ∙ ap (λ y. take index xs ++ y ∷ []) is)
    ∙ (let both = needs_append (take index xs) (x ∷ []) in omega (arith, both))

-- and the first of them take no more than all
pub needs_within : (count : ℕ) (xs : List Step) → needs_together (take count xs) ≤ needs_together xs
needs_within count xs =
    let parts = needs_append (take count xs) (drop count xs) in
    let all : needs_together (take count xs ++ drop count xs) ≡ needs_together xs =
    ap needs_together (take-append-drop count xs) in
    omega (arith, parts, all)
