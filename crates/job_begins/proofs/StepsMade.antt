-- Replacements that are laid, whatever pages they are laid on, and their job as it is seen.
use Rattle.std.proofs.Common.{◌≡◌, ◌∙◌, ℕ, Bool, true, false, List, [], ◌∷◌, Some, refl, sym, ap, subst}
use Rattle.std.proofs.lemmas.Bool.{both_ways}
use Rattle.md_chain.specs.declared.plan.PlannedPage.{PlannedPage}
use Rattle.store_model.specs.Maps.{Chains}
use Rattle.store_model.specs.Phases.{writing, Marks, Phase}
use Rattle.store_model.specs.StoreState.{JobState}
use Rattle.running_store.specs.Jobs.{erases_laid, freeze_of, job_left, job_seen, phases_for, phases_in, service_of}
use Rattle.running_store.specs.Jobs.{writes_laid}
use Rattle.running_store.specs.declared.job.RunningJob.{RunningJob}
use Rattle.running_store.specs.declared.job.Serves.{Serves}
use Rattle.running_store.specs.declared.replacements.Change.{Change}
use Rattle.running_store.specs.declared.replacements.Change.TheVariants as change
use Rattle.running_store.specs.declared.replacements.LaidReplacement.{LaidReplacement}
use Rattle.job_begins.specs.JobSteps.{chained, AreLaidOn}
use Rattle.job_begins.specs.declared.steps.Step.{Step}
use Rattle.job_begins.specs.declared.steps.Step.TheVariants as step
use Rattle.job_begins.proofs.ListParts.{planned_as, planned_of}

-- It holds of them on all pages that they may be laid on, in place of all that may stand behind their heads.
abbrev pub ForAllMade : List Step → (List LaidReplacement → Type 0) → Type 0
ForAllMade [] P = P []
ForAllMade (step.Writes x ∷ xs) P = (fresh : List ℕ) (pages : List PlannedPage) (old : List ℕ)
    → ForAllMade xs (λ ls. P (writes_laid (planned_of x fresh pages) old ∷ ls))
ForAllMade (step.Erases e ∷ xs) P = (old : List ℕ) → ForAllMade xs (λ ls. P (erases_laid e old ∷ ls))

-- So it does as they are laid.
pub all_made : (chains : Chains) (xs : List Step) (taken : List ℕ) (laid : List LaidReplacement)
    → AreLaidOn chains xs taken laid → (P : List LaidReplacement → Type 0) → ForAllMade xs P → P laid
all_made chains [] taken laid on P all = subst P (sym on) all
all_made chains (x ∷ xs) taken [] on P all = absurd on
all_made chains (step.Writes x ∷ xs) taken (l ∷ ls) on P all =
    let w = on.0 in
    all_made (chained chains l.change) xs _ ls on.1 (λ rest. P (l ∷ rest))
    (subst (λ (y : LaidReplacement). ForAllMade xs (λ rest. P (y ∷ rest)))
    (sym (w.laid_is ∙ ap (λ q. writes_laid q _) (planned_as x _ w.planned w.on))) (all _ w.on.laid.pages _))
all_made chains (step.Erases e ∷ xs) taken (l ∷ ls) on P all =
    all_made (chained chains l.change) xs _ ls on.1 (λ rest. P (l ∷ rest))
    (subst (λ (y : LaidReplacement). ForAllMade xs (λ rest. P (y ∷ rest))) (sym on.0) (all _))

-- ---- the job as it is seen

-- the job of which these phases are left
pub seen_as : (serves : Serves) (phases : List Phase) (job : JobState) → Some job ≡ job_left serves phases
    → job ≡ record { serves = service_of serves; freeze = freeze_of serves; claimed = []; written = []; todo = phases }
seen_as serves [] job is = absurd (cc is)
seen_as serves (x ∷ xs) job is = cc is

-- the first phase of replacements marks nothing
abbrev is_mark : List Phase → Bool
is_mark (Marks ∷ rest) = true
is_mark _ = false

no_mark : (list : List LaidReplacement) → is_mark (phases_in list) ≡ false
no_mark [] = refl
no_mark (x ∷ xs) = by x.change refl
  where
    written : (places : List ℕ) (p : Phase) (rest : List Phase) → is_mark (p ∷ rest) ≡ false
        → is_mark (writing places (p ∷ rest)) ≡ false
    written [] p rest is = is
    written (place ∷ places) p rest is = refl

    by : (c : Change) → x.change ≡ c → is_mark (phases_for x (phases_in xs)) ≡ false
    by (change.Writes p) is = rw is (written _ _ _ refl)
    by (change.Erases e) is = rw is refl

-- so the job doesn't either
pub unmarked : (job : RunningJob) (list : List LaidReplacement) → (job_seen job).todo ≡ phases_in list
    → job.marks ≡ false
unmarked job list is = by job.marks refl
  where
    by : (b : Bool) → job.marks ≡ b → job.marks ≡ false
    by false e = e
    by true e = absurd (both_ways (is_mark (phases_in list)) (no_mark list)
        (ap is_mark (sym is) ∙ (rw e refl)))
