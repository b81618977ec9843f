-- The replacements of a job before pages are taken for them, and laid on pages, one after another.
use Rattle.std.specs.Prelude.{◌≡◌, ◌+◌, ℕ, Bool, true, false, drop, is_some, take, List, [], ◌∷◌, None, Some}
use Rattle.std.specs.List.{AllByRecursion}
use Rattle.std.specs.Option.{option_map_or}
use Rattle.blob_meta.specs.declared.job.Replacement.{Replacement}
use Rattle.store_model.specs.Maps.{with_option, Chains}
use Rattle.store_model.specs.Places.{AreDistinct}
use Rattle.running_store.specs.Jobs.{erases_laid, job_left, job_seen, phases_in, to_come, writes_laid, IsHeaded}
use Rattle.running_store.specs.Jobs.{IsRemovedFor}
use Rattle.running_store.specs.declared.job.RunningJob.{RunningJob}
use Rattle.running_store.specs.declared.job.Serves.{Serves}
use Rattle.running_store.specs.declared.replacements.Change.{Change}
use Rattle.running_store.specs.declared.replacements.Change.TheVariants as change
use Rattle.running_store.specs.declared.replacements.LaidReplacement.{LaidReplacement}
use Rattle.running_store.specs.declared.replacements.Planned.{Planned}
use Rattle.job_begins.specs.Begins.{behind_in, IsFreshHead}
use Rattle.job_begins.specs.Drafts.{draft_needs, IsDraft, IsPlannedOn}
use Rattle.job_begins.specs.JobPages.{ArePagesTaken}
use Rattle.job_begins.specs.declared.drafts.Draft.{Draft}
use Rattle.job_begins.specs.declared.steps.Step.{Step}
use Rattle.job_begins.specs.declared.steps.Step.TheVariants as step

-- ---- before pages are taken

abbrev pub head_of : Step → ℕ
head_of (step.Writes x) = x.head
head_of (step.Erases e) = e.head

-- the change of metadata that it makes
abbrev pub change_of : Step → Replacement
change_of (step.Writes x) = record { head = x.head; new = Some x.new }
change_of (step.Erases e) = record { head = e.head; new = None }

-- its blob is new
abbrev pub makes_blob : Step → Bool
makes_blob (step.Writes x) = is_some x.effects.rooms.chain
makes_blob (step.Erases e) = false

-- its draft is made
abbrev pub IsStep : Step → Type 0
IsStep (step.Writes x) = IsDraft x
IsStep (step.Erases e) = Unit {0}

-- Its draft is made; it claims no cluster, and each that it frees is freed once.
abbrev pub IsStepFor : Serves → Step → Type 0
IsStepFor serves (step.Writes x) = IsDraft x × AreDistinct x.effects.freed × (x.effects.claimed ≡ [])
IsStepFor serves (step.Erases e) = IsRemovedFor serves e

-- how many pages one takes, and all
abbrev pub needs_of : Step → ℕ
needs_of (step.Writes x) = draft_needs x
needs_of (step.Erases e) = 0

abbrev pub needs_together : List Step → ℕ
needs_together [] = 0
needs_together (x ∷ xs) = needs_of x + needs_together xs

-- Only the first may make a blob, whose head is the page that is next.
abbrev pub MakesNext : List Bool → List Step → Type 0
MakesNext pages [] = Unit {0}
MakesNext pages (x ∷ xs) =
    (makes_blob x ≡ true → IsFreshHead pages (head_of x)) × AllByRecursion (λ y. makes_blob y ≡ false) xs

-- ---- on pages

-- the places behind a head
abbrev pub behind : Chains → ℕ → List ℕ
behind chains head = option_map_or (λ chain. drop 1 chain) (chains head) []

-- the chains once a change is made, and once all are
abbrev pub chained : Chains → Change → Chains
chained chains (change.Writes p) = with_option chains p.head (Some (p.head ∷ drop 1 p.chain))
chained chains (change.Erases e) = with_option chains e.head None

abbrev pub chains_after : Chains → List LaidReplacement → Chains
chains_after chains [] = chains
chains_after chains (x ∷ xs) = chains_after (chained chains x.change) xs

-- new metadata on these pages, in place of those
pub record IsWrittenOn (old : List ℕ) (x : Draft) (taken : List ℕ) (laid : LaidReplacement) : Type 0 where
  pub planned : Planned
  pub on : IsPlannedOn x (behind_in (is_some x.effects.rooms.chain) taken) planned
  pub laid_is : laid ≡ writes_laid planned old

abbrev pub IsLaidOn : List ℕ → Step → List ℕ → LaidReplacement → Type 0
IsLaidOn old (step.Writes x) taken laid = IsWrittenOn old x taken laid
IsLaidOn old (step.Erases e) taken laid = laid ≡ erases_laid e old

-- each on its own pages, over what the ones before it leave
abbrev pub AreLaidOn : Chains → List Step → List ℕ → List LaidReplacement → Type 0
AreLaidOn chains [] taken laid = laid ≡ []
AreLaidOn chains (x ∷ xs) taken [] = ⊥
AreLaidOn chains (x ∷ xs) taken (l ∷ ls) =
    IsLaidOn (behind chains (head_of x)) x (take (needs_of x) taken) l
    × AreLaidOn (chained chains l.change) xs (drop (needs_of x) taken) ls

-- The job makes these replacements, on pages that are taken for it.
pub record IsJobOn (chains : Chains) (steps : List Step) (serves : Serves) (old new : List Bool) (job : RunningJob)
    : Type 0 where
  pub taken : List ℕ
  pub pages : ArePagesTaken (needs_together steps) old new taken
  pub laid : AreLaidOn chains steps taken (to_come job)
  pub seen : Some (job_seen job) ≡ job_left serves (phases_in (to_come job))
  pub headed : IsHeaded job
  pub unmarked : job.marks ≡ false
