-- The job that is left between two replacements.
use Rattle.std.proofs.Common.{◌≡◌, ℕ, ◌<◌, Bool, false, List, [], ◌∷◌, length, Some, refl, sym, ◌∙◌, ap, subst, arith}
use Rattle.std.proofs.Common.{drop}
use Rattle.store_model.specs.Phases.{Phase, Replaces, erasing, writing}
use Rattle.store_model.specs.StoreState.{going_on, JobState, marked}
use Rattle.running_store.specs.Jobs.{commit_in, erasing_for, freeze_of, job_left, phases_in, replacing_of, service_of}
use Rattle.running_store.specs.Jobs.{erases_laid, job_seen, writes_laid, writing_for, IsFollowing, MayFollow}
use Rattle.running_store.specs.declared.job.RunningJob.{RunningJob}
use Rattle.running_store.specs.declared.job.Work.TheVariants as work
use Rattle.running_store.specs.declared.replacements.Change.{Change}
use Rattle.running_store.specs.declared.replacements.Change.TheVariants as change
use Rattle.running_store.specs.declared.job.Serves.{Serves}
use Rattle.running_store.specs.declared.job.Serves.TheVariants as whom
use Rattle.running_store.specs.declared.replacements.Erasure.{Erasure}
use Rattle.running_store.specs.declared.replacements.LaidReplacement.{LaidReplacement}
use Rattle.running_store.specs.declared.replacements.Planned.{Planned}

-- a job goes on with what is left
pub goes_on_left : (serves : Serves) (j : JobState) → j.serves ≡ service_of serves → j.freeze ≡ freeze_of serves
    → j.claimed ≡ [] → (todo : List Phase) → going_on j [] todo ≡ job_left serves todo
goes_on_left serves j served freeze claimed [] = refl
goes_on_left serves j served freeze claimed (x ∷ xs) = rw (served, freeze, claimed) refl

-- with a replacement that claims no cluster,
pub left_writing : (serves : Serves) (p : Planned) (old : List ℕ) (others : List Phase) → p.effects.claimed ≡ []
    → Some (writing_for serves p old 0 others)
    ≡ job_left serves (writing (drop 1 p.chain) (Replaces (replacing_of p old) (commit_in p) ∷ erasing old old others))
left_writing serves p old others none =
    ap (λ (l : List ℕ). Some (record (writing_for serves p old 0 others) { claimed = l })) none
    ∙ sym (by (drop 1 p.chain))
  where
    by : (fresh : List ℕ)
        → job_left serves (writing fresh (Replaces (replacing_of p old) (commit_in p) ∷ erasing old old others))
        ≡ Some (record {
          serves = service_of serves;
          freeze = freeze_of serves;
          claimed = [];
          written = [];
          todo = writing fresh (Replaces (replacing_of p old) (commit_in p) ∷ erasing old old others);
        })
    by [] = refl
    by (x ∷ xs) = refl

-- or with the old pages of the one before it.
pub left_erasing : (serves : Serves) (old : List ℕ) (others : List Phase) → 0 < length old
    → Some (erasing_for serves old 0 others) ≡ job_left serves (erasing old old others)
left_erasing serves [] others some = absurd (omega (arith, some))
left_erasing serves (o ∷ []) others some = refl
left_erasing serves (o ∷ p ∷ ps) others some = refl

-- ---- the first of the replacements to come

pub first_follows : (serves : Serves) (x : LaidReplacement) (xs : List LaidReplacement) → MayFollow serves (x ∷ xs)
    → IsFollowing serves x × MayFollow serves xs
first_follows (whom.Command channel freeze) x xs may = may
first_follows (whom.Insert channel) x xs may = absurd (cc may)
first_follows whom.Repair x xs may = absurd (cc may)

claims_none : (serves : Serves) (x : LaidReplacement) (p : Planned) → x.change ≡ change.Writes p
    → IsFollowing serves x → p.effects.claimed ≡ []
claims_none serves x p is follows = (subst (λ (c : Change). IsFollowing serves (record x { change = c })) is follows).1

-- a job that begins with the first of these
pub next_writes : (j : RunningJob) (x : LaidReplacement) (p : Planned) → x.change ≡ change.Writes p → x.old ≡ j.old
    → j.work ≡ work.Writing p 0 → j.marks ≡ false → MayFollow j.serves (x ∷ j.later.items)
    → Some (job_seen j) ≡ job_left j.serves (phases_in (x ∷ j.later.items))
next_writes j x p is old at marks may =
    rw (at, marks) (left_writing j.serves p j.old (phases_in j.later.items)
    (claims_none j.serves x p is (first_follows j.serves x j.later.items may).0))
    ∙ ap (λ (y : LaidReplacement). job_left j.serves (phases_in (y ∷ j.later.items))) same
  where
    same : writes_laid p j.old ≡ x
    same i = record { change = sym is i; old = sym old i }

pub next_erases : (j : RunningJob) (x : LaidReplacement) (e : Erasure) → x.change ≡ change.Erases e → x.old ≡ j.old
    → j.work ≡ work.Removing e → j.marks ≡ false → Some (job_seen j) ≡ job_left j.serves (phases_in (x ∷ j.later.items))
next_erases j x e is old at marks =
    rw (at, marks) refl ∙ ap (λ (y : LaidReplacement). job_left j.serves (phases_in (y ∷ j.later.items))) same
  where
    same : erases_laid e j.old ≡ x
    same i = record { change = sym is i; old = sym old i }

-- ---- the mark before a job

-- a job that marks nothing, with a mark before it or without one
pub seen_with_mark : (j : RunningJob) → j.marks ≡ false → (marks : Bool)
    → job_seen (record j { marks = marks }) ≡ marked marks (job_seen j)
seen_with_mark j none marks = ap (λ (b : Bool). marked marks (job_seen (record j { marks = b }))) (sym none)
