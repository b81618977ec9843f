-- A job on volumes, their parents and clones, laid on pages: what all its phases do.
use Rattle.std.proofs.Common.{◌≡◌, ◌⊎◌, ℕ, zero, suc, ◌+◌, ◌<◌, ◌≤◌, Bool, true, false, List, [], ◌∷◌, length, None}
use Rattle.std.proofs.Common.{Some}
use Rattle.std.proofs.Common.{refl, sym, ap, ◌∙◌, subst, inl, inr, arith}
use Rattle.std.specs.Prelude.{◌-◌, if◌then◌else◌, drop, take}
use Rattle.std.proofs.lemmas.Bool.{cases_eq, false≢true, ne_eqb}
use Rattle.page_disk.specs.Disk.{Image}
use Rattle.volume_model.specs.declared.command.Command.{Command}
use Rattle.blob_meta.specs.declared.job.Job.{Job as Changes}
use Rattle.blob_meta.specs.declared.job.Replacement.{Replacement}
use Rattle.blob_meta.specs.Repairs.{after, HasNoMarks, with_replacement}
use Rattle.blob_meta.specs.Resolving.{resolved}
use Rattle.md_chain.specs.Chain.{is_among}
use Rattle.shown_volumes.specs.EmptySlots.{Anything}
use Rattle.shown_volumes.specs.ShowsStep.{part_of}
use Rattle.store_model.specs.Jobs.{AreLaid, Does, IsJobPlanned, IsLaid, IsUnseen, Keeps, ReadsZeros}
use Rattle.store_model.specs.Maps.{Chains, Metas}
use Rattle.store_model.specs.Phases.{Committing, erasing, has_commit, phases_of, rechained, replaced, Replaces}
use Rattle.store_model.specs.Phases.{Replacing}
use Rattle.store_model.specs.Phases.{taken_by, todo_of}
use Rattle.store_model.specs.Places.{all_set}
use Rattle.store_model.proofs.FamilyStep.{family_made, family_step, IsFamilyJob}
use Rattle.store_model.proofs.Known.{Known}
use Rattle.store_model.proofs.ListLaid.{lays_list, leads_list, replaced_as}
use Rattle.store_model.proofs.Phases.{commit_behind, commit_old}
use Rattle.store_model.proofs.PhasesOfOne.{commits_phases, does_phases, keeps_phases}
use Rattle.store_model.proofs.ReadyJob.{IsReadyJob}

-- ---- parts of a list

-- the part with one more
part_next : (list : List Replacement) (base : Metas) (i : ℕ) (x : Replacement) (xs : List Replacement)
    → drop i list ≡ x ∷ xs → after base (take (suc i) list) ≡ with_replacement (after base (take i list)) x
part_next list base zero x xs is = ap (λ l. after base (take 1 l)) is
part_next [] base (suc i) x xs is = absurd (cc is)
part_next (y ∷ list) base (suc i) x xs is = part_next list (with_replacement base y) i x xs is

-- and what is left behind it
left_next : (list : List Replacement) (i : ℕ) (x : Replacement) (xs : List Replacement) → drop i list ≡ x ∷ xs
    → drop (suc i) list ≡ xs
left_next list zero x xs is = ap (λ l. drop 1 l) is
left_next [] (suc i) x xs is = absurd (cc is)
left_next (y ∷ list) (suc i) x xs is = left_next list i x xs is

-- there is one
left_some : (list : List Replacement) (i : ℕ) (x : Replacement) (xs : List Replacement) → drop i list ≡ x ∷ xs
    → i < length list
left_some [] zero x xs is = absurd (cc is)
left_some (y ∷ list) zero x xs is = omega arith
left_some [] (suc i) x xs is = absurd (cc is)
left_some (y ∷ list) (suc i) x xs is = let less = left_some list i x xs is in omega (arith, less)

-- behind the commit no other is to come
no_commit_left : (list : List Replacing) (commit : Committing) → has_commit (todo_of list 0 commit) ≡ false
no_commit_left [] commit = refl
no_commit_left (r ∷ rs) commit =
    commit_behind r.fresh (Replaces r None ∷ erasing r.old r.old (todo_of rs 0 commit))
    ∙ commit_old r.old r.old (todo_of rs 0 commit) ∙ no_commit_left rs commit

-- ---- what the phases of a family's job do

module _ (known : Known) (unmarked : HasNoMarks known.p.base) where
  open known use {p}

  module _ (command : Command) (job : Changes) (commit : Committing) (family : IsFamilyJob p command job commit)
      (before : ℕ) (y : Replacement) (ys : List Replacement) (commits : drop before job.list ≡ y ∷ ys)
      (number : job.commit ≡ before + 1) (numbers : (is_among y.head commit.renews ≡ true) ⊎ (y.new ≡ None)) where
    abbrev part : ℕ → Metas
    part = part_of job p.base

    within : job.commit ≤ length job.list
    within = let less = left_some job.list before y ys commits in omega (arith, less, number)

    -- one of them, laid over a part of the job, leads to the part with one more
    module _ (i : ℕ) (x : Replacement) (xs : List Replacement) (left : drop i job.list ≡ x ∷ xs) (m : Metas)
        (here : m ≡ part i) (chains : Chains) (pages : List Bool) (claimed : List ℕ) (r : Replacing)
        (laid : IsLaid p.super m chains pages claimed x r) where
      leads : replaced m r ≡ part (suc i)
      leads = replaced_as p.super m chains pages claimed x r laid ∙ ap (λ (b : Metas). with_replacement b x) here
          ∙ sym (part_next job.list p.base i x xs left)

      leads_here : replaced (part i) r ≡ part (suc i)
      leads_here = ap (λ (b : Metas). replaced b r) (sym here) ∙ leads

      -- nothing is seen of it where that part shows what this one does
      unseen : resolved (part (suc i)) ≡ resolved (part i) → IsUnseen m r
      unseen same = ap resolved leads ∙ same ∙ ap resolved (sym here)

      -- a blob that it makes is renewed with the commit
      numbered : job.commit ≡ i + 1 → r.makes ≡ true → is_among r.head commit.renews ≡ true
      numbered at makes = elim numbers [
        | inl among ↦ ap (λ h. is_among h commit.renews) (laid.head ∙ ap (λ (z : Replacement). z.head) same) ∙ among
        | inr none ↦ absurd (erased x.new laid.planned (ap (λ (z : Replacement). z.new) same ∙ none))
      ]
        where
          same : x ≡ y
          same =
              let here : i ≡ before = omega (arith, at, number) in
              let both : x ∷ xs ≡ y ∷ ys = sym left ∙ ap (λ n. drop n job.list) here ∙ commits in
              cc both

          erased : (o : _) → IsJobPlanned p.super pages o r → o ≡ None → ⊥
          erased None erasure is = false≢true (sym erasure.1 ∙ makes)
          erased (Some new) planned is = cc is

    -- behind the commit nothing is seen of any
    keeps_left : (i : ℕ) (xs : List Replacement) (rs : List Replacing) (m : Metas) (chains : Chains) (pages : List Bool)
        (claimed : List ℕ) → drop i job.list ≡ xs → job.commit ≤ i → m ≡ part i
        → AreLaid p.super m chains pages claimed xs rs → Keeps m (todo_of rs 0 commit)
    keeps_left i [] [] m chains pages claimed left behind here laid = tt
    keeps_left i (x ∷ xs) (r ∷ rs) m chains pages claimed left behind here laid =
        let less = left_some job.list i x xs left in
        let same : resolved (part (suc i)) ≡ resolved (part i) =
        family.shows.finished (suc i) (omega (arith, behind)) (omega (arith, less))
        ∙ sym (family.shows.finished i behind (omega (arith, less))) in
        keeps_phases m r (todo_of rs 0 commit) (unseen i x xs left m here chains pages claimed r laid.0 same)
        (keeps_left (suc i) xs rs (replaced m r) (rechained chains r) (all_set pages (taken_by r) true) []
        (left_next job.list i x xs left) (omega (arith, behind))
        (leads i x xs left m here chains pages claimed r laid.0) laid.1)
    keeps_left i [] (r ∷ rs) m chains pages claimed left behind here laid = absurd laid
    keeps_left i (x ∷ xs) [] m chains pages claimed left behind here laid = absurd laid

    -- up to it nothing is seen of any, and it is the command's step
    does_left : (n i : ℕ) (xs : List Replacement) (rs : List Replacing) (m : Metas) (chains : Chains)
        (pages : List Bool) (claimed : List ℕ) (Holds : Image → Type 0) → drop i job.list ≡ xs → n + i ≡ job.commit
        → 0 < n → m ≡ part i → AreLaid p.super m chains pages claimed xs rs
        → Does Holds p.super m p.live command (todo_of rs n commit)
    does_left n i [] [] m chains pages claimed Holds left at some here laid =
        absurd (none_left (length job.list) i left (omega (arith, at, some, within)))
      where
        none_left : (long i : ℕ) → drop i job.list ≡ [] → i < length job.list → ⊥
        none_left long i none less = nothing job.list i none less
          where
            nothing : (l : List Replacement) (i : ℕ) → drop i l ≡ [] → i < length l → ⊥
            nothing [] i none less = omega (arith, less)
            nothing (y ∷ l) zero none less = cc none
            nothing (y ∷ l) (suc i) none less = nothing l i none (omega (arith, less))
    does_left n i (x ∷ xs) (r ∷ rs) m chains pages claimed Holds left at some here laid = elim (cases_eq n 1) [
      | inl one ↦
          let now : job.commit ≡ i + 1 = omega (arith, at, one) in
          let next : replaced (part i) r ≡ part job.commit =
          leads_here i x xs left m here chains pages claimed r laid.0
          ∙ ap part (let same : suc i ≡ job.commit = omega (arith, now) in same) in
          subst (λ k. Does Holds p.super m p.live command (todo_of (r ∷ rs) k commit)) (sym one)
          (subst (λ (b : Metas). Does Holds p.super b p.live command (todo_of (r ∷ rs) 1 commit)) (sym here)
          (commits_phases Holds p.super (part i) p.live command r commit (todo_of rs 0 commit)
          (family_step known unmarked command job commit family i (omega (arith, now)) now within r next
          (numbered i x xs left m here chains pages claimed r laid.0 now) Holds)
          (no_commit_left rs commit)
          (subst (λ (b : Metas). Keeps (replaced b r) (todo_of rs 0 commit)) here
          (keeps_left (suc i) xs rs (replaced m r) (rechained chains r) (all_set pages (taken_by r) true) []
          (left_next job.list i x xs left) (omega (arith, now))
          (leads i x xs left m here chains pages claimed r laid.0) laid.1))))
      | inr more ↦
          let before : suc i < job.commit = omega (arith, at, some, more) in
          let same : resolved (part (suc i)) ≡ resolved (part i) =
          family.shows.undone (suc i) before ∙ sym (family.shows.undone i (omega (arith, before))) in
          subst (λ b. Does Holds p.super m p.live command
          (phases_of r (if b then Some commit else None) (todo_of rs (n - 1) commit))) (sym (ne_eqb n 1 more))
          (does_phases m r (todo_of rs (n - 1) commit) (unseen i x xs left m here chains pages claimed r laid.0 same)
          Holds p.super p.live command
          (does_left (n - 1) (suc i) xs rs (replaced m r) (rechained chains r) (all_set pages (taken_by r) true) []
          Anything (left_next job.list i x xs left) (omega (arith, at, some, more)) (omega (arith, some, more))
          (leads i x xs left m here chains pages claimed r laid.0) laid.1))
    ]
    does_left n i [] (r ∷ rs) m chains pages claimed Holds left at some here laid = absurd laid
    does_left n i (x ∷ xs) [] m chains pages claimed Holds left at some here laid = absurd laid

    -- the job is ready to begin
    pub family_ready : (list : List Replacing)
        → AreLaid p.super p.base p.chains p.pages [] job.list list
        → IsReadyJob p [] command job.commit commit list
    family_ready list laid = record {
      lays = lays_list p.super p.base p.chains p.pages [] job.list list job.commit commit laid
          (family_made known unmarked command job commit family) (λ _. refl);
      does = does_left job.commit 0 job.list list p.base p.chains p.pages [] (ReadsZeros p.super []) refl
          (omega arith) (omega (arith, number)) refl laid;
      unmarked = subst HasNoMarks (sym (leads_list p.super p.base p.chains p.pages [] job.list list job.commit commit
          laid)) (subst HasNoMarks (ap (after p.base) (all_taken job.list)) family.shows.unmarked);
    }
      where
        all_taken : (l : List Replacement) → take (length l) l ≡ l
        all_taken [] = refl
        all_taken (x ∷ xs) = ap (λ l. x ∷ l) (all_taken xs)
