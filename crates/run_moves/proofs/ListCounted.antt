-- How many turns and replacements the job of a command has, once it is laid on pages.
use Rattle.std.proofs.Common.{◌≡◌, ℕ, suc, ◌+◌, ◌*◌, ◌<◌, ◌≤◌, Bool, true, false, List, [], ◌∷◌, length, Option}
use Rattle.std.proofs.Common.{None, Some, refl, sym, ap, ◌∙◌, inl, inr, arith}
use Rattle.std.specs.Prelude.{◌-◌, ◌==◌, if◌then◌else◌}
use Rattle.std.specs.Option.{option_map}
use Rattle.std.proofs.lemmas.Bool.{cases_Bool, cases_eq, eq-eqb, ne_eqb}
use Rattle.super_block.specs.declared.page.Super.{Super}
use Rattle.blob_meta.specs.declared.job.Replacement.{Replacement}
use Rattle.blob_meta.specs.declared.meta.Meta.{Meta}
use Rattle.store_model.specs.Jobs.{AreLaid, IsLaid}
use Rattle.store_model.specs.Maps.{Chains, Metas}
use Rattle.store_model.specs.Phases.{Committing, erasing, has_commit, rechained, replaced, Replaces}
use Rattle.store_model.specs.Phases.{Replacing}
use Rattle.store_model.specs.Phases.{taken_by, todo_of}
use Rattle.store_model.specs.Places.{all_set}
use Rattle.store_model.specs.StoreState.{ForCommand}
use Rattle.store_model.proofs.LeftToDo.{chain_there}
use Rattle.store_model.proofs.ListLaid.{takes_least}
use Rattle.store_model.proofs.Phases.{commit_behind, commit_old}
use Rattle.store_model.proofs.Sets.{length_all_set}
use Rattle.store_model.proofs.WithEntry.{option_elsewhere, option_here}
use Rattle.run_work.specs.Work.{replacements_in}
use Rattle.run_moves.specs.Projection.{phases_in_run}
use Rattle.run_moves.specs.Sizes.{replacement_turns}
use Rattle.run_moves.proofs.JobPhases as phases

-- no chain has more places than there are metadata pages, and one
abbrev pub AreShort : Super → Chains → Type 0
AreShort s chains = (head : ℕ) (places : List ℕ) → chains head ≡ Some places → length places ≤ s.md_len + 1

-- ---- one replacement

module _ (s : Super) (base : Metas) (chains : Chains) (pages : List Bool) (claimed : List ℕ) (x : Replacement)
    (r : Replacing) (laid : IsLaid s base chains pages claimed x r) (count : length pages ≡ s.md_len)
    (short : AreShort s chains) where
  fresh_few : length r.fresh ≤ s.md_len
  fresh_few =
      let a = phases.few_clear pages (taken_by r) (takes_least s base chains pages claimed x r laid) in
      let b = taken r.makes in
      omega (arith, a, b, count)
    where
      taken : (makes : Bool) → length r.fresh ≤ length (if makes then r.head ∷ r.fresh else r.fresh)
      taken true = omega arith
      taken false = omega arith

  old_few : length r.old ≤ s.md_len
  old_few = elim (cases_Bool r.makes) [
    | inl makes ↦ let none : length r.old ≡ 0 = ap length (laid.unerased makes) in omega (arith, none)
    | inr there ↦ let few = short r.head (r.head ∷ r.old) (laid.chain ∙ chain_there r there) in omega (arith, few)
  ]

  -- it has no more turns than there may be
  pub replacement_short : length r.fresh + suc (length r.old) ≤ replacement_turns s
  replacement_short = let a = fresh_few in let b = old_few in omega (arith, a, b)

  -- and leaves chains that are short
  pub leaves_short : AreShort s (rechained chains r)
  leaves_short head places is = elim (cases_eq head r.head) [
    | inl e ↦ here r.new (sym (option_here chains r.head (option_map (λ m. r.head ∷ r.fresh) r.new) head e) ∙ is)
    | inr ne ↦ short head places
        (sym (option_elsewhere chains r.head (option_map (λ m. r.head ∷ r.fresh) r.new) head ne) ∙ is)
  ]
    where
      here : (o : Option Meta) → option_map (λ m. r.head ∷ r.fresh) o ≡ Some places → length places ≤ s.md_len + 1
      here None bad = absurd (cc bad)
      here (Some new) same =
          let one : r.head ∷ r.fresh ≡ places = cc same in
          let few = fresh_few in
          let long : length places ≡ suc (length r.fresh) = sym (ap length one) in
          omega (arith, few, long)

  leaves_count : length (all_set pages (taken_by r) true) ≡ s.md_len
  leaves_count = length_all_set pages (taken_by r) true ∙ count

-- ---- a list

module _ (s : Super) (commit : Committing) where
  -- no more turns than each replacement may have
  pub list_short : (base : Metas) (chains : Chains) (pages : List Bool) (claimed : List ℕ) (list : List Replacement)
      (laid_list : List Replacing) (number : ℕ) → AreLaid s base chains pages claimed list laid_list
      → length pages ≡ s.md_len → AreShort s chains
      → length (todo_of laid_list number commit) ≤ length list * replacement_turns s
  list_short base chains pages claimed [] [] number laid count short = omega arith
  list_short base chains pages claimed (x ∷ xs) (r ∷ rs) number laid count short =
      let a = phases.length_phases r (if number == 1 then Some commit else None) (todo_of rs (number - 1) commit) in
      let b = replacement_short s base chains pages claimed x r laid.0 count short in
      let c = list_short (replaced base r) (rechained chains r) (all_set pages (taken_by r) true) [] xs rs (number - 1)
      laid.1 (leaves_count s base chains pages claimed x r laid.0 count short)
      (leaves_short s base chains pages claimed x r laid.0 count short) in
      let d : suc (length xs) * replacement_turns s ≡ replacement_turns s + length xs * replacement_turns s =
      grind arith in
      omega (arith, a, b, c, d)
  list_short base chains pages claimed [] (r ∷ rs) number laid count short = absurd laid
  list_short base chains pages claimed (x ∷ xs) [] number laid count short = absurd laid

  -- as many replacements as there are in the list
  pub list_replaces : (channel : ℕ) (list : List Replacing) (number : ℕ)
      → replacements_in (phases_in_run (ForCommand channel) (todo_of list number commit)) ≡ length list
  list_replaces channel [] number = refl
  list_replaces channel (r ∷ rs) number =
      phases.replacements_writing (ForCommand channel) r.fresh (Replaces r
      (if number == 1 then Some commit else None) ∷ erasing r.old r.old (todo_of rs (number - 1) commit))
      ∙ one (if number == 1 then Some commit else None)
      ∙ ap (λ n. suc n) (phases.replacements_erasing (ForCommand channel) r.old r.old (todo_of rs (number - 1) commit)
      ∙ list_replaces channel rs (number - 1))
    where
      one : (o : Option Committing) → replacements_in (phases_in_run (ForCommand channel)
          (Replaces r o ∷ erasing r.old r.old (todo_of rs (number - 1) commit)))
          ≡ suc (replacements_in (phases_in_run (ForCommand channel)
          (erasing r.old r.old (todo_of rs (number - 1) commit))))
      one None = refl
      one (Some x) = refl

  -- each is of one of the changes
  pub laid_length : (base : Metas) (chains : Chains) (pages : List Bool) (claimed : List ℕ) (list : List Replacement)
      (laid_list : List Replacing) → AreLaid s base chains pages claimed list laid_list
      → length laid_list ≡ length list
  laid_length base chains pages claimed [] [] laid = refl
  laid_length base chains pages claimed (x ∷ xs) (r ∷ rs) laid = ap (λ n. suc n)
      (laid_length (replaced base r) (rechained chains r) (all_set pages (taken_by r) true) [] xs rs laid.1)
  laid_length base chains pages claimed [] (r ∷ rs) laid = absurd laid
  laid_length base chains pages claimed (x ∷ xs) [] laid = absurd laid

  -- the commit is among them
  pub list_commits : (list : List Replacing) (number : ℕ) → 0 < number → number ≤ length list
      → has_commit (todo_of list number commit) ≡ true
  list_commits [] number some within = absurd (omega (arith, some, within))
  list_commits (r ∷ rs) number some within =
      commit_behind r.fresh (Replaces r (if number == 1 then Some commit else None)
      ∷ erasing r.old r.old (todo_of rs (number - 1) commit))
      ∙ elim (cases_eq number 1) [
        | inl one ↦ ap (λ b. has_commit (Replaces r (if b then Some commit else None)
            ∷ erasing r.old r.old (todo_of rs (number - 1) commit))) (eq-eqb number 1 one)
        | inr more ↦ ap (λ b. has_commit (Replaces r (if b then Some commit else None)
            ∷ erasing r.old r.old (todo_of rs (number - 1) commit))) (ne_eqb number 1 more)
            ∙ commit_old r.old r.old (todo_of rs (number - 1) commit)
            ∙ list_commits rs (number - 1) (omega (arith, some, more)) (omega (arith, within, some, more))
      ]
