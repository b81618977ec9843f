-- Replacements laid one after another: what is laid so far, with whatever is laid of the others, is laid of all.
use Rattle.std.proofs.Common.{◌≡◌, ◌∙◌, ℕ, List, [], ◌∷◌, ◌++◌, refl, sym, ap, subst, append_assoc, append-nil}
use Rattle.std.proofs.Common.{drop, get_or, length, take, ◌<◌, ◌+◌, arith}
use Rattle.std.specs.List.{AllByRecursion}
use Rattle.std.proofs.lemmas.List.{take_more}
use Rattle.store_model.specs.Maps.{Chains}
use Rattle.running_store.specs.declared.replacements.LaidReplacement.{LaidReplacement}
use Rattle.job_begins.specs.JobSteps.{behind, chained, chains_after, head_of, needs_of, needs_together}
use Rattle.job_begins.specs.JobSteps.{AreLaidOn, IsLaidOn, IsStep}
use Rattle.job_begins.specs.declared.steps.Step.{Step}

-- one more is made behind the others
pub after_push : (chains : Chains) (laid : List LaidReplacement) (one : LaidReplacement)
    → chains_after chains (laid ++ one ∷ []) ≡ chained (chains_after chains laid) one.change
after_push chains [] one = refl
after_push chains (x ∷ xs) one = after_push (chained chains x.change) xs one

-- so are the first of them
pub after_more : (chains : Chains) (laid : List LaidReplacement) (index : ℕ) (one : LaidReplacement)
    → index < length laid → get_or laid index one ≡ one
    → chained (chains_after chains (take index laid)) one.change ≡ chains_after chains (take (index + 1) laid)
after_more chains laid index one low is =
    sym (ap (chains_after chains) (take_more laid index one low ∙ ap (λ x. take index laid ++ x ∷ []) is)
    ∙ after_push chains (take index laid) one)

module _ (chains : Chains) (steps : List Step) (taken : List ℕ) where
  -- of the replacements these are left, and of the places those from this one on
  pub record LaysOn (left : List Step) (at : ℕ) (laid : List LaidReplacement) : Type 0 where
    pub all : AllByRecursion IsStep left
    pub count : at + needs_together left ≡ length taken
    pub on : (later : List LaidReplacement) → AreLaidOn (chains_after chains laid) left (drop at taken) later
        → AreLaidOn chains steps taken (laid ++ later)

  pub begins : AllByRecursion IsStep steps → length taken ≡ needs_together steps → LaysOn steps 0 []
  begins all count = record { all = all; count = omega (arith, count); on = λ later is. is }

  pub goes_on : (x : Step) (left : List Step) (at : ℕ) (laid : List LaidReplacement) (one : LaidReplacement)
      → LaysOn (x ∷ left) at laid
      → IsLaidOn (behind (chains_after chains laid) (head_of x)) x (take (needs_of x) (drop at taken)) one
      → drop (needs_of x) (drop at taken) ≡ drop (at + needs_of x) taken
      → LaysOn left (at + needs_of x) (laid ++ one ∷ [])
  goes_on x left at laid one so_far is dropped = record {
    all = so_far.all.1;
    count = let c = so_far.count in omega (arith, c);
    on = λ later rest. subst (AreLaidOn chains steps taken) (sym (append_assoc laid (one ∷ []) later))
        (so_far.on (one ∷ later) (
          is,
          subst (λ (t : List ℕ). AreLaidOn (chained (chains_after chains laid) one.change) left t later)
              (sym dropped)
              (subst (λ (c : Chains). AreLaidOn c left (drop (at + needs_of x) taken) later)
              (after_push chains laid one) rest),
        ));
  }

  pub ends : (at : ℕ) (laid : List LaidReplacement) → LaysOn [] at laid → AreLaidOn chains steps taken laid
  ends at laid so_far = subst (AreLaidOn chains steps taken) (append-nil laid) (so_far.on [] refl)
