use Rattle.std.proofs.Common.{◌≡◌, ◌∙◌, ◌+◌, ◌-◌, ℕ, refl, sym, ap, arith, drop, subst, take, length, List, [], ◌∷◌}
use Rattle.std.specs.FinMap as map
use Rattle.std.proofs.lemmas.List.{drop-drop}
use Rattle.running_store.specs.declared.replacements.LaidReplacement.{LaidReplacement}
use Rattle.job_begins.specs.JobSteps.{behind, chains_after, head_of, needs_of, IsLaidOn}
use Rattle.job_begins.specs.declared.steps.Step.{Step}
use Rattle.job_begins.proofs.LayingOn.{ends, goes_on, LaysOn}
use Rattle.job_begins.proofs.steps.lay_all.Goals as goal

empty : (l : List Step) → length l ≡ 0 → l ≡ []
empty [] is = refl
empty (x ∷ xs) is = absurd (cc is)

pub loop-step-preserved : goal.loop-step-preserved
loop-step-preserved c =
    let x = c.in-Some.step in
    let chains = map.get c.args.chains.now in
    let taken = c.args.taken.now in
    let at = c.loop-step.at in
    let laid = c.loop-step.laid.items in
    let so_far : LaysOn chains c.args.steps.items taken (x ∷ c.pop_front.new.self.items) at laid =
    subst (λ (l : List Step). LaysOn chains c.args.steps.items taken l at laid) c.in-Some.ensures.items
    c.loop-step.invariant in
    let count : (at + c.needs.result) - at ≡ needs_of x = let n = c.needs.ensures in omega (arith, n) in
    let old : c.in_ok-old.old ≡ behind (chains_after chains laid) (head_of x) =
    c.in_ok-old.ensures
    ∙ ap (λ (l : List LaidReplacement). behind (chains_after chains l) c.head.result) c.as_slice.ensures.value
    ∙ ap (λ (h : ℕ). behind (chains_after chains laid) h) c.head.ensures in
    let laid_on = subst (λ (o : List ℕ). IsLaidOn o x (take (needs_of x) (drop at taken)) c.in_ok-one.one) old
    (subst (λ (n : ℕ). IsLaidOn c.in_ok-old.old x (take n (drop at taken)) c.in_ok-one.one) count
    c.in_ok-one.ensures) in
    rw (c.needs.ensures, c.in_ok-push.ensures.items)
    (goes_on chains c.args.steps.items taken x c.pop_front.new.self.items at laid c.in_ok-one.one so_far laid_on
    (drop-drop (needs_of x) at taken))

pub returns : goal.returns
returns c =
    let none = empty c.loop-step.steps.items (sym c.loop-step.steps.ok.0 ∙ c.in_default.ensures.cases.0) in
    ends (map.get c.args.chains.now) c.args.steps.items c.args.taken.now c.loop-step.at c.loop-step.laid.items
    (subst (λ (l : List Step). LaysOn (map.get c.args.chains.now) c.args.steps.items c.args.taken.now l
    c.loop-step.at c.loop-step.laid.items) none c.loop-step.invariant)
