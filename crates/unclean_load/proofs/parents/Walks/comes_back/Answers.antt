use Rattle.std.proofs.Common.{◌≡◌, ◌≢◌, ℕ, ◌<◌, Bool, true, false, List, length, get_or, Option, Some, None, is_some}
use Rattle.std.proofs.Common.{eqb, refl, sym, ap, ◌∙◌, arith}
use Rattle.std.proofs.lemmas.List.{get_or_default}
use Rattle.std.specs.Prelude.{not}
use Rattle.std.specs.Option.{option_eq}
use Rattle.std.specs.FinMap as map
use Rattle.std.proofs.lemmas.Bool.{eqb-true, eq-eqb, both_ways}
use Rattle.unclean_load.specs.Walks.{first_walk}
use Rattle.unclean_load.proofs.WalkSteps.{walk_on, walked_to_last, ended_at_last, came_back, came_to_end}
use Rattle.unclean_load.proofs.WalkSteps.{ended_here, walked_here}
use Rattle.unclean_load.proofs.parents.Walks.comes_back.Goals as goal

in_range : (l : List (Option ℕ)) (i : ℕ) (v : Option ℕ) → i < length l → v ≡ get_or l i v → first_walk l i ≡ v
in_range l i v lt is = get_or_default l i None v lt ∙ sym is

no_walk : (v : Option ℕ) (b : Bool) → is_some v ≡ not b → b ≡ true → v ≡ None
no_walk None b is none = refl
no_walk (Some n) b is none = let e : true ≡ false = is ∙ ap not none in absurd (cc e)

own_walk : (v : Option ℕ) (head : ℕ) (b : Bool) → b ≡ option_eq eqb v (Some head) → b ≡ true → v ≡ Some head
own_walk None head b is own = let e = sym own ∙ is in absurd (cc e)
own_walk (Some n) head b is own = ap (λ k. Some k) (eqb-true n head (sym is ∙ own))

other_walk : (v : Option ℕ) (head : ℕ) (a b : Bool) → is_some v ≡ not a → a ≡ false
    → b ≡ option_eq eqb v (Some head) → b ≡ false → (first : ℕ) × (v ≡ Some first) × (first ≢ head)
other_walk None head a b some was is other = let e : false ≡ true = some ∙ ap not was in absurd (cc e)
other_walk (Some n) head a b some was is other =
    (n, refl, λ e. both_ways (eqb n head) (sym is ∙ other) (eq-eqb n head e))

pub loop-self-preserved : goal.loop-self-preserved
loop-self-preserved c =
    let w = c.loop-self.invariant in
    let below = c.requires.below c.loop-self.at w.there in
    let same = w.length_is in
    let lt : c.loop-self.at < length c.loop-self.self.begun.items = omega (arith, below, same) in
    walk_on (map.get c.args.metas.now) c.loop-self.self.begun.items c.args.head c.loop-self.at _ w lt
    (in_range _ _ _ lt c.index.ensures ∙ no_walk _ _ c.is_none.ensures c.loop-self-test.true) c.in-Some.parent
    c.in-Some.ensures.some c.in-Some.ensures.there

pub returns-in-None-clause-ends : goal.returns-in-None-clause-ends
returns-in-None-clause-ends c =
    let w = c.loop-self.invariant in
    let below = c.requires.below c.loop-self.at w.there in
    let same = w.length_is in
    let lt : c.loop-self.at < length c.loop-self.self.begun.items = omega (arith, below, same) in
    λ _. ended_at_last (map.get c.args.metas.now) c.loop-self.self.begun.items c.args.head c.loop-self.at _ w lt
    (in_range _ _ _ lt c.index.ensures ∙ no_walk _ _ c.is_none.ensures c.loop-self-test.true) c.in-None.ensures.none

pub returns-in-None-clause-walked : goal.returns-in-None-clause-walked
returns-in-None-clause-walked c =
    let w = c.loop-self.invariant in
    let below = c.requires.below c.loop-self.at w.there in
    let same = w.length_is in
    let lt : c.loop-self.at < length c.loop-self.self.begun.items = omega (arith, below, same) in
    λ _. walked_to_last (map.get c.args.metas.now) c.loop-self.self.begun.items c.args.head c.loop-self.at _ w lt
    (in_range _ _ _ lt c.index.ensures ∙ no_walk _ _ c.is_none.ensures c.loop-self-test.true) c.in-None.ensures.none

pub returns-clause-back : goal.returns-clause-back
returns-clause-back c =
    let w = c.loop-self.invariant in
    let below = c.requires.below c.loop-self.at w.there in
    let same = w.length_is in
    let lt : c.loop-self.at < length c.loop-self.self.begun.items = omega (arith, below, same) in
    λ own. came_back (map.get c.args.metas.now) c.loop-self.self.begun.items c.args.head c.loop-self.at _ w
    (in_range _ _ _ lt c.index-2.ensures ∙ own_walk _ _ _ c.eq.ensures own)

pub returns-clause-ends : goal.returns-clause-ends
returns-clause-ends c =
    let w = c.loop-self.invariant in
    let begun = c.loop-self.self.begun.items in
    let metas = map.get c.args.metas.now in
    let below = c.requires.below c.loop-self.at w.there in
    let same = w.length_is in
    let lt : c.loop-self.at < length begun = omega (arith, below, same) in
    λ other.
    let some : is_some c.index-2.result.now ≡ not c.is_none.result =
    ap is_some (sym (in_range _ _ _ lt c.index-2.ensures) ∙ in_range _ _ _ lt c.index.ensures) ∙ c.is_none.ensures in
    let x = other_walk _ _ _ _ some c.loop-self-test.false c.eq.ensures other in
    ended_here metas begun c.args.head c.loop-self.at _ w
    (came_to_end metas begun c.args.head c.loop-self.at _ w x.0 (in_range _ _ _ lt c.index-2.ensures ∙ x.1) x.2)

pub returns-clause-walked : goal.returns-clause-walked
returns-clause-walked c =
    let w = c.loop-self.invariant in
    let begun = c.loop-self.self.begun.items in
    let metas = map.get c.args.metas.now in
    let below = c.requires.below c.loop-self.at w.there in
    let same = w.length_is in
    let lt : c.loop-self.at < length begun = omega (arith, below, same) in
    λ other.
    let some : is_some c.index-2.result.now ≡ not c.is_none.result =
    ap is_some (sym (in_range _ _ _ lt c.index-2.ensures) ∙ in_range _ _ _ lt c.index.ensures) ∙ c.is_none.ensures in
    let x = other_walk _ _ _ _ some c.loop-self-test.false c.eq.ensures other in
    walked_here metas begun c.args.head c.loop-self.at _ w
    (came_to_end metas begun c.args.head c.loop-self.at _ w x.0 (in_range _ _ _ lt c.index-2.ensures ∙ x.1) x.2)
