-- A walk along parents, step by step.
use Rattle.std.proofs.Common.{◌≡◌, ◌≢◌, ℕ, zero, suc, ◌+◌, ◌<◌, ◌≤◌, List, length, get_or, Option, Some, None, IsSome}
use Rattle.std.proofs.Common.{sym, ap, subst, ◌∙◌, inl, inr, arith}
use Rattle.std.specs.Prelude.{slice_set, replicate}
use Rattle.std.specs.List.{sum_by}
use Rattle.std.specs.Option.{option_and_then, option_map_or}
use Rattle.std.proofs.lemmas.Bool.{cases_eq}
use Rattle.std.proofs.lemmas.List.{get_or-set_same, get_or-set_other, length-set, get_or-replicate, length-replicate}
use Rattle.std.proofs.lemmas.List.Sums.{sum_by-set}
use Rattle.std.proofs.Math.ListN.{get_or-eq_default}
use Rattle.std.proofs.lemmas.Bool.{cases_lt}
use Rattle.store_model.specs.Maps.{Metas}
use Rattle.unclean_load.specs.Parents.{ancestor, parent_at, ComesBack}
use Rattle.unclean_load.specs.Walks.{AreWalked, ParentsEnd, first_walk}
use Rattle.unclean_load.proofs.Ancestors.{ends_before, ends_here, onward}

-- ---- places to which no walk came

-- 1 for a place to which none came
abbrev pub unwalked : Option ℕ → ℕ
unwalked o = option_map_or (λ _. 0) o 1

-- how many places there are to which no walk came
abbrev pub all_unwalked : List (Option ℕ) → ℕ
all_unwalked begun = sum_by unwalked begun

-- a walk that comes to a place leaves one less
pub one_less : (begun : List (Option ℕ)) (at head : ℕ) → at < length begun → first_walk begun at ≡ None
    → all_unwalked (slice_set begun at (Some head)) < all_unwalked begun
one_less begun at head lt none =
    let x = sum_by-set unwalked begun at (Some head) None lt in
    let y : unwalked (get_or begun at None) ≡ 1 = ap unwalked none in
    omega (arith, x, y)

no_walks : (n place : ℕ) → first_walk (replicate n None) place ≡ None
no_walks n place = elim (cases_lt place n) [
  | inl lt ↦ get_or-replicate n place None None lt
  | inr le ↦ get_or-eq_default (replicate n None) None
      (let len = length-replicate {A = Option ℕ} n None in omega (arith, le, len))
]

-- no walk was made so far
pub none_walked : (metas : Metas) (begun : List (Option ℕ)) (n : ℕ) → begun ≡ replicate n None → AreWalked metas begun 0
none_walked metas begun n is = record {
  low = λ place first at. absurd (never place first at);
  ends = λ place first at. absurd (never place first at);
}
  where
    never : (place first : ℕ) → first_walk begun place ≡ Some first → ⊥
    never place first at =
        let e = sym (ap (λ l. first_walk l place) is ∙ no_walks n place) ∙ at in cc e

-- ---- a walk from a head

-- A place to which this walk came, and from which it went on to where it is.
pub record OnWay (metas : Metas) (head place at : ℕ) : Type 0 where
  pub before : ℕ
  pub comes : ancestor metas head before ≡ Some place
  pub behind : ℕ
  pub goes_on : ancestor metas place (suc behind) ≡ Some at

-- where a walk is, and what is known of the places to which it and earlier ones came
pub record Walking (metas : Metas) (begun : List (Option ℕ)) (head at count : ℕ) : Type 0 where
  pub length_is : length begun ≡ count
  pub steps : ℕ
  pub here : ancestor metas head steps ≡ Some at
  pub there : IsSome (metas at)
  pub low : (place first : ℕ) → first_walk begun place ≡ Some first → first ≤ head
  pub earlier : (place first : ℕ) → first_walk begun place ≡ Some first → first ≢ head → ParentsEnd metas place
  pub own : (place : ℕ) → first_walk begun place ≡ Some head → OnWay metas head place at

module _ (metas : Metas) (begun : List (Option ℕ)) (head at count : ℕ) (w : Walking metas begun head at count) where
  -- what ends where the walk is ended for all places to which walks came
  module _ (ends : ParentsEnd metas at) where
    pub ended_here : ParentsEnd metas head
    ended_here = ends_before metas head at w.steps w.here ends

    place_ended : (place first : ℕ) → first_walk begun place ≡ Some first → ParentsEnd metas place
    place_ended place first is = elim (cases_eq first head) [
      | inl e ↦
          let x = w.own place (is ∙ ap (λ (n : ℕ). Some n) e) in
          ends_before metas place at (suc x.behind) x.goes_on ends
      | inr ne ↦ w.earlier place first is ne
    ]

    -- so walks may begin at the next head
    pub walked_here : AreWalked metas begun (head + 1)
    walked_here = record {
      low = λ place first is. let le = w.low place first is in omega (arith, le);
      ends = place_ended;
    }

  -- the walk came to a place of its own again
  pub came_back : first_walk begun at ≡ Some head → ComesBack metas head
  came_back is =
      let x = w.own at is in
      record {
        place = at;
        first = x.before;
        second = x.before + suc x.behind;
        later = omega arith;
        at_first = x.comes;
        at_second = onward metas head at x.before (suc x.behind) x.comes ∙ x.goes_on;
      }

  -- it came to a place of an earlier one
  pub came_to_end : (first : ℕ) → first_walk begun at ≡ Some first → first ≢ head → ParentsEnd metas at
  came_to_end first is ne = w.earlier at first is ne

  -- ---- the place is noted

  module _ (low : at < length begun) (none : first_walk begun at ≡ None) where
    abbrev noted : List (Option ℕ)
    noted = slice_set begun at (Some head)

    noted_here : (place : ℕ) → place ≡ at → first_walk noted place ≡ Some head
    noted_here place e = ap (first_walk noted) e ∙ get_or-set_same begun at (Some head) None low

    noted_elsewhere : (place : ℕ) → place ≢ at → first_walk noted place ≡ first_walk begun place
    noted_elsewhere place ne = get_or-set_other begun at place (Some head) None ne

    noted_low : (place first : ℕ) → first_walk noted place ≡ Some first → first ≤ head
    noted_low place first is = elim (cases_eq place at) [
      | inl e ↦ let same : head ≡ first = let x = sym (noted_here place e) ∙ is in cc x in omega (arith, same)
      | inr ne ↦ w.low place first (sym (noted_elsewhere place ne) ∙ is)
    ]

    noted_earlier : (place first : ℕ) → first_walk noted place ≡ Some first → first ≢ head → ParentsEnd metas place
    noted_earlier place first is other = elim (cases_eq place at) [
      | inl e ↦ absurd (other (let x = sym is ∙ noted_here place e in cc x))
      | inr ne ↦ w.earlier place first (sym (noted_elsewhere place ne) ∙ is) other
    ]

    -- the walk goes on to the parent
    pub walk_on : (parent : ℕ) → parent_at metas at ≡ Some parent → IsSome (metas parent)
        → Walking metas noted head parent count
    walk_on parent next there = record {
      length_is = length-set begun at (Some head) ∙ w.length_is;
      steps = suc w.steps;
      here = ap (option_and_then (parent_at metas)) w.here ∙ next;
      there = there;
      low = noted_low;
      earlier = noted_earlier;
      own = λ place is. elim (cases_eq place at) [
        | inl e ↦ record {
          before = w.steps;
          comes = w.here ∙ ap (λ (n : ℕ). Some n) (sym e);
          behind = zero;
          goes_on = ap (parent_at metas) e ∙ next;
        }
        | inr ne ↦
            let x = w.own place (sym (noted_elsewhere place ne) ∙ is) in
            record {
              before = x.before;
              comes = x.comes;
              behind = suc x.behind;
              goes_on = ap (option_and_then (parent_at metas)) x.goes_on ∙ next;
            }
      ];
    }

    module _ (last : (p : ℕ) → parent_at metas at ≡ Some p → metas p ≡ None) where
      -- or it ends here
      pub ended_at_last : ParentsEnd metas head
      ended_at_last = ended_here (ends_here metas at last)

      pub walked_to_last : AreWalked metas noted (head + 1)
      walked_to_last = record {
        low = λ place first is. let le = noted_low place first is in omega (arith, le);
        ends = λ place first is. elim (cases_eq place at) [
          | inl e ↦ subst (ParentsEnd metas) (sym e) (ends_here metas at last)
          | inr ne ↦ place_ended (ends_here metas at last) place first (sym (noted_elsewhere place ne) ∙ is)
        ];
      }
