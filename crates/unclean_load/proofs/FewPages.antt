-- How many pages are read for heads: the chains of a region have no more pages together than it has.
use Rattle.std.proofs.Common.{◌≡◌, ℕ, zero, suc, ◌+◌, ◌<◌, ◌≤◌, Bool, true, false, List, [], ◌∷◌, ◌++◌}
use Rattle.std.proofs.Common.{length, Option, Some, None, refl, sym, ap, subst, ◌∙◌, inl, inr, append_assoc, arith}
use Rattle.std.specs.Prelude.{◌==◌, ◌||◌}
use Rattle.std.specs.Option.{option_map_or}
use Rattle.std.proofs.lemmas.Bool.{both_ways, cases_Bool, eq-eqb, eqb-true, or_left, or_right}
use Rattle.std.proofs.lemmas.List.{append-nil}
use Rattle.std.proofs.lemmas.List.Folds.{list_any-append}
use Rattle.md_chain.proofs.PageWalk.{among-more, unseen, unseen-new, unseen-none}
use Rattle.md_chain.specs.Chain.{Look, is_among}
use Rattle.super_block.specs.declared.page.Super.{Super}
use Rattle.store_model.specs.Maps.{Metas, Chains}
use Rattle.store_model.specs.Places.{AreDistinct}
use Rattle.store_model.specs.Regions.{region_of}
use Rattle.unclean_load.specs.Heads.{PlaceSays}
use Rattle.unclean_load.specs.Reads.{pages_together, reads_to_test}
use Rattle.unclean_load.specs.declared.heads.Heads.{Heads}
use Rattle.unclean_load.specs.declared.heads.Heads.TheVariants.{ByScan, Listed}
use Rattle.unclean_load.proofs.PlaceSays.{apart_below}
use Rattle.unclean_load.proofs.Sums.{sum_more, sum_same}
use Rattle.unclean_load.proofs.Taken.{chain_of_region}

-- ---- one place more

-- how many pages the chain of a head has, if there is one
abbrev pub pages_at : Chains → ℕ → ℕ
pages_at chains head = option_map_or (λ (pages : List ℕ). length pages) (chains head) 0

pub pages_more : (chains : Chains) (place : ℕ)
    → pages_together (place + 1) chains ≡ pages_together place chains + pages_at chains place
pages_more chains place = sum_more (pages_at chains) place

-- chains that are the same below a place have as many pages there
pub pages_same : (chains other : Chains) (place : ℕ) → ((k : ℕ) → k < place → chains k ≡ other k)
    → pages_together place chains ≡ pages_together place other
pages_same chains other place same =
    sum_same (pages_at chains) (pages_at other) place
    (λ k lt. ap (λ (o : Option (List ℕ)). option_map_or (λ (pages : List ℕ). length pages) o 0) (same k lt))

pub tests_more : (heads : Heads) (place : ℕ) → reads_to_test heads (place + 1)
    ≡ reads_to_test heads place + reads_to_test heads 1
tests_more ByScan place = refl
tests_more (Listed places) place = refl

pub tests_within : (heads : Heads) (place end : ℕ) → place < end
    → reads_to_test heads place + reads_to_test heads 1 ≤ reads_to_test heads end
tests_within ByScan place end lt = omega (arith, lt)
tests_within (Listed places) place end lt = omega arith

-- ---- places that differ

among_first : (p : ℕ) (ps : List ℕ) → is_among p (p ∷ ps) ≡ true
among_first p ps = or_left (p == p) (is_among p ps) (eq-eqb p p refl)

among_later : (q p : ℕ) (ps : List ℕ) → is_among q ps ≡ true → is_among q (p ∷ ps) ≡ true
among_later q p ps is = or_right (p == q) (is_among q ps) is

-- places that differ, and are none of those that were seen, leave fewer unseen
all_new : (n : ℕ) (ps seen : List ℕ) → AreDistinct ps → ((p : ℕ) → is_among p ps ≡ true → p < n)
    → ((p : ℕ) → is_among p ps ≡ true → is_among p seen ≡ false) → length ps + unseen n (seen ++ ps) ≤ unseen n seen
all_new n [] seen differ low new =
    let e : unseen n (seen ++ []) ≡ unseen n seen = ap (unseen n) (append-nil seen) in omega (arith, e)
all_new n (p ∷ ps) seen differ low new =
    let one = unseen-new n p seen (low p (among_first p ps)) (new p (among_first p ps)) in
    let rest =
    all_new n ps (seen ++ p ∷ []) differ.1 (λ q is. low q (among_later q p ps is)) (λ q is. still q is) in
    let e : unseen n (seen ++ p ∷ [] ++ ps) ≡ unseen n (seen ++ p ∷ ps) =
    ap (unseen n) (append_assoc seen (p ∷ []) ps) in
    omega (arith, one, rest, e)
  where
    other : (q : ℕ) → is_among q ps ≡ true → (b : Bool) → (p == q) ≡ b → (p == q) ≡ false
    other q is false e = e
    other q is true e =
        absurd (both_ways (is_among p ps) differ.0
        (subst (λ (k : ℕ). is_among k ps ≡ true) (sym (eqb-true p q e)) is))

    still : (q : ℕ) → is_among q ps ≡ true → is_among q (seen ++ p ∷ []) ≡ false
    still q is =
        among-more q p seen
        ∙ ap (λ (b : Bool). b || (p == q)) (new q (among_later q p ps is))
        ∙ other q is (p == q) refl

-- so there are no more than places
pub few_places : (n : ℕ) (ps : List ℕ) → AreDistinct ps → ((p : ℕ) → is_among p ps ≡ true → p < n) → length ps ≤ n
few_places n ps differ low =
    let all = all_new n ps [] differ low (λ p is. refl) in
    let none = unseen-none n in
    omega (arith, all, none)

-- ---- the chains of a region

-- the places of the chains of the heads below an end
record Seen (n end : ℕ) (chains : Chains) : Type 0 where
  places : List ℕ
  count : pages_together end chains + unseen n places ≤ n
  of : (p : ℕ) → is_among p places ≡ true
      → (h : ℕ) × (ps : List ℕ) × (h < end) × (chains h ≡ Some ps) × (is_among p ps ≡ true)

module _ (look : Look) (s : Super) (heads : Heads) (metas : Metas) (chains : Chains) where
  abbrev Said : ℕ → Type 0
  Said end = (h : ℕ) → h < end → PlaceSays look (region_of s) heads h (metas h) (chains h)

  none_more : (end : ℕ) → Seen s.md_len end chains → chains end ≡ None → Seen s.md_len (end + 1) chains
  none_more end x none = record {
    places = x.places;
    count =
        let e = pages_more chains end in
        let f : pages_at chains end ≡ 0 =
        ap (λ (o : Option (List ℕ)). option_map_or (λ (pages : List ℕ). length pages) o 0) none in
        let c = x.count in
        omega (arith, e, f, c);
    of = λ p is. let y = x.of p is in (y.0, y.1, (let lt = y.2 in omega (arith, lt)), y.3, y.4);
  }

  some_more : (end : ℕ) → Said (end + 1) → Seen s.md_len end chains → (ps : List ℕ) → chains end ≡ Some ps
      → AreDistinct ps → ((p : ℕ) → is_among p ps ≡ true → p < s.md_len) → Seen s.md_len (end + 1) chains
  some_more end said x ps is differ low = record {
    places = x.places ++ ps;
    count =
        let e = pages_more chains end in
        let f : pages_at chains end ≡ length ps =
        ap (λ (o : Option (List ℕ)). option_map_or (λ (pages : List ℕ). length pages) o 0) is in
        let c = x.count in
        let d = all_new s.md_len ps x.places differ low new in
        omega (arith, e, f, c, d);
    of = λ p among. of_both p (is_among p x.places) refl (sym (list_any-append (λ q. q == p) x.places ps) ∙ among);
  }
    where
      new : (p : ℕ) → is_among p ps ≡ true → is_among p x.places ≡ false
      new p among = elim (cases_Bool (is_among p x.places)) [
        | inl seen ↦
            let y = x.of p seen in
            let lt = y.2 in
            let e =
            apart_below look (region_of s) heads (end + 1) metas chains said y.0 end p y.1 ps (omega (arith, lt))
            (omega arith) y.3 is y.4 among in
            absurd (omega (arith, e, lt))
        | inr not_seen ↦ not_seen
      ]

      of_both : (p : ℕ) (b : Bool) → is_among p x.places ≡ b → (is_among p x.places || is_among p ps) ≡ true
          → (h : ℕ) × (qs : List ℕ) × (h < end + 1) × (chains h ≡ Some qs) × (is_among p qs ≡ true)
      of_both p true seen either =
          let y = x.of p seen in (y.0, y.1, (let lt = y.2 in omega (arith, lt)), y.3, y.4)
      of_both p false not_seen either =
          (end, ps, omega arith, is, sym (ap (λ (b : Bool). b || is_among p ps) not_seen) ∙ either)

  seen_below : (end : ℕ) → Said end → Seen s.md_len end chains
  seen_below zero said = record {
    places = [];
    count = let e = unseen-none s.md_len in omega (arith, e);
    of = λ p is. absurd (let bad : true ≡ false = sym is in cc bad);
  }
  seen_below (suc end) said =
      let e : end + 1 ≡ suc end = omega arith in
      let before = seen_below end (λ h lt. said h (omega (arith, lt))) in
      let all : Said (end + 1) = λ h lt. said h (omega (arith, lt)) in
      subst (λ (n : ℕ). Seen s.md_len n chains) e (by all before (said end (omega arith)))
    where
      by : Said (end + 1) → Seen s.md_len end chains
          → PlaceSays look (region_of s) heads end (metas end) (chains end) → Seen s.md_len (end + 1) chains
      by all before (inl a) =
          let c = chain_of_region look s end a.blob.meta a.blob.pages a.blob.says in
          some_more end all before a.blob.pages a.blob.pages_are c.differ c.low
      by all before (inr a) = none_more end before a.no_chain

  -- they have no more pages than the region has
  pub few_pages : (end : ℕ) → Said end → pages_together end chains ≤ s.md_len
  few_pages end said = let c = (seen_below end said).count in omega (arith, c)
