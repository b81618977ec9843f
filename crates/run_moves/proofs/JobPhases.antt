-- The phases of a job as those of a run: how many there are, and which are replacements.
use Rattle.std.proofs.Common.{◌≡◌, ℕ, suc, ◌+◌, ◌*◌, ◌<◌, ◌≤◌, Bool, true, false, List, [], ◌∷◌, ◌++◌, length}
use Rattle.std.proofs.Common.{Option, Some, None, refl, sym, ap, ◌∙◌, subst, inl, inr, arith}
use Rattle.std.specs.Prelude.{map, ◌==◌, ◌||◌, slice_set}
use Rattle.std.specs.List.{AllByRecursion, IsDistinct, list_any, range_with_len}
use Rattle.std.proofs.lemmas.Bool.{cases_eq, eq-eqb, ne_eqb}
use Rattle.std.proofs.lemmas.List.{length-append, length-map, length-set}
use Rattle.std.proofs.lemmas.List.FromFn.{length-range_with_len}
use Rattle.std.proofs.lemmas.Map.Steps.{length-le_from_distinct_below}
use Rattle.super_block.specs.declared.page.Super.{Super}
use Rattle.super_block.specs.Numbers.{cluster_pages_of}
use Rattle.md_chain.specs.Chain.{is_among}
use Rattle.store_model.specs.Jobs.{pages_in, zeroing}
use Rattle.store_model.specs.Phases.{Committing, erasing, Erases, Frees, has_commit, marking, Marks, Phase, phases_of}
use Rattle.store_model.specs.Phases.{Replaces, Replacing, Writes, writing, Zeros}
use Rattle.store_model.specs.Places.{AreDistinct, AreLeastClear}
use Rattle.store_model.specs.StoreState.{ForCommand, ForInsert, ForRepair, Service}
use Rattle.store_model.proofs.Sets.{among_either, among_later, are_distinct}
use Rattle.run_work.specs.Work.{commit_is_left, decision_is_left, replacements_in}
use Rattle.run_moves.specs.Projection.{phases_in_run}

-- ---- so many places

distinct_from : (ps : List ℕ) → AreDistinct ps → IsDistinct (λ a b. a == b) ps
unfolding IsDistinct
distinct_from [] d = tt
distinct_from (p ∷ ps) d = (others ps d.0, distinct_from ps d.1)
  where
    others : (xs : List ℕ) → is_among p xs ≡ false → AllByRecursion (λ y. (p == y) ≡ false) xs
    others [] none = tt
    others (x ∷ xs) none = elim (cases_eq p x) [
      | inl e ↦ absurd (let bad : true ≡ false =
          sym (ap (λ b. b || is_among p xs) (eq-eqb x p (sym e))) ∙ none in cc bad)
      | inr ne ↦ (
        ne_eqb p x ne,
        others xs (sym (ap (λ b. b || is_among p xs) (ne_eqb x p (λ e. ne (sym e)))) ∙ none),
      )
    ]

among_from : (q : ℕ) (ps : List ℕ) → list_any (λ y. q == y) ps ≡ true → is_among q ps ≡ true
among_from q [] is = absurd (cc is)
among_from q (p ∷ ps) is = elim (cases_eq q p) [
  | inl e ↦ ap (λ b. b || is_among q ps) (eq-eqb p q (sym e))
  | inr ne ↦ among_later q p ps
      (among_from q ps (sym (ap (λ b. b || list_any (λ y. q == y) ps) (ne_eqb q p ne)) ∙ is))
]

-- no more places that differ than there are below a number
pub few_below : (ps : List ℕ) (n : ℕ) → AreDistinct ps → ((x : ℕ) → is_among x ps ≡ true → x < n) → length ps ≤ n
few_below ps n d low = length-le_from_distinct_below ps n (distinct_from ps d) (λ q is. low q (among_from q ps is))

least_low : (bits : List Bool) (ps : List ℕ) → AreLeastClear bits ps → (x : ℕ) → is_among x ps ≡ true
    → x < length bits
least_low bits [] least x is = absurd (cc is)
least_low bits (p ∷ ps) least x is = elim (among_either x p ps is) [
  | inl e ↦ subst (λ y. y < length bits) (sym e) least.0.within
  | inr later ↦ subst (λ n. x < n) (length-set bits p true) (least_low (slice_set bits p true) ps least.1 x later)
]

-- nor more clear places than there are places
pub few_clear : (bits : List Bool) (ps : List ℕ) → AreLeastClear bits ps → length ps ≤ length bits
few_clear bits ps least = few_below ps (length bits) (are_distinct bits ps least) (least_low bits ps least)

-- ---- so many phases

-- fresh pages, a turn each
pub length_writing : (fresh : List ℕ) (others : List Phase)
    → length (writing fresh others) ≡ length fresh + length others
length_writing [] others = omega arith
length_writing (p ∷ ps) others = let e = length_writing ps others in omega (arith, e)

-- old pages, a turn each
pub length_erasing : (old places : List ℕ) (others : List Phase)
    → length (erasing old places others) ≡ length places + length others
length_erasing old [] others = omega arith
length_erasing old (p ∷ []) others = omega arith
length_erasing old (p ∷ q ∷ ps) others = let e = length_erasing old (q ∷ ps) others in omega (arith, e)

-- those of one replacement, and others
pub length_phases : (r : Replacing) (commit : Option Committing) (others : List Phase)
    → length (phases_of r commit others) ≡ length r.fresh + suc (length r.old) + length others
length_phases r commit others =
    let a = length_writing r.fresh (Replaces r commit ∷ erasing r.old r.old others) in
    let b = length_erasing r.old r.old others in
    omega (arith, a, b)

-- the mark takes one turn, if it is made
pub length_marking : (clean : Bool) (others : List Phase) → length (marking clean others) ≤ length others + 1
length_marking true others = omega arith
length_marking false others = omega arith

-- pages of claimed clusters, a turn each
pub length_zeroing : (s : Super) (clusters : List ℕ)
    → length (zeroing s clusters) ≡ length clusters * cluster_pages_of s
length_zeroing s clusters = length-map (pages_in s clusters) Zeros ∙ go clusters
  where
    go : (l : List ℕ) → length (pages_in s l) ≡ length l * cluster_pages_of s
    go [] = grind arith
    go (c ∷ cs) =
        let a = length-append (range_with_len (c * cluster_pages_of s) (cluster_pages_of s)) (pages_in s cs) in
        let b = length-range_with_len (c * cluster_pages_of s) (cluster_pages_of s) in
        let e = go cs in
        let m : suc (length cs) * cluster_pages_of s ≡ cluster_pages_of s + length cs * cluster_pages_of s =
        grind arith in
        omega (arith, a, b, e, m)

-- ---- which are replacements

module _ (serves : Service) where
  -- fresh pages are no replacements
  -- the mark is no replacement, and decides nothing
  pub replacements_marking : (clean : Bool) (others : List Phase)
      → replacements_in (phases_in_run serves (marking clean others)) ≡ replacements_in (phases_in_run serves others)
  replacements_marking true others = refl
  replacements_marking false others = refl

  pub decision_marking : (clean : Bool) (others : List Phase)
      → decision_is_left (phases_in_run serves (marking clean others)) ≡ decision_is_left (phases_in_run serves others)
  decision_marking true others = refl
  decision_marking false others = refl

  pub replacements_writing : (fresh : List ℕ) (others : List Phase)
      → replacements_in (phases_in_run serves (writing fresh others)) ≡ replacements_in (phases_in_run serves others)
  replacements_writing [] others = refl
  replacements_writing (p ∷ ps) others = replacements_writing ps others

  -- nor are old pages
  pub replacements_erasing : (old places : List ℕ) (others : List Phase)
      → replacements_in (phases_in_run serves (erasing old places others))
      ≡ replacements_in (phases_in_run serves others)
  replacements_erasing old [] others = refl
  replacements_erasing old (p ∷ []) others = refl
  replacements_erasing old (p ∷ q ∷ ps) others = replacements_erasing old (q ∷ ps) others

  -- nor are pages of zeros
  pub replacements_zeroing : (pages : List ℕ) (others : List Phase)
      → replacements_in (phases_in_run serves (map Zeros pages ++ others))
      ≡ replacements_in (phases_in_run serves others)
  replacements_zeroing [] others = refl
  replacements_zeroing (p ∷ ps) others = replacements_zeroing ps others

  -- nor do fresh pages decide
  pub decision_writing : (fresh : List ℕ) (others : List Phase)
      → decision_is_left (phases_in_run serves (writing fresh others)) ≡ decision_is_left (phases_in_run serves others)
  decision_writing [] others = refl
  decision_writing (p ∷ ps) others = decision_writing ps others

  commit_here : (r : Replacing) (commit : Option Committing) (rest : List Phase)
      → commit_is_left (phases_in_run serves rest) ≡ has_commit rest
      → commit_is_left (phases_in_run serves (Replaces r commit ∷ rest)) ≡ has_commit (Replaces r commit ∷ rest)
  commit_here r (Some commit) rest is = refl
  commit_here r None rest is = by serves is
    where
      by : (other : Service) → commit_is_left (phases_in_run other rest) ≡ has_commit rest
          → commit_is_left (phases_in_run other (Replaces r None ∷ rest)) ≡ has_commit rest
      by (ForCommand channel) is = is
      by (ForInsert channel) is = is
      by ForRepair is = is

  -- the commit of a job that is seen as one of a run
  pub commit_seen : (todo : List Phase) → commit_is_left (phases_in_run serves todo) ≡ has_commit todo
  commit_seen [] = refl
  commit_seen (Marks ∷ rest) = commit_seen rest
  commit_seen (Zeros page ∷ rest) = commit_seen rest
  commit_seen (Writes place ∷ rest) = commit_seen rest
  commit_seen (Replaces r commit ∷ rest) = commit_here r commit rest (commit_seen rest)
  commit_seen (Erases place ∷ rest) = commit_seen rest
  commit_seen (Frees place old ∷ rest) = commit_seen rest

-- pages of zeros are no commit
pub commit_zeroing : (pages : List ℕ) (others : List Phase) → has_commit (map Zeros pages ++ others) ≡ has_commit others
commit_zeroing [] others = refl
commit_zeroing (p ∷ ps) others = commit_zeroing ps others
