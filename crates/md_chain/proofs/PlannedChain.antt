-- Planned pages form a chain.
use Rattle.std.proofs.Common.{◌≡◌, ℕ, zero, suc, ◌+◌, ◌^◌, ◌<◌, ◌≤◌, Bool, true, false, List, [], ◌∷◌, ◌++◌, length}
use Rattle.std.proofs.Common.{drop, get_or, None, refl, sym, ap, subst, ◌∙◌, append-nil, append_assoc, arith}
use Rattle.std.specs.Prelude.{unwrap_or, slice_get, nat_eq, ◌==◌, ◌||◌}
use Rattle.std.specs.List.{All, AllByRecursion, IsDistinct, flat_map}
use Rattle.std.proofs.lemmas.Bool.{lt-ltb, eq-eqb, ne_eqb}
use Rattle.std.proofs.lemmas.List.{drop-drop, drop_all}
use Rattle.std.proofs.lemmas.List.Elements.{recursion_from_All}
use Rattle.descriptors.specs.declared.item.Item.{Item}
use Rattle.crc32c.specs.Crc.{is_sound}
use Rattle.md_page.specs.Page.{next_of}
use Rattle.md_chain.specs.declared.plan.PlannedPage.{PlannedPage}
use Rattle.md_chain.specs.Chain.{Look, link_fault, chain_end, is_among, Links, last, more, Chain}
use Rattle.md_chain.specs.Planned.{page_written, next_in, pages_from, IsNthPage, IsPageOfPlan}
use Rattle.md_chain.proofs.Plannable.{drop_one}

-- the next place is the one that follows in the list, or the chain's end
pub next_at : (xs : List ℕ) (k : ℕ) → next_in (drop k xs) ≡ unwrap_or (slice_get xs k) chain_end
next_at [] zero = refl
next_at [] (suc k) = refl
next_at (x ∷ xs) zero = refl
next_at (x ∷ xs) (suc k) = next_at xs k

-- the pages from the nth on are read as what they are
abbrev pub ArePlanned : ℕ → ℕ → List ℕ → List (List Item) → Type 0
ArePlanned head n fresh [] = Unit {0}
ArePlanned head n fresh (part ∷ parts) = IsNthPage head n part (next_in fresh)
    (page_written head n part (next_in fresh)) × ArePlanned head (suc n) (drop 1 fresh) parts

passes : (page : List ℕ) (md_len head n : ℕ) (seen : List ℕ) (before p : ℕ) (part : List Item) (next : ℕ) → p < md_len
    → is_among p seen ≡ false → IsNthPage head n part next page → link_fault page md_len head n seen before p ≡ None
unfolding link_fault
passes page md_len head n seen before p part next low new is = let sound : is_sound page ≡ true = is.sound in
    rw (lt-ltb p md_len low, new, sound, eq-eqb _ _ is.id, eq-eqb _ _ is.sequence) refl

-- what isn't among the places seen, nor at this one
apart : (p : ℕ) (seen ps : List ℕ) → AllByRecursion (λ q. is_among q seen ≡ false) ps
    → AllByRecursion (λ q. nat_eq p q ≡ false) ps → AllByRecursion (λ q. is_among q (p ∷ seen) ≡ false) ps
apart p seen [] a b = tt
apart p seen (q ∷ ps) a b = (ap (λ (t : Bool). t || is_among q seen) b.0 ∙ a.0, apart p seen ps a.1 b.1)

module _ (look : Look) (md_len head : ℕ) (small : md_len < 2 ^ 32) where
  chained : (n : ℕ) (seen : List ℕ) (before place : ℕ) (fresh : List ℕ) (part : List Item) (parts : List (List Item))
      → length fresh ≡ length parts
      → AllByRecursion (λ q. is_among q seen ≡ false) (place ∷ fresh) → IsDistinct nat_eq (place ∷ fresh)
      → AllByRecursion (λ q. q < md_len) (place ∷ fresh)
      → ArePlanned head n fresh (part ∷ parts) → AllByRecursion (λ (p : PlannedPage). look p.place ≡ p.page)
      (pages_from head n place fresh (part ∷ parts))
      → Links look md_len head n seen before place (flat_map (λ x. x) (part ∷ parts)) (place ∷ fresh)
  unfolding IsDistinct
  chained n seen before place [] part [] len new once low are there =
      let page = sym there.0 in
      let is : IsNthPage head n part chain_end (look place) = subst (IsNthPage head n part chain_end) page are.0 in
      subst (λ (xs : List Item). Links look md_len head n seen before place xs (place ∷ [])) (sym (append-nil part))
      (last n seen before place part (passes (look place) md_len head n seen before place part chain_end low.0 new.0 is)
      is.spells is.next_is)
  chained n seen before place [] part (two ∷ parts) len new once low are there = absurd (omega arith)
  chained n seen before place (q ∷ fresh) part [] len new once low are there = absurd (omega arith)
  chained n seen before place (q ∷ fresh) part (two ∷ parts) len new once low are there =
      let page = sym there.0 in
      let is : IsNthPage head n part q (look place) = subst (IsNthPage head n part q) page are.0 in
      let on : (next_of (look place) == chain_end) ≡ false =
      ne_eqb _ _ (λ e. let at : q ≡ chain_end = sym is.next_is ∙ e in let lt = low.1.0 in
      absurd (omega (arith, at, lt, small))) in
      more n seen before place part (flat_map (λ x. x) (two ∷ parts)) (q ∷ fresh)
      (passes (look place) md_len head n seen before place part q low.0 new.0 is) is.spells on
      (subst (λ (k : ℕ). Links look md_len head (suc n) (place ∷ seen) place k (flat_map (λ x. x) (two ∷ parts))
      (q ∷ fresh)) (sym is.next_is)
      (chained (suc n) (place ∷ seen) place q fresh two parts (omega (arith, len))
      (apart place seen (q ∷ fresh) new.1 once.0) once.1 low.1 are.1 there.1))

  none_seen : (ps : List ℕ) → AllByRecursion (λ q. is_among q [] ≡ false) ps
  none_seen [] = tt
  none_seen (p ∷ ps) = (refl, none_seen ps)

  -- planned pages that stand at their places are a chain of the planned items
  pub whole_chain : (fresh : List ℕ) (parts : List (List Item)) → length fresh + 1 ≡ length parts
      → IsDistinct nat_eq (head ∷ fresh) → All (λ q. q < md_len) (head ∷ fresh)
      → ArePlanned head 0 fresh parts → All (λ (p : PlannedPage). look p.place ≡ p.page)
      (pages_from head 0 head fresh parts) → Chain look md_len head (flat_map (λ x. x) parts) (head ∷ fresh)
  whole_chain fresh [] len once low are there = absurd (omega arith)
  whole_chain fresh (part ∷ parts) len once low are there =
      chained 0 [] head head fresh part parts (omega (arith, len)) (none_seen (head ∷ fresh)) once
      (recursion_from_All (λ q. q < md_len) (head ∷ fresh) low) are
      (recursion_from_All (λ (p : PlannedPage). look p.place ≡ p.page) (pages_from head 0 head fresh (part ∷ parts))
      there)

-- a plan has as many pages as parts
pub length-pages : (head n place : ℕ) (fresh : List ℕ) (parts : List (List Item))
    → length (pages_from head n place fresh parts) ≡ length parts
length-pages head n place fresh [] = refl
length-pages head n place fresh (part ∷ parts) = ap suc (length-pages head (suc n) (next_in fresh) (drop 1 fresh) parts)

-- ---- one page more is planned

abbrev pub PlanCompletes : ℕ → List ℕ → List (List Item) → ℕ → ℕ → List PlannedPage → Type 0
PlanCompletes head fresh parts n place plan = plan
    ++ pages_from head n place (drop n fresh) (drop n parts) ≡ pages_from head 0 head fresh parts

abbrev pub Planning : ℕ → List ℕ → List (List Item) → ℕ → Type 0
Planning head fresh parts n = ArePlanned head n (drop n fresh) (drop n parts) → ArePlanned head 0 fresh parts

drop_next : {X : Type 0} (xs : List X) (n : ℕ) → drop 1 (drop n xs) ≡ drop (n + 1) xs
drop_next xs n = drop-drop 1 n xs

module _ (head : ℕ) (fresh : List ℕ) (parts : List (List Item)) (n : ℕ) (part : List Item) (lt : n < length parts)
    (is : part ≡ get_or parts n part) where
  here : drop n parts ≡ part ∷ drop (n + 1) parts
  here = drop_one parts n part lt ∙ ap (λ (x : List Item). x ∷ drop (n + 1) parts) (sym is)

  -- for the loop of `plan_chain`: one page more at its place
  pub one_page_more : (place next : ℕ) (plan : List PlannedPage) → next ≡ next_in (drop n fresh)
      → PlanCompletes head fresh parts n place plan
      → PlanCompletes head fresh parts (n + 1) next (plan
      ++ record { place = place; page = page_written head n part next } ∷ [])
  one_page_more place next plan next_is all =
      let this : PlannedPage = record { place = place; page = page_written head n part next } in
      let up : suc n ≡ n + 1 = omega arith in
      let step : pages_from head n place (drop n fresh) (drop n parts) ≡ this
      ∷ pages_from head (n + 1) next (drop (n + 1) fresh) (drop (n + 1) parts) =
      ap (λ (ps : List (List Item)). pages_from head n place (drop n fresh) ps) here
      ∙ ap (λ (k : ℕ). record { place = place; page = page_written head n part k }
      ∷ pages_from head (suc n) k (drop 1 (drop n fresh)) (drop (n + 1) parts)) (sym next_is)
      ∙ ap (λ (k : ℕ). this ∷ pages_from head k next (drop 1 (drop n fresh)) (drop (n + 1) parts)) up
      ∙ ap (λ (fs : List ℕ). this ∷ pages_from head (n + 1) next fs (drop (n + 1) parts)) (drop_next fresh n) in
      append_assoc plan (this ∷ []) _ ∙ ap (λ (ps : List PlannedPage). plan ++ ps) (sym step) ∙ all

  -- for the loop of `plan_chain`: one planned page more
  pub one_planned_more : (next : ℕ) → next ≡ next_in (drop n fresh)
      → IsNthPage head n part next (page_written head n part next) → Planning head fresh parts n
      → Planning head fresh parts (n + 1)
  one_planned_more next next_is planned all rest =
      let up : n + 1 ≡ suc n = omega arith in
      let first : IsNthPage head n part (next_in (drop n fresh)) (page_written head n part (next_in (drop n fresh))) =
      subst (λ (k : ℕ). IsNthPage head n part k (page_written head n part k)) next_is planned in
      let others : ArePlanned head (suc n) (drop 1 (drop n fresh)) (drop (n + 1) parts) =
      subst (λ (fs : List ℕ). ArePlanned head (suc n) fs (drop (n + 1) parts)) (sym (drop_next fresh n))
      (subst (λ (k : ℕ). ArePlanned head k (drop (n + 1) fresh) (drop (n + 1) parts)) up rest) in
      all (subst (λ (ps : List (List Item)). ArePlanned head n (drop n fresh) ps) (sym here) (first, others))

-- all are planned
pub all_planned : (head : ℕ) (fresh : List ℕ) (parts : List (List Item)) (n place : ℕ) (plan : List PlannedPage)
    → length parts ≤ n → PlanCompletes head fresh parts n place plan → plan ≡ pages_from head 0 head fresh parts
all_planned head fresh parts n place plan le all =
    sym (append-nil plan) ∙ ap (λ (ps : List (List Item)). plan ++ pages_from head n place (drop n fresh) ps)
    (sym (drop_all n parts le)) ∙ all

-- once the parts are at their end, all pages are planned
pub all_read : (head : ℕ) (fresh : List ℕ) (parts : List (List Item)) (n : ℕ) → length parts ≤ n
    → Planning head fresh parts n → ArePlanned head 0 fresh parts
all_read head fresh parts n le all = all (subst (λ (ps : List (List Item)). ArePlanned head n (drop n fresh) ps)
    (sym (drop_all n parts le)) tt)

-- ---- each page of the plan

behind : (place : ℕ) (fresh : List ℕ) (i : ℕ) → get_or (next_in fresh ∷ drop 1 fresh) i chain_end
    ≡ get_or (place ∷ fresh) (suc i) chain_end
behind place [] zero = refl
behind place [] (suc i) = refl
behind place (q ∷ fresh) i = refl

module _ (head : ℕ) where
  each_page : (n place : ℕ) (fresh : List ℕ) (parts : List (List Item)) → ArePlanned head n fresh parts
      → (i : ℕ) (d : PlannedPage) → i < length parts
      → let p = get_or (pages_from head n place fresh parts) i d in
      (p.place ≡ get_or (place ∷ fresh) i chain_end)
      × IsNthPage head (n + i) (get_or parts i []) (get_or (place ∷ fresh) (suc i) chain_end) p.page
  each_page n place fresh [] are i d lt = absurd (omega arith)
  each_page n place fresh (part ∷ parts) are zero d lt = (refl, first (next_at fresh 0))
    where
      first : next_in (drop 0 fresh) ≡ unwrap_or (slice_get fresh 0) chain_end
          → IsNthPage head (n + 0) part (get_or fresh 0 chain_end) (page_written head n part (next_in fresh))
      first e = subst (λ (k : ℕ). IsNthPage head k part (get_or fresh 0 chain_end)
          (page_written head n part (next_in fresh))) (let z : n ≡ n + 0 = omega arith in z)
          (subst (λ (k : ℕ). IsNthPage head n part k (page_written head n part (next_in fresh))) (head_next fresh)
          are.0)
        where
          head_next : (xs : List ℕ) → next_in xs ≡ get_or xs 0 chain_end
          head_next [] = refl
          head_next (x ∷ xs) = refl
  each_page n place fresh (part ∷ parts) are (suc i) d lt =
      let rest = each_page (suc n) (next_in fresh) (drop 1 fresh) parts are.1 i d (omega (arith, lt)) in
      let up : suc n + i ≡ n + suc i = omega arith in
      let q = get_or (pages_from head (suc n) (next_in fresh) (drop 1 fresh) parts) i d in (
        rest.0 ∙ behind place fresh i,
        subst (λ (k : ℕ). IsNthPage head k (get_or parts i []) (get_or (place ∷ fresh) (suc (suc i)) chain_end) q.page)
            up
            (subst (λ (k : ℕ). IsNthPage head (suc n + i) (get_or parts i []) k q.page) (behind place fresh (suc i))
            rest.1),
      )

  -- the page at a number is the one of that part, place and link
  pub page_at : (fresh : List ℕ) (parts : List (List Item)) → ArePlanned head 0 fresh parts → (i : ℕ) (d : PlannedPage)
      → i < length parts → IsPageOfPlan head (head ∷ fresh) parts i (get_or (pages_from head 0 head fresh parts) i d)
  page_at fresh parts are i d lt =
      let p = get_or (pages_from head 0 head fresh parts) i d in
      let at = each_page 0 head fresh parts are i d lt in
      let zero_on : 0 + i ≡ i = omega arith in
      let up : suc i ≡ i + 1 = omega arith in
      record {
        place = at.0;
        page = subst (λ (k : ℕ). IsNthPage head i (get_or parts i []) (get_or (head ∷ fresh) k chain_end) p.page) up
            (subst (λ (k : ℕ). IsNthPage head k (get_or parts i []) (get_or (head ∷ fresh) (suc i) chain_end) p.page)
            zero_on at.1);
      }
