-- Walking along a chain, page by page.
use Rattle.std.proofs.Common.{◌≡◌, ℕ, zero, suc, ◌+◌, ◌<◌, ◌≤◌, Bool, true, false, cond, List, [], ◌∷◌, ◌++◌, Some}
use Rattle.std.proofs.Common.{None, refl, sym, ap, subst, ◌∙◌, inl, inr, arith, append_assoc}
use Rattle.std.specs.Prelude.{not, ◌==◌, nat_lt, ◌||◌}
use Rattle.std.proofs.Math.Path.{fun_ext}
use Rattle.std.proofs.lemmas.List.Folds.{list_any-append}
use Rattle.std.proofs.lemmas.Bool.{ltb-true, eqb-true, eq-eqb, ne_eqb, cases_eq, cases_Bool, both_ways}
use Rattle.page_disk.specs.Disk.{with_page}
use Rattle.descriptors.specs.declared.item.Item.{Item}
use Rattle.descriptors.specs.Grammar.{Spells, Spoils}
use Rattle.md_page.specs.Page.{body_of, next_of}
use Rattle.md_chain.specs.declared.fault.ChainFault.{ChainFault}
use Rattle.md_chain.specs.declared.fault.ChainFault.TheVariants as faults
use Rattle.md_chain.specs.Chain.{Look, link_fault, chain_end, is_among, Links, last, more, Broken, at_link, at_item}
use Rattle.md_chain.specs.Chain.{later, Chain, IsBroken}
use Rattle.md_chain.specs.Fetching.{place_fault, page_fault}

-- ---- the tests of a page are those of its place, and then its own

module _ (page : List ℕ) (md_len h n before p : ℕ) (seen pages : List ℕ)
    (are : is_among p seen ≡ is_among p pages) where
  same_place : place_fault md_len seen before p ≡ place_fault md_len pages before p
  same_place = rw are refl

  -- a fault of the place is the fault of the page
  pub place_fails : (f : ChainFault) → place_fault md_len pages before p ≡ Some f
      → link_fault page md_len h n seen before p ≡ Some f
  unfolding link_fault
  place_fails f e = rw are (go (nat_lt p md_len) (is_among p pages) e)
    where
      go : (a b : Bool) → cond (not a) (Some (faults.LinkPastEnd before p)) (cond b (Some (faults.Loop p)) None)
          ≡ Some f
          → cond (not a) (Some (faults.LinkPastEnd before p)) (cond b (Some (faults.Loop p)) (page_fault page h n p))
          ≡ Some f
      go true true e = e
      go true false e = absurd cc
      go false b e = e

  -- where the place has no fault, the page's own tests decide
  pub place_passes : place_fault md_len pages before p ≡ None
      → link_fault page md_len h n seen before p ≡ page_fault page h n p
  unfolding link_fault
  place_passes e = rw are (go (nat_lt p md_len) (is_among p pages) e)
    where
      go : (a b : Bool) → cond (not a) (Some (faults.LinkPastEnd before p)) (cond b (Some (faults.Loop p)) None) ≡ None
          → cond (not a) (Some (faults.LinkPastEnd before p)) (cond b (Some (faults.Loop p)) (page_fault page h n p))
          ≡ page_fault page h n p
      go true true e = absurd cc
      go true false e = refl
      go false b e = absurd cc

-- a place without fault lies in the region and wasn't read before
pub new_place : (md_len before p : ℕ) (pages : List ℕ) → place_fault md_len pages before p ≡ None
    → (p < md_len) × (is_among p pages ≡ false)
new_place md_len before p pages e = let r = go (nat_lt p md_len) (is_among p pages) e in (ltb-true p md_len r.0, r.1)
  where
    go : (a b : Bool) → cond (not a) (Some (faults.LinkPastEnd before p)) (cond b (Some (faults.Loop p)) None) ≡ None
        → (a ≡ true) × (b ≡ false)
    go true true e = absurd cc
    go true false e = (refl, refl)
    go false b e = absurd cc

-- ---- how many places below a number aren't among these

-- how many places below a number aren't among these
pub unseen : ℕ → List ℕ → ℕ
unseen zero ps = 0
unseen (suc n) ps = unseen n ps + cond (is_among n ps) 0 1

-- at first no place was read
pub unseen-none : (n : ℕ) → unseen n [] ≡ n
unfolding unseen
unseen-none zero = refl
unseen-none (suc n) = omega (arith, unseen-none n)

-- one place more is among those before, or is it
pub among-more : (q p : ℕ) (ps : List ℕ) → is_among q (ps ++ p ∷ []) ≡ (is_among q ps || (p == q))
among-more q p ps = list_any-append (λ r. r == q) ps (p ∷ []) ∙ ap (λ b. is_among q ps || b) (go (p == q))
  where
    go : (b : Bool) → (b || false) ≡ b
    go true = refl
    go false = refl

fewer_one : (a b : Bool) → cond (a || b) 0 1 ≤ cond a 0 1
fewer_one true b = omega arith
fewer_one false true = omega arith
fewer_one false false = omega arith

-- one place more leaves no more unread
pub unseen-less : (n p : ℕ) (ps : List ℕ) → unseen n (ps ++ p ∷ []) ≤ unseen n ps
unfolding unseen
unseen-less zero p ps = omega arith
unseen-less (suc n) p ps =
    let one : cond (is_among n (ps ++ p ∷ [])) 0 1 ≤ cond (is_among n ps) 0 1 =
    rw (among-more n p ps) (fewer_one (is_among n ps) (p == n)) in
    omega (arith, unseen-less n p ps, one)

-- a new place leaves fewer unread: so reading ends
pub unseen-new : (n p : ℕ) (ps : List ℕ) → p < n → is_among p ps ≡ false → unseen n (ps ++ p ∷ []) + 1 ≤ unseen n ps
unfolding unseen
unseen-new zero p ps lt new = absurd (omega arith)
unseen-new (suc n) p ps lt new = elim (cases_eq p n) [
  | inl e ↦
      let there : is_among n (ps ++ p ∷ []) ≡ true = among-more n p ps ∙ ap (λ b. is_among n ps || b) (eq-eqb p n e)
      ∙ or_true (is_among n ps) in
      let was : is_among n ps ≡ false = subst (λ (q : ℕ). is_among q ps ≡ false) e new in
      let now : unseen (suc n) (ps ++ p ∷ []) ≡ unseen n (ps ++ p ∷ []) + 0 = rw there refl in
      let before : unseen (suc n) ps ≡ unseen n ps + 1 = rw was refl in
      omega (arith, unseen-less n p ps, now, before)
  | inr ne ↦
      let one : cond (is_among n (ps ++ p ∷ [])) 0 1 ≤ cond (is_among n ps) 0 1 =
      rw (among-more n p ps) (fewer_one (is_among n ps) (p == n)) in
      omega (arith, unseen-new n p ps (omega arith) new, one)
]
  where
    or_true : (b : Bool) → (b || true) ≡ true
    or_true true = refl
    or_true false = refl

-- ---- one page more is known

-- the page that was read is now known
pub here : (look : Look) (p : ℕ) (page : List ℕ) → with_page look p page p ≡ page
unfolding with_page
here look p page = rw (eq-eqb p p refl) refl

-- the other pages are as they were known
pub elsewhere : (look : Look) (p q : ℕ) (page : List ℕ) → (q == p) ≡ false → with_page look p page q ≡ look q
unfolding with_page
elsewhere look p q page ne = rw ne refl

-- a page that was known already changes nothing
pub known : (look : Look) (p : ℕ) (page : List ℕ) → page ≡ look p → with_page look p page ≡ look
known look p page is = fun_ext (λ q. go q)
  where
    go : (q : ℕ) → with_page look p page q ≡ look q
    go q = elim (cases_Bool (q == p)) [
      | inl t ↦ let e : q ≡ p = eqb-true q p t in ap (with_page look p page) e ∙ here look p page ∙ is ∙ ap look (sym e)
      | inr f ↦ elsewhere look p q page f
    ]

-- ---- the way so far

-- Whatever pages stand elsewhere, a chain from here on completes the one so far, and a fault from here on is the first.
pub record Way (look : Look) (md_len h n : ℕ) (seen : List ℕ) (before p : ℕ) (items : List Item) (pages : List ℕ) :
    Type 0 where
  pub completes : (other : Look) → ((q : ℕ) → is_among q pages ≡ true → other q ≡ look q)
      → (rest : List Item) (ps : List ℕ) → Links other md_len h n seen before p rest ps
      → Chain other md_len h (items ++ rest) (pages ++ ps)
  pub breaks : (other : Look) → ((q : ℕ) → is_among q pages ≡ true → other q ≡ look q) → (f : ChainFault)
      → Broken other md_len h n seen before p f → IsBroken other md_len h f

-- at the head nothing is read yet
pub at_head : (look : Look) (md_len h : ℕ) → Way look md_len h 0 [] h h [] []
at_head look md_len h = record { completes = λ other same rest ps l. l; breaks = λ other same f b. b }

module _ (look : Look) (md_len h n : ℕ) (seen : List ℕ) (before p : ℕ) (items : List Item) (pages : List ℕ)
    (way : Way look md_len h n seen before p items pages) (page : List ℕ) (new : is_among p pages ≡ false) where
  -- the pages before stay
  stay : (other : Look) → ((q : ℕ) → is_among q (pages ++ p ∷ []) ≡ true → other q ≡ with_page look p page q) → (q : ℕ)
      → is_among q pages ≡ true → other q ≡ look q
  stay other same q a =
      let ne : (q == p) ≡ false = ne_eqb q p (λ e. both_ways (is_among p pages) new
      (subst (λ (k : ℕ). is_among k pages ≡ true) e a)) in
      same q (among-more q p pages ∙ ap (λ b. b || (p == q)) a) ∙ elsewhere look p q page ne

  stands : (other : Look) → ((q : ℕ) → is_among q (pages ++ p ∷ []) ≡ true → other q ≡ with_page look p page q)
      → other p ≡ page
  stands other same = same p (among-more p p pages ∙ ap (λ b. is_among p pages || b) (eq-eqb p p refl)
      ∙ or_true (is_among p pages)) ∙ here look p page
    where
      or_true : (b : Bool) → (b || true) ≡ true
      or_true true = refl
      or_true false = refl

  stays : (q : ℕ) → is_among q pages ≡ true → with_page look p page q ≡ look q
  stays q a = stay (with_page look p page) (λ k b. refl) q a

  module _ (passes : link_fault page md_len h n seen before p ≡ None) (is : List Item)
      (spells : Spells (body_of page) is) where
    -- a page without fault that links to the next brings the way one page on
    pub goes_on : (next : ℕ) → next ≡ next_of page → (next == chain_end) ≡ false
        → Way (with_page look p page) md_len h (suc n) (p ∷ seen) p next (items ++ is) (pages ++ p ∷ [])
    goes_on next next_is ne = record {
      completes = λ other same rest ps l.
          let at : other p ≡ page = stands other same in
          let nexts : next ≡ next_of (other p) = next_is ∙ ap next_of (sym at) in
          let one : Links other md_len h n seen before p (is ++ rest) (p ∷ ps) =
          more n seen before p is rest ps (subst (λ (x : List ℕ). link_fault x md_len h n seen before p ≡ None) (sym at)
          passes) (subst (λ (x : List ℕ). Spells (body_of x) is) (sym at) spells)
          (subst (λ (k : ℕ). (k == chain_end) ≡ false) nexts ne)
          (subst (λ (k : ℕ). Links other md_len h (suc n) (p ∷ seen) p k rest ps) nexts l) in
          let all = way.completes other (stay other same) (is ++ rest) (p ∷ ps) one in
          subst (λ (xs : List Item). Chain other md_len h xs ((pages ++ p ∷ []) ++ ps))
          (sym (append_assoc items is rest))
          (subst (λ (qs : List ℕ). Chain other md_len h (items ++ (is ++ rest)) qs)
          (sym (append_assoc pages (p ∷ []) ps)) all);
      breaks = λ other same f b.
          let at : other p ≡ page = stands other same in
          let nexts : next ≡ next_of (other p) = next_is ∙ ap next_of (sym at) in
          way.breaks other (stay other same) f
          (later n seen before p is f (subst (λ (x : List ℕ). link_fault x md_len h n seen before p ≡ None) (sym at)
          passes) (subst (λ (x : List ℕ). Spells (body_of x) is) (sym at) spells)
          (subst (λ (k : ℕ). (k == chain_end) ≡ false) nexts ne)
          (subst (λ (k : ℕ). Broken other md_len h (suc n) (p ∷ seen) p k f) nexts b));
    }

    -- a page without fault that ends the chain makes it whole
    pub ends : (next : ℕ) → next ≡ next_of page → next ≡ chain_end
        → Chain (with_page look p page) md_len h (items ++ is) (pages ++ p ∷ [])
    ends next next_is end =
        let at : with_page look p page p ≡ page = here look p page in
        way.completes (with_page look p page) stays is (p ∷ [])
        (last n seen before p is (subst (λ (x : List ℕ). link_fault x md_len h n seen before p ≡ None) (sym at) passes)
        (subst (λ (x : List ℕ). Spells (body_of x) is) (sym at) spells)
        (ap next_of at ∙ sym next_is ∙ end))

  -- a page with a fault breaks the chain
  pub fails : (f : ChainFault) → link_fault page md_len h n seen before p ≡ Some f
      → IsBroken (with_page look p page) md_len h f
  fails f e = way.breaks (with_page look p page) stays f
      (at_link n seen before p f (subst (λ (x : List ℕ). link_fault x md_len h n seen before p ≡ Some f)
      (sym (here look p page)) e))

  -- a page whose body has a fault breaks the chain
  pub spoils : (at kind : ℕ) → link_fault page md_len h n seen before p ≡ None → Spoils (body_of page) at kind
      → IsBroken (with_page look p page) md_len h (faults.BadItem p at kind)
  spoils at kind passes s =
      way.breaks (with_page look p page) stays (faults.BadItem p at kind)
      (at_item n seen before p at kind (subst (λ (x : List ℕ). link_fault x md_len h n seen before p ≡ None)
      (sym (here look p page)) passes) (subst (λ (x : List ℕ). Spoils (body_of x) at kind) (sym (here look p page))
      s))
