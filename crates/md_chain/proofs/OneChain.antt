-- A head has one chain, or one first fault.
use Rattle.std.proofs.Common.{◌≡◌, ℕ, suc, false, eqb, List, ◌∷◌, None, refl, sym, subst}
use Rattle.std.proofs.lemmas.Bool.{eq-eqb, both_ways}
use Rattle.descriptors.specs.declared.item.Item.{Item}
use Rattle.descriptors.specs.Grammar.{Spells}
use Rattle.descriptors.proofs.OneReading.{one_list, one_fault, not_both}
use Rattle.md_chain.specs.declared.fault.ChainFault.{ChainFault}
use Rattle.md_page.specs.Page.{body_of, next_of}
use Rattle.md_chain.specs.Chain.{link_fault, chain_end, Links, last, more, Broken, at_link, at_item, later, Agree}

not_the_end : (n : ℕ) → n ≡ chain_end → eqb n chain_end ≡ false → ⊥
not_the_end n e f = both_ways (eqb n chain_end) f (eq-eqb n chain_end e)

module _ (look : ℕ → List ℕ) (md_len h : ℕ) where
  -- a head has one chain at most
  pub one_chain : (n : ℕ) (seen : List ℕ) (before p : ℕ) (xs ys : List Item) (ps qs : List ℕ)
      → Links look md_len h n seen before p xs ps → Links look md_len h n seen before p ys qs → (xs ≡ ys) × (ps ≡ qs)
  one_chain n seen before p xs ys ps qs (last _ _ _ _ _ lf s e) (last _ _ _ _ _ lf' s' e') =
      (one_list _ xs ys s s', refl)
  one_chain n seen before p xs ys ps qs (last _ _ _ _ _ lf s e) (more _ _ _ _ items rest pages lf' s' ne l) =
      absurd (not_the_end _ e ne)
  one_chain n seen before p xs ys ps qs (more _ _ _ _ items rest pages lf s ne l) (last _ _ _ _ _ lf' s' e') =
      absurd (not_the_end _ e' ne)
  one_chain n seen before p xs ys ps qs (more _ _ _ _ items rest pages lf s ne l)
      (more _ _ _ _ items' rest' pages' lf' s' ne' l') =
      let first : items ≡ items' = one_list _ items items' s s' in
      let tail : (rest ≡ rest') × (pages ≡ pages') = one_chain (suc n) (p ∷ seen) p (next_of (look p)) rest rest' pages
      pages' l l' in
      (cc, cc)

  -- a head has one first fault at most
  pub one_break : (n : ℕ) (seen : List ℕ) (before p : ℕ) (f g : ChainFault) → Broken look md_len h n seen before p f
      → Broken look md_len h n seen before p g → f ≡ g
  one_break n seen before p f g (at_link _ _ _ _ _ a) (at_link _ _ _ _ _ b) = cc
  one_break n seen before p f g (at_link _ _ _ _ _ a) (at_item _ _ _ _ at kind b s) = absurd cc
  one_break n seen before p f g (at_link _ _ _ _ _ a) (later _ _ _ _ items _ b s ne l) = absurd cc
  one_break n seen before p f g (at_item _ _ _ _ at kind a s) (at_link _ _ _ _ _ b) = absurd cc
  one_break n seen before p f g (at_item _ _ _ _ at kind a s) (at_item _ _ _ _ at' kind' b s') =
      let e : (at ≡ at') × (kind ≡ kind') = one_fault _ at kind at' kind' s s' in cc
  one_break n seen before p f g (at_item _ _ _ _ at kind a s) (later _ _ _ _ items _ b s' ne l) =
      absurd (not_both _ items at kind s' s)
  one_break n seen before p f g (later _ _ _ _ items _ a s ne l) (at_link _ _ _ _ _ b) = absurd cc
  one_break n seen before p f g (later _ _ _ _ items _ a s ne l) (at_item _ _ _ _ at kind b s') =
      absurd (not_both _ items at kind s s')
  one_break n seen before p f g (later _ _ _ _ items _ a s ne l) (later _ _ _ _ items' _ b s' ne' l') =
      one_break (suc n) (p ∷ seen) p (next_of (look p)) f g l l'

  -- no head has a chain and a fault
  pub not_both_ways : (n : ℕ) (seen : List ℕ) (before p : ℕ) (xs : List Item) (ps : List ℕ) (f : ChainFault)
      → Links look md_len h n seen before p xs ps → Broken look md_len h n seen before p f → ⊥
  not_both_ways n seen before p xs ps f (last _ _ _ _ _ lf s e) (at_link _ _ _ _ _ a) = absurd cc
  not_both_ways n seen before p xs ps f (last _ _ _ _ _ lf s e) (at_item _ _ _ _ at kind a s') =
      not_both _ xs at kind s s'
  not_both_ways n seen before p xs ps f (last _ _ _ _ _ lf s e) (later _ _ _ _ items _ a s' ne l) = not_the_end _ e ne
  not_both_ways n seen before p xs ps f (more _ _ _ _ items rest pages lf s ne l) (at_link _ _ _ _ _ a) = absurd cc
  not_both_ways n seen before p xs ps f (more _ _ _ _ items rest pages lf s ne l) (at_item _ _ _ _ at kind a s') =
      not_both _ items at kind s s'
  not_both_ways n seen before p xs ps f (more _ _ _ _ items rest pages lf s ne l) (later _ _ _ _ items' _ a s' ne' l') =
      not_both_ways (suc n) (p ∷ seen) p (next_of (look p)) rest pages f l l'

  -- a chain is that of every image that agrees at its pages
  pub kept : (other : ℕ → List ℕ) (n : ℕ) (seen : List ℕ) (before p : ℕ) (xs : List Item) (ps : List ℕ)
      → Agree look other ps → Links look md_len h n seen before p xs ps → Links other md_len h n seen before p xs ps
  kept other n seen before p xs ps same (last _ _ _ _ _ lf s e) =
      let here : look p ≡ other p = sym same.0 in
      last n seen before p xs (subst (λ (page : List ℕ). link_fault page md_len h n seen before p ≡ None) here lf)
      (subst (λ (page : List ℕ). Spells (body_of page) xs) here s)
      (subst (λ (page : List ℕ). next_of page ≡ chain_end) here e)
  kept other n seen before p xs ps same (more _ _ _ _ items rest pages lf s ne l) =
      let here : look p ≡ other p = sym same.0 in
      more n seen before p items rest pages (subst (λ (page : List ℕ). link_fault page md_len h n seen before p ≡ None)
      here lf) (subst (λ (page : List ℕ). Spells (body_of page) items) here s)
      (subst (λ (page : List ℕ). eqb (next_of page) chain_end ≡ false) here ne)
      (subst (λ (page : List ℕ). Links other md_len h (suc n) (p ∷ seen) p (next_of page) rest pages) here
      (kept other (suc n) (p ∷ seen) p (next_of (look p)) rest pages same.1 l))
