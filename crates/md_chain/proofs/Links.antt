-- What the links of a chain say of its pages.
use Rattle.std.proofs.Common.{◌≡◌, ℕ, suc, ◌+◌, ◌^◌, ◌<◌, ◌≤◌, Bool, true, false, cond, List, [], ◌∷◌, Option, Some}
use Rattle.std.proofs.Common.{None, refl, subst, inl, inr, arith}
use Rattle.std.specs.Prelude.{◌==◌}
use Rattle.std.proofs.lemmas.Bool.{not-false, ltb-true, eqb-true, eq-eqb, or_cases}
use Rattle.descriptors.specs.declared.item.Item.{Item}
use Rattle.crc32c.specs.Crc.{is_sound}
use Rattle.md_page.specs.Page.{id_of, sequence_of}
use Rattle.md_chain.specs.Chain.{Look, link_fault, is_among, Links, last, more, Agree}

-- what a page that passes its tests is
pub record LinkPasses (page : List ℕ) (md_len h n : ℕ) (seen : List ℕ) (p : ℕ) : Type 0 where
  pub low : p < md_len
  pub new : is_among p seen ≡ false
  pub sound : is_sound page ≡ true
  pub id : id_of page ≡ 2 ^ 32 + h
  pub sequence : sequence_of page ≡ n

one_test : {X : Type 0} (b : Bool) (f : X) (rest : Option X) → cond b (Some f) rest ≡ None → (b ≡ false) × (rest ≡ None)
one_test true f rest e = absurd cc
one_test false f rest e = (refl, e)

-- a page without fault passes each test
pub passes : (page : List ℕ) (md_len h n : ℕ) (seen : List ℕ) (before p : ℕ)
    → link_fault page md_len h n seen before p ≡ None → LinkPasses page md_len h n seen p
unfolding link_fault
passes page md_len h n seen before p e =
    let a = one_test _ _ _ e in
    let b = one_test _ _ _ a.1 in
    let c = one_test _ _ _ b.1 in
    let d = one_test _ _ _ c.1 in
    let f = one_test _ _ _ d.1 in
    record {
      low = ltb-true p md_len (not-false _ a.0);
      new = b.0;
      sound = not-false _ c.0;
      id = eqb-true _ _ (not-false _ d.0);
      sequence = eqb-true _ _ (not-false _ f.0);
    }

-- a page of a chain, from the nth on
pub record Linked (page : List ℕ) (md_len h n p : ℕ) : Type 0 where
  pub low : p < md_len
  pub sound : is_sound page ≡ true
  pub id : id_of page ≡ 2 ^ 32 + h
  pub late : n ≤ sequence_of page

among_one : (q p : ℕ) → is_among q (p ∷ []) ≡ true → p ≡ q
among_one q p e = elim (or_cases (p == q) false e) [ inl a ↦ eqb-true p q a | inr b ↦ absurd cc ]

-- each page of a chain is sound, of the head's blob, and no earlier than its start
pub linked : (look : Look) (md_len h n : ℕ) (seen : List ℕ) (before p : ℕ) (items : List Item) (pages : List ℕ)
    → Links look md_len h n seen before p items pages
    → (q : ℕ) → is_among q pages ≡ true → Linked (look q) md_len h n q
linked look md_len h n seen before p items pages (last _ _ _ _ _ lf s e) q a =
    let t = passes (look p) md_len h n seen before p lf in
    subst (λ (k : ℕ). Linked (look k) md_len h n k) (among_one q p a)
    (record { low = t.low; sound = t.sound; id = t.id; late = let x = t.sequence in omega (arith, x) })
linked look md_len h n seen before p items pages (more _ _ _ _ _ rest ps lf s ne l) q a =
    let t = passes (look p) md_len h n seen before p lf in
    elim (or_cases (p == q) (is_among q ps) a) [
      | inl e ↦ subst (λ (k : ℕ). Linked (look k) md_len h n k) (eqb-true p q e)
          (record { low = t.low; sound = t.sound; id = t.id; late = let x = t.sequence in omega (arith, x) })
      | inr b ↦ let w = linked look md_len h (suc n) _ _ _ rest ps l q b in
          record { low = w.low; sound = w.sound; id = w.id; late = let x = w.late in omega (arith, x) }
    ]

-- the first page is at p
pub begins : (look : Look) (md_len h n : ℕ) (seen : List ℕ) (before p : ℕ) (items : List Item) (pages : List ℕ)
    → Links look md_len h n seen before p items pages → is_among p pages ≡ true
begins look md_len h n seen before p items pages (last _ _ _ _ _ lf s e) = grind (arith, eq-eqb p p refl)
begins look md_len h n seen before p items pages (more _ _ _ _ _ rest ps lf s ne l) = grind (arith, eq-eqb p p refl)

-- the first page passes the tests
pub first : (look : Look) (md_len h n : ℕ) (seen : List ℕ) (before p : ℕ) (items : List Item) (pages : List ℕ)
    → Links look md_len h n seen before p items pages → LinkPasses (look p) md_len h n seen p
first look md_len h n seen before p items pages (last _ _ _ _ _ lf s e) = passes (look p) md_len h n seen before p lf
first look md_len h n seen before p items pages (more _ _ _ _ _ rest ps lf s ne l) =
    passes (look p) md_len h n seen before p lf

-- of a chain `h, rest`, each page of the rest has a sequence above 0
pub later : (look : Look) (md_len h n : ℕ) (seen : List ℕ) (before p : ℕ) (items : List Item) (k : ℕ) (rest : List ℕ)
    → Links look md_len h n seen before p items (k ∷ rest)
    → (p ≡ k) × ((q : ℕ) → is_among q rest ≡ true → Linked (look q) md_len h (suc n) q)
later look md_len h n seen before p items k rest (last _ _ _ _ _ lf s e) = (refl, λ q a. absurd cc)
later look md_len h n seen before p items k rest (more _ _ _ _ _ is ps lf s ne l) =
    (refl, λ q a. linked look md_len h (suc n) _ _ _ is rest l q a)

-- images agree at places where they have the same pages
pub agree_by : (look other : Look) (ps : List ℕ) → ((q : ℕ) → is_among q ps ≡ true → other q ≡ look q)
    → Agree look other ps
agree_by look other [] same = tt
agree_by look other (p ∷ ps) same = (
  same p (grind (arith, eq-eqb p p refl)),
  agree_by look other ps
      (λ q a. same q (grind (arith, a))),
)

-- images that agree at places have the same pages there
pub agree_at : (look other : Look) (ps : List ℕ) → Agree look other ps → (q : ℕ) → is_among q ps ≡ true
    → other q ≡ look q
agree_at look other [] same q a = absurd cc
agree_at look other (p ∷ ps) same q a = elim (or_cases (p == q) (is_among q ps) a) [
  | inl e ↦ subst (λ (k : ℕ). other k ≡ look k) (eqb-true p q e) same.0
  | inr b ↦ agree_at look other ps same.1 q b
]
