-- A scan of changed pages.
use Rattle.std.proofs.Common.{◌≡◌, ◌≢◌, ℕ, ◌+◌, ◌^◌, ◌<◌, true, false, List, [], Option, Some, None, refl, sym, ap}
use Rattle.std.proofs.Common.{subst, ◌∙◌, inl, inr, arith}
use Rattle.std.specs.Prelude.{nat_lt, ◌&&◌}
use Rattle.std.proofs.lemmas.Bool.{ltb-true, lt-ltb, eq-eqb, and_from, and_left, and_right, cases_Bool, cases_eq}
use Rattle.std.proofs.lemmas.Bool.{both_ways}
use Rattle.blob_meta.specs.declared.meta.Meta.{Meta}
use Rattle.md_chain.specs.Chain.{Look, is_among, Agree}
use Rattle.md_chain.proofs.OneChain.{kept}
use Rattle.md_chain.proofs.Links.{Linked, linked, begins, first, agree_by}
use Rattle.store_model.specs.Maps.{Metas, Chains, Changed}
use Rattle.store_model.specs.Regions.{MdRegion}
use Rattle.store_model.specs.Scans.{MetaAt, is_head, head_at, BlobAt, Scanned, Unlinked}

pub meta_kept : (look other : Look) (r : MdRegion) (h : ℕ) (m : Meta) (ps : List ℕ) → Agree look other ps
    → MetaAt look r h m ps → MetaAt other r h m ps
meta_kept look other r h m ps same x = record {
  items = x.items;
  chain = kept look r.len h other 0 [] h h x.items ps same x.chain;
  faultless = x.faultless;
  meta_is = x.meta_is;
}

-- a page that would be no head isn't one
pub not_head : (look : Look) (len h : ℕ) (page : List ℕ) → look h ≡ page → is_head h page ≡ false
    → head_at look len h ≡ false
not_head look len h page is quiet =
    and_right (nat_lt h len) (is_head h (look h)) (ap (λ (x : List ℕ). is_head h x) is ∙ quiet)

-- one entry stays: the pages of its chain stay, and no head is new
pub entry_kept : (look other : Look) (r : MdRegion) (h : ℕ) (m : Option Meta) (c : Option (List ℕ))
    → BlobAt look r h m c
    → ((ps : List ℕ) → c ≡ Some ps → (q : ℕ) → is_among q ps ≡ true → other q ≡ look q)
    → (head_at look r.len h ≡ false → head_at other r.len h ≡ false) → BlobAt other r h m c
entry_kept look other r h m c (inl b) same none =
    inl (record {
      meta = b.meta;
      pages = b.pages;
      says = meta_kept look other r h b.meta b.pages (agree_by look other b.pages (same b.pages b.pages_are)) b.says;
      meta_is = b.meta_is;
      pages_are = b.pages_are;
    })
entry_kept look other r h m c (inr b) same none =
    inr (record { no_head = none b.no_head; no_meta = b.no_meta; no_chain = b.no_chain })

-- the chain of an entry
pub chain_of : (look : Look) (r : MdRegion) (h : ℕ) (m : Option Meta) (c : Option (List ℕ)) (ps : List ℕ) → c ≡ Some ps
    → BlobAt look r h m c → (q : ℕ) → is_among q ps ≡ true → Linked (look q) r.len h 0 q
chain_of look r h m c ps is (inl b) q a =
    let one : b.pages ≡ ps = let e = sym b.pages_are ∙ is in cc e in
    linked look r.len h 0 [] h h b.says.items b.pages b.says.chain q
    (subst (λ (l : List ℕ). is_among q l ≡ true) (sym one) a)
chain_of look r h m c ps is (inr b) q a = absurd (let e = sym b.no_chain ∙ is in cc e)

one_id : (a b : ℕ) → 2 ^ 32 + a ≡ 2 ^ 32 + b → a ≡ b
one_id a b e = omega (arith, e)

module _ (look : Look) (r : MdRegion) (metas : Metas) (chains : Chains) (said : Scanned look r metas chains) where
  -- no page is in two chains
  pub apart : (h k p : ℕ) (ps qs : List ℕ) → chains h ≡ Some ps → chains k ≡ Some qs → is_among p ps ≡ true
      → is_among p qs ≡ true → h ≡ k
  apart h k p ps qs a b x y =
      one_id h k (sym (chain_of look r h (metas h) (chains h) ps a (said h) p x).id
      ∙ (chain_of look r k (metas k) (chains k) qs b (said k) p y).id)

  -- A page that no chain has isn't a head.
  pub unlinked_no_head : (p : ℕ) → Unlinked chains p → head_at look r.len p ≡ false
  unlinked_no_head p free = elim (said p) [
    | inl w ↦ absurd
        (both_ways _ (free p w.pages w.pages_are) (begins look r.len p 0 [] p p w.says.items w.pages w.says.chain))
    | inr w ↦ w.no_head
  ]

  module _ (other : Look) where
    -- The same pages in the region.
    pub same_region : ((q : ℕ) → q < r.len → other q ≡ look q) → Scanned other r metas chains
    same_region same h =
        entry_kept look other r h (metas h) (chains h) (said h)
        (λ ps is q a. same q (chain_of look r h (metas h) (chains h) ps is (said h) q a).low)
        (λ quiet. elim (cases_Bool (nat_lt h r.len)) [
          | inl t ↦ ap (λ (page : List ℕ). nat_lt h r.len && is_head h page) (same h (ltb-true h r.len t)) ∙ quiet
          | inr f ↦ and_left (nat_lt h r.len) (is_head h (other h)) f
        ])

    -- One page is another: no chain has it, and it would be no head.
    pub unlinked_page : (p : ℕ) (page : List ℕ) → Unlinked chains p → is_head p page ≡ false → other p ≡ page
        → ((q : ℕ) → q ≢ p → other q ≡ look q) → Scanned other r metas chains
    unlinked_page p page free quiet here elsewhere h =
        entry_kept look other r h (metas h) (chains h) (said h)
        (λ ps is q a. elsewhere q (λ e. both_ways _ (free h ps is) (subst (λ (k : ℕ). is_among k ps ≡ true) e a)))
        (λ none. elim (cases_eq h p) [
          | inl e ↦ not_head other r.len h page (ap other e ∙ here) (ap (λ (k : ℕ). is_head k page) e ∙ quiet)
          | inr ne ↦ ap (λ (x : List ℕ). nat_lt h r.len && is_head h x) (elsewhere h ne) ∙ none
        ])

    -- The head's page is another, by which its metadata and chain are others.
    module _ (h : ℕ) (others : (k : ℕ) (ps : List ℕ) → k ≢ h → chains k ≡ Some ps → is_among h ps ≡ false)
        (elsewhere : (q : ℕ) → q ≢ h → other q ≡ look q) (m : Metas) (c : Chains) where
      rest : {n : Option Meta} {d : Option (List ℕ)} → Changed metas h n m → Changed chains h d c → (q : ℕ) → q ≢ h
          → BlobAt other r q (m q) (c q)
      rest cm cd q ne =
          subst (λ (x : Option Meta). BlobAt other r q x (c q)) (sym (cm.elsewhere q ne))
          (subst (λ (x : Option (List ℕ)). BlobAt other r q (metas q) x) (sym (cd.elsewhere q ne))
          (entry_kept look other r q (metas q) (chains q) (said q)
          (λ ps is p a. elsewhere p
          (λ e. both_ways _ (others q ps ne is) (subst (λ (k : ℕ). is_among k ps ≡ true) e a)))
          (λ none. ap (λ (x : List ℕ). nat_lt q r.len && is_head q x) (elsewhere q ne) ∙ none)))

      pub head_replaced : (new : Meta) (pages : List ℕ) → MetaAt other r h new pages → Changed metas h (Some new) m
          → Changed chains h (Some pages) c → Scanned other r m c
      head_replaced new pages says cm cd q = elim (cases_eq q h) [
        | inl e ↦ subst (λ (k : ℕ). BlobAt other r k (m k) (c k)) (sym e)
            (inl (record { meta = new; pages = pages; says = says; meta_is = cm.here; pages_are = cd.here }))
        | inr ne ↦ rest cm cd q ne
      ]

      pub head_erased : is_head h (other h) ≡ false → Changed metas h None m → Changed chains h None c
          → Scanned other r m c
      head_erased quiet cm cd q = elim (cases_eq q h) [
        | inl e ↦ subst (λ (k : ℕ). BlobAt other r k (m k) (c k)) (sym e) (inr
            (record { no_head = not_head other r.len h (other h) refl quiet; no_meta = cm.here; no_chain = cd.here }))
        | inr ne ↦ rest cm cd q ne
      ]

-- a head has a chain that begins at it
pub is_at : (look : Look) (r : MdRegion) (h : ℕ) (m : Meta) (ps : List ℕ) → MetaAt look r h m ps
    → head_at look r.len h ≡ true
is_at look r h m ps x =
    let t = first look r.len h 0 [] h h x.items ps x.chain in
    and_from _ _ (lt-ltb h r.len t.low) (and_from _ _ (and_from _ _ t.sound (eq-eqb _ _ t.sequence)) (eq-eqb _ _ t.id))
