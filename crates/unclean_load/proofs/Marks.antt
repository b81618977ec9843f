-- Sets of places to which those of chains are added one by one.
use Rattle.std.proofs.Common.{◌≡◌, ℕ, zero, suc, ◌+◌, ◌<◌, ◌≤◌, Bool, true, false, eqb, List, [], ◌∷◌, length, take}
use Rattle.std.proofs.Common.{get_or, Some, None, refl, sym, ap, subst, ◌∙◌, inl, inr, arith}
use Rattle.std.specs.Prelude.{slice_set, ◌||◌, ◌↔◌, replicate}
use Rattle.std.proofs.lemmas.Bool.{cases_Bool, cases_eq, cases_lt, both_ways, eq-eqb, eqb-true, ne_eqb, or_cases}
use Rattle.std.proofs.lemmas.Bool.{or_parts, or_left}
use Rattle.std.proofs.lemmas.List.{get_or-set_same, get_or-set_other, length-set, take_more, length-replicate}
use Rattle.std.proofs.lemmas.List.{get_or-replicate}
use Rattle.std.proofs.Math.ListN.{get_or-eq_default}
use Rattle.bit_array.specs.Bits.{is_in}
use Rattle.md_chain.specs.Chain.{is_among}
use Rattle.md_chain.proofs.PageWalk.{among-more}
use Rattle.store_model.specs.Maps.{Chains}
use Rattle.store_model.specs.Places.{AreDistinct, IsLinked, UsedPages}
use Rattle.store_model.proofs.Sets.{among_first, among_later}
use Rattle.unclean_load.specs.Claiming.{AreAdded, ChainsAreApart, AreChains, AreNew, IsInTwo}

or_false : (b : Bool) → b ≡ (b || false)
or_false true = refl
or_false false = refl

or_true : (b : Bool) → (b || true) ≡ true
or_true true = refl
or_true false = refl

not_among_none : (x : ℕ) → is_among x [] ≡ true → ⊥
not_among_none x is = cc is

-- a place of a list is among it
pub at_among : (ps : List ℕ) (i d : ℕ) → i < length ps → is_among (get_or ps i d) ps ≡ true
at_among [] i d lt = absurd (omega arith)
at_among (p ∷ ps) zero d lt = among_first p ps
at_among (p ∷ ps) (suc i) d lt = among_later (get_or ps i d) p ps (at_among ps i d (omega arith))

-- a place isn't among those before it
at_new : (ps : List ℕ) (i d : ℕ) → i < length ps → AreDistinct ps → is_among (get_or ps i d) (take i ps) ≡ false
at_new [] i d lt differ = absurd (omega arith)
at_new (p ∷ ps) zero d lt differ = refl
at_new (p ∷ ps) (suc i) d lt differ =
    let lower : i < length ps = omega arith in
    let ne : eqb p (get_or ps i d) ≡ false =
    ne_eqb p (get_or ps i d)
    (λ e. both_ways _ differ.0 (subst (λ (x : ℕ). is_among x ps ≡ true) (sym e) (at_among ps i d lower))) in
    rw ne (at_new ps i d lower differ.1)

-- ---- the places of one chain

-- the marks while the places of one chain are set
pub record Marking (old : List Bool) (pages : List ℕ) (bits : List Bool) (i : ℕ) : Type 0 where
  pub count : length bits ≡ length old
  pub added : AreAdded old (take i pages) bits
  pub new : AreNew old (take i pages)

-- none of the chain's places is set yet
pub marks_begin : (old : List Bool) (pages : List ℕ) → Marking old pages old 0
marks_begin old pages =
    record { count = refl; added = λ x. or_false (is_in old x); new = λ x a. absurd (not_among_none x a) }

module _ (old : List Bool) (pages : List ℕ) (bits : List Bool) (i : ℕ) (m : Marking old pages bits i)
    (lt : i < length pages) where
  abbrev page : ℕ
  page = get_or pages i 0

  among_next : (x : ℕ) → is_among x (take (i + 1) pages) ≡ (is_among x (take i pages) || eqb page x)
  among_next x = ap (is_among x) (take_more pages i 0 lt) ∙ among-more x page (take i pages)

  module _ (low : page < length bits) (clear : is_in bits page ≡ false) where
    added_next : (x : ℕ) → is_in (slice_set bits page true) x ≡ (is_in old x || is_among x (take (i + 1) pages))
    added_next x = elim (cases_eq x page) [
      | inl e ↦
          let there : is_among x (take (i + 1) pages) ≡ true =
          among_next x ∙ ap (λ b. is_among x (take i pages) || b) (eq-eqb page x (sym e))
          ∙ or_true (is_among x (take i pages)) in
          ap (is_in (slice_set bits page true)) e ∙ get_or-set_same bits page true false low
          ∙ sym (ap (λ b. is_in old x || b) there ∙ or_true (is_in old x))
      | inr ne ↦
          let same : is_among x (take (i + 1) pages) ≡ is_among x (take i pages) =
          among_next x ∙ ap (λ b. is_among x (take i pages) || b) (ne_eqb page x (λ e. ne (sym e)))
          ∙ sym (or_false (is_among x (take i pages))) in
          get_or-set_other bits page x true false ne ∙ m.added x ∙ ap (λ b. is_in old x || b) (sym same)
    ]

    new_next : AreNew old (take (i + 1) pages)
    new_next x a = elim (or_cases (is_among x (take i pages)) (eqb page x) (sym (among_next x) ∙ a)) [
      | inl before ↦ m.new x before
      | inr here ↦
          subst (λ (y : ℕ). is_in old y ≡ false) (eqb-true page x here)
          (or_parts (is_in old page) (is_among page (take i pages)) (sym (m.added page) ∙ clear)).0
    ]

    -- one place more is set
    pub marks_on : Marking old pages (slice_set bits page true) (i + 1)
    marks_on = record { count = length-set bits page true ∙ m.count; added = added_next; new = new_next }

  -- a place that is set already was set by an earlier chain
  pub marked_before : AreDistinct pages → is_in bits page ≡ true → is_in old page ≡ true
  marked_before differ is = elim (or_cases (is_in old page) (is_among page (take i pages)) (sym (m.added page) ∙ is)) [
    | inl was ↦ was
    | inr among ↦ absurd (both_ways _ (at_new pages i 0 lt differ) among)
  ]

-- ---- all chains, of the heads below a place

-- a chain of a head below has the place
pub record IsLinkedBelow (chains : Chains) (end place : ℕ) : Type 0 where
  pub link : IsLinked chains place
  pub low : link.head < end

-- the marks of the chains at the heads below the end
pub record Marked (md_len : ℕ) (chains : Chains) (bits : List Bool) (end : ℕ) : Type 0 where
  pub count : length bits ≡ md_len
  pub linked : (place : ℕ) → IsLinkedBelow chains end place → is_in bits place ≡ true
  pub no_other : (place : ℕ) → is_in bits place ≡ true → IsLinkedBelow chains end place
  pub apart : (h k place : ℕ) (ps qs : List ℕ) → h < end → k < end → chains h ≡ Some ps → chains k ≡ Some qs
      → is_among place ps ≡ true → is_among place qs ≡ true → h ≡ k

none_in : (n x : ℕ) → is_in (replicate n false) x ≡ true → ⊥
none_in n x is = both_ways (is_in (replicate n false) x) clear is
  where
    clear : is_in (replicate n false) x ≡ false
    clear = elim (cases_lt x n) [
      | inl lt ↦ get_or-replicate n x false false lt
      | inr le ↦
          get_or-eq_default (replicate n false) false (let len = length-replicate n false in omega (arith, le, len))
    ]

module _ (md_len : ℕ) (chains : Chains) where
  -- no chain is marked yet
  pub marked_none : (bits : List Bool) → bits ≡ replicate md_len false → Marked md_len chains bits 0
  marked_none bits is = record {
    count = ap length is ∙ length-replicate md_len false;
    linked = λ place l. absurd (let x = l.low in omega (arith, x));
    no_other = λ place x. absurd (none_in md_len place (sym (ap (λ b. is_in b place) is) ∙ x));
    apart = λ h k place ps qs a. absurd (omega (arith, a));
  }

  module _ (bits : List Bool) (head : ℕ) (m : Marked md_len chains bits head) where
    wider : (place : ℕ) → IsLinkedBelow chains head place → IsLinkedBelow chains (head + 1) place
    wider place l = record { link = l.link; low = let x = l.low in omega (arith, x) }

    -- a head without chain adds no mark
    pub marked_same : chains head ≡ None → Marked md_len chains bits (head + 1)
    marked_same none =
        let not_here : (h : ℕ) (ps : List ℕ) → h < head + 1 → chains h ≡ Some ps → h < head =
        λ h ps lt there. elim (cases_eq h head) [
          | inl e ↦ let no = ap chains e ∙ none in absurd (cc (no, there))
          | inr ne ↦ omega (arith, lt, ne)
        ] in
        record {
          count = m.count;
          linked =
              λ place l. m.linked place
              (record { link = l.link; low = not_here l.link.head l.link.pages l.low l.link.chain });
          no_other = λ place is. wider place (m.no_other place is);
          apart = λ h k place ps qs a b x y. m.apart h k place ps qs (not_here h ps a x) (not_here k qs b y) x y;
        }

    module _ (pages : List ℕ) (there : chains head ≡ Some pages) where
      same_pages : (h : ℕ) (ps : List ℕ) → h ≡ head → chains h ≡ Some ps → pages ≡ ps
      same_pages h ps e x = let both = sym (ap chains e ∙ there) ∙ x in cc both

      module _ (new : List Bool) (count : length new ≡ length bits) (added : AreAdded bits pages new)
          (fresh : AreNew bits pages) where
        apart_here : (h k place : ℕ) (ps qs : List ℕ) → h ≡ head → k < head → chains h ≡ Some ps → chains k ≡ Some qs
            → is_among place ps ≡ true → is_among place qs ≡ true → ⊥
        apart_here h k place ps qs e lt x y a b =
            both_ways (is_in bits place)
            (fresh place (subst (λ (l : List ℕ). is_among place l ≡ true) (sym (same_pages h ps e x)) a))
            (m.linked place (record { link = record { head = k; pages = qs; chain = y; among = b }; low = lt }))

        -- a head's chain is marked behind the others
        pub marked_more : Marked md_len chains new (head + 1)
        marked_more = record {
          count = count ∙ m.count;
          linked = λ place l. elim (cases_eq l.link.head head) [
            | inl e ↦
                added place
                ∙ ap (λ b. is_in bits place || b)
                (subst (λ (ps : List ℕ). is_among place ps ≡ true)
                (sym (same_pages l.link.head l.link.pages e l.link.chain)) l.link.among) ∙ or_true (is_in bits place)
            | inr ne ↦
                added place
                ∙ or_left (is_in bits place) (is_among place pages)
                (m.linked place (record { link = l.link; low = let x = l.low in omega (arith, x, ne) }))
          ];
          no_other = λ place is. elim (or_cases (is_in bits place) (is_among place pages) (sym (added place) ∙ is)) [
            | inl was ↦ wider place (m.no_other place was)
            | inr now ↦
                record { link = record { head = head; pages = pages; chain = there; among = now }; low = omega arith }
          ];
          apart = λ h k place ps qs lh lk x y a b. elim (cases_eq h head) [
            | inl e ↦ elim (cases_eq k head) [
              | inl f ↦ e ∙ sym f
              | inr f ↦ absurd (apart_here h k place ps qs e (omega (arith, lk, f)) x y a b)
            ]
            | inr e ↦ elim (cases_eq k head) [
              | inl f ↦ absurd (apart_here k h place qs ps f (omega (arith, lh, e)) y x b a)
              | inr f ↦ m.apart h k place ps qs (omega (arith, lh, e)) (omega (arith, lk, f)) x y a b
            ]
          ];
        }

      -- a place of this chain that is marked already is another's
      pub in_two : (place : ℕ) → is_among place pages ≡ true → is_in bits place ≡ true → IsInTwo chains head place
      in_two place among is =
          let l = m.no_other place is in
          record {
            pages = pages;
            chain = there;
            among = among;
            other = l.link.head;
            differs = λ e. absurd (let x = l.low in omega (arith, e, x));
            others = l.link.pages;
            other_chain = l.link.chain;
            other_among = l.link.among;
          }

  module _ (bits : List Bool) (m : Marked md_len chains bits md_len) (low : AreChains md_len chains) where
    -- the marks of all chains are the pages in use
    pub all_used : UsedPages md_len bits chains []
    all_used = record {
      count = m.count;
      linked = λ place l. m.linked place (record { link = l; low = (low l.head l.pages l.chain).0 });
      held_too = λ place is. absurd (not_among_none place is);
      no_other = λ place is. inl (m.no_other place is).link;
      apart = λ place is l. not_among_none place is;
    }

    -- and then no place is in two chains
    pub all_apart : ChainsAreApart chains
    all_apart h k place ps qs x y a b = m.apart h k place ps qs (low h ps x).0 (low k qs y).0 x y a b

-- ---- the heads below a place

-- the marks of the heads below the end
pub record HeadsBelow (there : ℕ → Type 0) (md_len : ℕ) (bits : List Bool) (end : ℕ) : Type 0 where
  pub count : length bits ≡ md_len
  pub heads : (head : ℕ) → head < end → (is_in bits head ≡ true) ↔ there head
  pub none : (head : ℕ) → end ≤ head → is_in bits head ≡ false

module _ (there : ℕ → Type 0) (md_len : ℕ) where
  -- no head is marked yet
  pub no_heads : (bits : List Bool) → bits ≡ replicate md_len false → HeadsBelow there md_len bits 0
  no_heads bits is = record {
    count = ap length is ∙ length-replicate md_len false;
    heads = λ head lt. absurd (omega (arith, lt));
    none =
        λ head le. elim
        (cases_Bool (is_in bits head)) [
          | inl x ↦ absurd
              (none_in md_len head (sym (ap (λ b. is_in b head) is) ∙ x))
          | inr x ↦ x
        ];
  }

  module _ (bits : List Bool) (end : ℕ) (h : HeadsBelow there md_len bits end) where
    -- there is no blob at the end
    pub no_head_there : (there end → ⊥) → HeadsBelow there md_len bits (end + 1)
    no_head_there absent = record {
      count = h.count;
      heads = λ head lt. elim (cases_eq head end) [
        | inl e ↦ (
          λ is. absurd (both_ways (is_in bits head) (h.none head (omega (arith, e))) is),
          λ x. absurd
              (absent (subst there e x)),
        )
        | inr ne ↦ h.heads head (omega (arith, lt, ne))
      ];
      none = λ head le. h.none head (omega (arith, le));
    }

    -- the blob at the end is marked
    pub head_there : end < md_len → there end → HeadsBelow there md_len (slice_set bits end true) (end + 1)
    head_there lt x =
        let low : end < length bits = let c = h.count in omega (arith, lt, c) in
        record {
          count = length-set bits end true ∙ h.count;
          heads = λ head below. elim (cases_eq head end) [
            | inl e ↦ (
              λ _. subst there (sym e) x,
              λ _. ap (is_in (slice_set bits end true)) e
                  ∙ get_or-set_same bits end true false low,
            )
            | inr ne ↦
                let same : is_in (slice_set bits end true) head ≡ is_in bits head =
                get_or-set_other bits end head true false ne in
                let was = h.heads head (omega (arith, below, ne)) in
                (λ is. was.0 (sym same ∙ is), λ t. same ∙ was.1 t)
          ];
          none =
              λ head le. get_or-set_other bits end head true false (λ e. absurd (omega (arith, e, le)))
              ∙ h.none head (omega (arith, le));
        }
