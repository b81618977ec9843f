-- Which pages are in use once a blob is erased, the chains then, and the generations.
use Rattle.std.proofs.Common.{◌≡◌, ◌≢◌, ◌⊎◌, ◌≤◌, ◌<◌, ◌++◌, ℕ, Bool, true, false, List, [], ◌∷◌, None, Some, sym}
use Rattle.std.proofs.Common.{◌∙◌, ap, subst, inl, inr, arith}
use Rattle.std.specs.Prelude.{if◌then◌else◌, is_some, slice_set}
use Rattle.std.proofs.lemmas.Bool.{both_ways, cases_eq}
use Rattle.std.proofs.lemmas.List.{get_or-set_other, get_or-set_same, length-set}
use Rattle.super_block.specs.declared.page.Super.{Super}
use Rattle.bit_array.specs.Bits.{is_in}
use Rattle.md_chain.specs.Chain.{is_among}
use Rattle.store_model.specs.Guarding.{AreGenerations}
use Rattle.store_model.specs.Jobs.{IsErasure}
use Rattle.store_model.specs.Maps.{Chains, Map, Metas, with_option, without_entry}
use Rattle.store_model.specs.Phases.{chain_before, Replacing, taken_by}
use Rattle.store_model.specs.Places.{IsLinked, UsedPages}
use Rattle.store_model.specs.RunInvariant.{HaveChains}
use Rattle.store_model.proofs.LeftToDo.{among_left, among_right, among_split, chain_there}
use Rattle.store_model.proofs.Sets.{among_either, among_first, among_later}
use Rattle.store_model.proofs.Used.{within}
use Rattle.store_model.proofs.WithEntry.{option_elsewhere, option_here}

-- a blob's chain goes, of which the pages behind the head are cleared later
module _ (s : Super) (metas : Metas) (chains : Chains) (have : HaveChains s metas chains) (bits : List Bool)
    (r : Replacing) (later : List ℕ) (stood : chains r.head ≡ chain_before r) (erasure : IsErasure r)
    (u : UsedPages s.md_len bits chains (taken_by r ++ later)) where
  abbrev now : Chains
  now = with_option chains r.head None

  there : chains r.head ≡ Some (r.head ∷ r.old)
  there = stood ∙ chain_there r erasure.1

  none_taken : taken_by r ≡ []
  none_taken = ap (λ b. if b then r.head ∷ r.fresh else r.fresh) erasure.1 ∙ erasure.0

  used : UsedPages s.md_len bits chains later
  used = subst (λ l. UsedPages s.md_len bits chains (l ++ later)) none_taken u

  pub erased_low : r.head < s.md_len
  erased_low = have.low r.head r.head (r.head ∷ r.old) there (among_first r.head r.old)

  -- a chain that is there then is another blob's, and was there
  apart_now : (h : ℕ) (pages : List ℕ) → now h ≡ Some pages → h ≢ r.head
  apart_now h pages chain e = let bad = sym (option_here chains r.head None h e) ∙ chain in cc bad

  chain_was : (h : ℕ) (pages : List ℕ) → now h ≡ Some pages → chains h ≡ Some pages
  chain_was h pages chain =
      sym (option_elsewhere chains r.head None h (apart_now h pages chain)) ∙ chain

  was_linked : (x : ℕ) → IsLinked now x → IsLinked chains x
  was_linked x l =
      record { head = l.head; pages = l.pages; chain = chain_was l.head l.pages l.chain; among = l.among }

  -- it has no page of the erased blob's chain
  not_its : (x : ℕ) → IsLinked now x → is_among x (r.head ∷ r.old) ≡ true → ⊥
  not_its x l among = apart_now l.head l.pages l.chain
      (have.apart l.head r.head x l.pages (r.head ∷ r.old) (chain_was l.head l.pages l.chain) there l.among among)

  its_linked : (x : ℕ) → is_among x (r.head ∷ r.old) ≡ true → IsLinked chains x
  its_linked x among = record { head = r.head; pages = r.head ∷ r.old; chain = there; among = among }

  still_linked : (x : ℕ) → IsLinked chains x → IsLinked now x ⊎ (is_among x (r.head ∷ r.old) ≡ true)
  still_linked x l = elim (cases_eq l.head r.head) [
    | inl e ↦
        let same : l.pages ≡ r.head ∷ r.old = let both = sym l.chain ∙ ap chains e ∙ there in cc both in
        inr (subst (λ ps. is_among x ps ≡ true) same l.among)
    | inr ne ↦ inl (record {
      head = l.head;
      pages = l.pages;
      chain = option_elsewhere chains r.head None l.head ne ∙ l.chain;
      among = l.among;
    })
  ]

  old_apart : (x : ℕ) → is_among x r.old ≡ true → x ≢ r.head
  old_apart x among e = both_ways (is_among r.head r.old) (have.differ r.head (r.head ∷ r.old) there).0
      (subst (λ y. is_among y r.old ≡ true) e among)

  -- the head's page is clear, and the old pages are held
  pub used_erased : UsedPages s.md_len (slice_set bits r.head false) now (r.old ++ later)
  used_erased =
      let same : (x : ℕ) → x ≢ r.head → is_in (slice_set bits r.head false) x ≡ is_in bits x =
      λ x ne. get_or-set_other bits r.head x false false ne in
      let old_linked : (x : ℕ) → is_among x r.old ≡ true → IsLinked chains x =
      λ x among. its_linked x (among_later x r.head r.old among) in
      let later_apart : (x : ℕ) → is_among x later ≡ true → x ≢ r.head =
      λ x held e. used.apart x held (its_linked x (subst (λ y. is_among y (r.head ∷ r.old) ≡ true) (sym e)
      (among_first r.head r.old))) in
      record {
        count = length-set bits r.head false ∙ used.count;
        linked = λ x l.
            same x (λ e. not_its x l (subst (λ y. is_among y (r.head ∷ r.old) ≡ true) (sym e)
            (among_first r.head r.old))) ∙ used.linked x (was_linked x l);
        held_too = λ x among. elim (among_split x r.old later among) [
          | inl o ↦ same x (old_apart x o) ∙ used.linked x (old_linked x o)
          | inr held ↦ same x (later_apart x held) ∙ used.held_too x held
        ];
        no_other = λ x is. elim (cases_eq x r.head) [
          | inl e ↦
              let low = within bits r.head (used.linked r.head (its_linked r.head (among_first r.head r.old))) in
              absurd (both_ways (is_in (slice_set bits r.head false) r.head)
              (get_or-set_same bits r.head false false low)
              (subst (λ y. is_in (slice_set bits r.head false) y ≡ true) e is))
          | inr ne ↦ elim (used.no_other x (sym (same x ne) ∙ is)) [
            | inl l ↦ elim (still_linked x l) [
              | inl still ↦ inl still
              | inr its ↦ elim (among_either x r.head r.old its) [
                | inl e ↦ absurd (ne e)
                | inr o ↦ inr (among_left x r.old later o)
              ]
            ]
            | inr held ↦ inr (among_right x r.old later held)
          ]
        ];
        apart = λ x among l. elim (among_split x r.old later among) [
          | inl o ↦ not_its x l (among_later x r.head r.old o)
          | inr held ↦ used.apart x held (was_linked x l)
        ];
      }

  pub chains_erased : HaveChains s (with_option metas r.head None) now
  chains_erased = record {
    chain = λ h m is. elim (cases_eq h r.head) [
      | inl e ↦ absurd (let bad = sym (option_here metas r.head None h e) ∙ is in cc bad)
      | inr ne ↦
          let c = have.chain h m (sym (option_elsewhere metas r.head None h ne) ∙ is) in
          (c.0, option_elsewhere chains r.head None h ne ∙ c.1)
    ];
    none = λ h is. elim (cases_eq h r.head) [
      | inl e ↦ option_here chains r.head None h e
      | inr ne ↦ option_elsewhere chains r.head None h ne
          ∙ have.none h (sym (option_elsewhere metas r.head None h ne) ∙ is)
    ];
    low = λ h x pages chain among. have.low h x pages (chain_was h pages chain) among;
    apart = λ h k x ps qs hp kq hx kx. have.apart h k x ps qs (chain_was h ps hp) (chain_was k qs kq) hx kx;
    differ = λ h pages chain. have.differ h pages (chain_was h pages chain);
  }

-- an erased blob has no generation any more
pub generations_erased : (base : Metas) (head : ℕ) (generations : Map ℕ) (drawn more : ℕ) → drawn ≤ more
    → AreGenerations base generations drawn
    → AreGenerations (with_option base head None) (without_entry generations head) more
generations_erased base head generations drawn more le g =
    let was : (h number : ℕ) → without_entry generations head h ≡ Some number → generations h ≡ Some number =
    λ h number is. elim (cases_eq h head) [
      | inl e ↦ absurd (let bad = sym (option_here generations head None h e) ∙ is in cc bad)
      | inr ne ↦ sym (option_elsewhere generations head None h ne) ∙ is
    ] in
    record {
      each = λ h. elim (cases_eq h head) [
        | inl e ↦ ap is_some (option_here generations head None h e)
            ∙ sym (ap is_some (option_here base head None h e))
        | inr ne ↦ ap is_some (option_elsewhere generations head None h ne) ∙ g.each h
            ∙ sym (ap is_some (option_elsewhere base head None h ne))
      ];
      low = λ h number is. let old = g.low h number (was h number is) in omega (arith, old, le);
      differ = λ h k number is too. g.differ h k number (was h number is) (was k number too);
    }
