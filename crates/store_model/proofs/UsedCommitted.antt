-- Which pages are in use once a head is replaced, and the chains then.
use Rattle.std.proofs.Common.{◌≡◌, ◌≢◌, ◌⊎◌, ℕ, Bool, true, false, List, [], ◌∷◌, Some, refl, sym, ◌∙◌, ap}
use Rattle.std.proofs.Common.{subst, inl, inr, ◌++◌, None}
use Rattle.std.specs.Prelude.{if◌then◌else◌}
use Rattle.std.proofs.lemmas.Bool.{cases_Bool, cases_eq, both_ways, false_from_ne_true}
use Rattle.super_block.specs.declared.page.Super.{Super}
use Rattle.blob_meta.specs.declared.meta.Meta.{Meta}
use Rattle.md_chain.specs.Chain.{is_among}
use Rattle.store_model.specs.Maps.{Metas, Chains, with_entry}
use Rattle.store_model.specs.Places.{AreDistinct, IsLinked, UsedPages}
use Rattle.store_model.specs.RunInvariant.{HaveChains}
use Rattle.shown_volumes.proofs.WithEntry.{given_here, given_elsewhere}
use Rattle.store_model.proofs.Sets.{among_either, among_first, among_later}
use Rattle.store_model.proofs.Sets.{AllBelow}
use Rattle.store_model.proofs.LeftToDo.{among_left, among_right, distinct_both, among_split, distinct_apart}
use Rattle.store_model.proofs.LeftToDo.{distinct_right, among_taken, chain_new, chain_there, no_place}
use Rattle.store_model.specs.Phases.{Replacing, chain_before, taken_by}

-- a head's chain is another: that of a blob that was there, or of a new one, whose head is one of the places taken
module _ (s : Super) (metas : Metas) (chains : Chains) (have : HaveChains s metas chains) (bits : List Bool)
    (r : Replacing) (later : List ℕ) (stood : chains r.head ≡ chain_before r) (unerased : r.makes ≡ true → r.old ≡ [])
    (u : UsedPages s.md_len bits chains (taken_by r ++ later)) where
  abbrev now : Chains
  now = with_entry chains r.head (r.head ∷ r.fresh)

  none_before : r.makes ≡ true → chains r.head ≡ None
  none_before makes = stood ∙ chain_new r makes

  there : r.makes ≡ false → chains r.head ≡ Some (r.head ∷ r.old)
  there not = stood ∙ chain_there r not

  head_taken : r.makes ≡ true → is_among r.head (taken_by r) ≡ true
  head_taken makes = rw makes (among_first r.head r.fresh)

  -- each place that is taken is one of the new chain
  taken_new : (x : ℕ) → is_among x (taken_by r) ≡ true → is_among x (r.head ∷ r.fresh) ≡ true
  taken_new x = by r.makes
    where
      by : (b : Bool) → is_among x (if b then r.head ∷ r.fresh else r.fresh) ≡ true
          → is_among x (r.head ∷ r.fresh) ≡ true
      by true among = among
      by false among = among_later x r.head r.fresh among

  -- no chain has a place that is taken
  taken_apart : (x : ℕ) → is_among x (taken_by r) ≡ true → IsLinked chains x → ⊥
  taken_apart x among = u.apart x (among_left x (taken_by r) later among)

  linked_new : (x : ℕ) → is_among x (r.head ∷ r.fresh) ≡ true → IsLinked now x
  linked_new x among = record {
    head = r.head;
    pages = r.head ∷ r.fresh;
    chain = given_here chains r.head (r.head ∷ r.fresh) r.head refl;
    among = among;
  }

  linked_head : r.makes ≡ false → IsLinked chains r.head
  linked_head not =
      record { head = r.head; pages = r.head ∷ r.old; chain = there not; among = among_first r.head r.old }

  pages_here : (h : ℕ) (pages : List ℕ) → h ≡ r.head → now h ≡ Some pages → pages ≡ r.head ∷ r.fresh
  pages_here h pages e chain =
      let both = sym chain ∙ given_here chains r.head (r.head ∷ r.fresh) h e in cc both

  -- what was linked is linked still, or is one of the old pages
  still_linked : (x : ℕ) → IsLinked chains x → IsLinked now x ⊎ (is_among x r.old ≡ true)
  still_linked x l = elim (cases_eq l.head r.head) [
    | inl e ↦ elim (cases_Bool r.makes) [
      | inl makes ↦ absurd (let bad = sym l.chain ∙ ap chains e ∙ none_before makes in cc bad)
      | inr not ↦
          let same : l.pages ≡ r.head ∷ r.old = let both = sym l.chain ∙ ap chains e ∙ there not in cc both in
          elim (among_either x r.head r.old (subst (λ ps. is_among x ps ≡ true) same l.among)) [
            | inl first ↦ inl (linked_new x
                (subst (λ y. is_among y (r.head ∷ r.fresh) ≡ true) (sym first) (among_first r.head r.fresh)))
            | inr behind ↦ inr behind
          ]
    ]
    | inr ne ↦ inl (record {
      head = l.head;
      pages = l.pages;
      chain = given_elsewhere chains r.head (r.head ∷ r.fresh) l.head ne ∙ l.chain;
      among = l.among;
    })
  ]

  -- what is linked was, or is one of the places taken
  was_linked : (x : ℕ) → IsLinked now x → IsLinked chains x ⊎ (is_among x (taken_by r) ≡ true)
  was_linked x l = elim (cases_eq l.head r.head) [
    | inl e ↦ elim (among_either x r.head r.fresh
        (subst (λ ps. is_among x ps ≡ true) (pages_here l.head l.pages e l.chain)
        l.among)) [
          | inl first ↦ elim (cases_Bool r.makes) [
            | inl makes ↦ inr (ap (λ y. is_among y (taken_by r)) first ∙ head_taken makes)
            | inr not ↦ inl (subst (IsLinked chains) (sym first) (linked_head not))
          ]
          | inr behind ↦ inr (among_taken r x behind)
        ]
    | inr ne ↦ inl (record {
      head = l.head;
      pages = l.pages;
      chain = sym (given_elsewhere chains r.head (r.head ∷ r.fresh) l.head ne) ∙ l.chain;
      among = l.among;
    })
  ]

  -- where there are old pages the blob was there
  were_some : (x : ℕ) → is_among x r.old ≡ true → r.makes ≡ false
  were_some x among = elim (cases_Bool r.makes) [
    | inl makes ↦ absurd (no_place r.old x among (unerased makes))
    | inr not ↦ not
  ]

  old_linked : (x : ℕ) → is_among x r.old ≡ true → IsLinked chains x
  old_linked x among = record {
    head = r.head;
    pages = r.head ∷ r.old;
    chain = there (were_some x among);
    among = among_later x r.head r.old among;
  }

  old_apart : (x : ℕ) → is_among x r.old ≡ true → IsLinked now x → ⊥
  old_apart x among l =
      let was = there (were_some x among) in
      elim (cases_eq l.head r.head) [
        | inl e ↦ elim (among_either x r.head r.fresh
            (subst (λ ps. is_among x ps ≡ true) (pages_here l.head l.pages e l.chain) l.among)) [
              | inl first ↦ both_ways (is_among r.head r.old) (have.differ r.head (r.head ∷ r.old) was).0
                  (subst (λ y. is_among y r.old ≡ true) first among)
              | inr f ↦ taken_apart x (among_taken r x f) (old_linked x among)
            ]
        | inr ne ↦ ne (have.apart l.head r.head x l.pages (r.head ∷ r.old)
            (sym (given_elsewhere chains r.head (r.head ∷ r.fresh) l.head ne) ∙ l.chain) was l.among
            (among_later x r.head r.old among))
      ]

  -- no old place is one that is held for later
  old_not_held : (x : ℕ) → is_among x r.old ≡ true → is_among x later ≡ true → ⊥
  old_not_held x among held = u.apart x (among_right x (taken_by r) later held) (old_linked x among)

  -- nor is one of the chain written now
  later_apart : AreDistinct (taken_by r ++ later) → (x : ℕ) → is_among x later ≡ true → IsLinked now x → ⊥
  later_apart differ x held l = elim (was_linked x l) [
    | inl was ↦ u.apart x (among_right x (taken_by r) later held) was
    | inr f ↦ distinct_apart (taken_by r) later differ x f held
  ]

  pub used_committed : AreDistinct (taken_by r ++ later) → UsedPages s.md_len bits now (r.old ++ later)
  used_committed differ = record {
    count = u.count;
    linked = λ x l. elim (was_linked x l) [
      | inl was ↦ u.linked x was
      | inr f ↦ u.held_too x (among_left x (taken_by r) later f)
    ];
    held_too = λ x among. elim (among_split x r.old later among) [
      | inl o ↦ u.linked x (old_linked x o)
      | inr held ↦ u.held_too x (among_right x (taken_by r) later held)
    ];
    no_other = λ x is. elim (u.no_other x is) [
      | inl l ↦ elim (still_linked x l) [ inl still ↦ inl still | inr o ↦ inr (among_left x r.old later o) ]
      | inr held ↦ elim (among_split x (taken_by r) later held) [
        | inl f ↦ inl (linked_new x (taken_new x f))
        | inr l ↦ inr (among_right x r.old later l)
      ]
    ];
    apart = λ x among l. elim (among_split x r.old later among) [
      | inl o ↦ old_apart x o l
      | inr held ↦ later_apart differ x held l
    ];
  }

  -- what is held then differs still
  pub old_distinct : AreDistinct (taken_by r ++ later) → AreDistinct (r.old ++ later)
  old_distinct differ = distinct_both r.old later (elim (cases_Bool r.makes) [
    | inl makes ↦ subst AreDistinct (sym (unerased makes)) tt
    | inr not ↦ (have.differ r.head (r.head ∷ r.old) (there not)).1
  ]) (distinct_right (taken_by r) later differ) old_not_held

  -- no other blob's chain has a place of the new one
  fresh_apart : (h x : ℕ) (pages : List ℕ) → h ≢ r.head → chains h ≡ Some pages → is_among x pages ≡ true
      → is_among x (r.head ∷ r.fresh) ≡ true → ⊥
  fresh_apart h x pages ne chain among here =
      let l : IsLinked chains x = record { head = h; pages = pages; chain = chain; among = among } in
      elim (among_either x r.head r.fresh here) [
        | inl first ↦ elim (cases_Bool r.makes) [
          | inl makes ↦ taken_apart x (ap (λ y. is_among y (taken_by r)) first ∙ head_taken makes) l
          | inr not ↦ ne (have.apart h r.head x pages (r.head ∷ r.old) chain (there not) among
              (subst (λ y. is_among y (r.head ∷ r.old) ≡ true) (sym first) (among_first r.head r.old)))
        ]
        | inr f ↦ taken_apart x (among_taken r x f) l
      ]

  pub head_apart : (h : ℕ) (pages : List ℕ) → h ≢ r.head → chains h ≡ Some pages → is_among r.head pages ≡ false
  head_apart h pages ne chain = false_from_ne_true _
      (λ among. fresh_apart h r.head pages ne chain among (among_first r.head r.fresh))

  -- no place stands twice in the new chain
  new_distinct : AreDistinct (taken_by r) → AreDistinct (r.head ∷ r.fresh)
  new_distinct differ = elim (cases_Bool r.makes) [
    | inl makes ↦ subst (λ b. AreDistinct (if b then r.head ∷ r.fresh else r.fresh)) makes differ
    | inr not ↦ (
      false_from_ne_true _ (λ among. taken_apart r.head (among_taken r r.head among) (linked_head not)),
      subst (λ b. AreDistinct (if b then r.head ∷ r.fresh else r.fresh)) not differ,
    )
  ]

  pub chains_committed : (new : Meta) → AreDistinct (taken_by r) → AllBelow s.md_len (r.head ∷ r.fresh)
      → HaveChains s (with_entry metas r.head new) now
  chains_committed new distinct low =
      let was : (h : ℕ) → h ≢ r.head → now h ≡ chains h =
      λ h ne. given_elsewhere chains r.head (r.head ∷ r.fresh) h ne in
      record {
        chain = λ h m is. elim (cases_eq h r.head) [
          | inl e ↦ (r.fresh, given_here chains r.head (r.head ∷ r.fresh) h e ∙ ap (λ k. Some (k ∷ r.fresh)) (sym e))
          | inr ne ↦
              let c = have.chain h m (sym (given_elsewhere metas r.head new h ne) ∙ is) in (c.0, was h ne ∙ c.1)
        ];
        none = λ h is. elim (cases_eq h r.head) [
          | inl e ↦ absurd (let both = sym (given_here metas r.head new h e) ∙ is in cc both)
          | inr ne ↦ was h ne ∙ have.none h (sym (given_elsewhere metas r.head new h ne) ∙ is)
        ];
        low = λ h x pages chain among. elim (cases_eq h r.head) [
          | inl e ↦ low x (subst (λ ps. is_among x ps ≡ true) (pages_here h pages e chain) among)
          | inr ne ↦ have.low h x pages (sym (was h ne) ∙ chain) among
        ];
        apart = λ h k x ps qs hp kq hx kx. elim (cases_eq h r.head) [
          | inl e ↦ elim (cases_eq k r.head) [
            | inl f ↦ e ∙ sym f
            | inr nf ↦ absurd (fresh_apart k x qs nf (sym (was k nf) ∙ kq) kx
                (subst (λ l. is_among x l ≡ true) (pages_here h ps e hp) hx))
          ]
          | inr ne ↦ elim (cases_eq k r.head) [
            | inl f ↦ absurd (fresh_apart h x ps ne (sym (was h ne) ∙ hp) hx
                (subst (λ l. is_among x l ≡ true) (pages_here k qs f kq) kx))
            | inr nf ↦ have.apart h k x ps qs (sym (was h ne) ∙ hp) (sym (was k nf) ∙ kq) hx kx
          ]
        ];
        differ = λ h pages chain. elim (cases_eq h r.head) [
          | inl e ↦ subst AreDistinct (sym (pages_here h pages e chain)) (new_distinct distinct)
          | inr ne ↦ have.differ h pages (sym (was h ne) ∙ chain)
        ];
      }
