-- Metadata after some of its repairs, and after all of them.
use Rattle.std.proofs.Common.{◌≡◌, ℕ, ◌<◌, ◌==◌, ◌||◌, Bool, true, false, Option, Some, None, List, [], ◌∷◌}
use Rattle.std.proofs.Common.{◌++◌, refl, sym, ap, ◌∙◌, inl, inr}
use Rattle.std.specs.Prelude.{◌+◌, get_or, length, map, take, is_some, if◌then◌else◌, not}
use Rattle.std.specs.Option.{option_map_or}
use Rattle.std.proofs.lemmas.Bool.{cases_Bool, eqb-true, false≢true}
use Rattle.std.proofs.lemmas.List.{take-map, take_more}
use Rattle.std.proofs.lemmas.List.Folds.{list_any-append}
use Rattle.blob_meta.specs.declared.meta.Meta.{Meta}
use Rattle.blob_meta.specs.declared.job.Replacement.{Replacement}
use Rattle.blob_meta.specs.Resolving.{mark_of, resolved}
use Rattle.blob_meta.specs.Repairs.{after, keeps, has_kept_mark, is_removed, HasNoMarks, heads_where}
use Rattle.blob_meta.specs.Repairs.{repair_at, repairs}
use Rattle.blob_meta.specs.Repairs.{HasHeadsBelow, with_replacement}
use Rattle.blob_meta.proofs.Fates.{IsMarked, Fate, fate}
use Rattle.blob_meta.proofs.HeadsListed.{among, among_passing, among_failing, first_before, where_none}
use Rattle.blob_meta.proofs.Midway.{IsMidway, midway_same}

or_true : (b : Bool) → (b || true) ≡ true
or_true true = refl
or_true false = refl

-- after replacements that give each of these heads what `new` says there
pub after_each : (new : ℕ → Option Meta) (hs : List ℕ) (metas : ℕ → Option Meta) (h : ℕ)
    → after metas (map (λ x. record { head = x; new = new x }) hs) h ≡ (if among h hs then new h else metas h)
after_each new [] metas h = refl
after_each new (x ∷ hs) metas h = after_each new hs (with_replacement metas (record { head = x; new = new x })) h
    ∙ elim (cases_Bool (h == x)) [
      | inl same ↦ rw same (at (among h hs) (ap new (sym (eqb-true h x same))))
      | inr differs ↦ rw differs refl
    ]
  where
    at : (b : Bool) → new x ≡ new h → (if b then new h else new x) ≡ new h
    at true e = refl
    at false e = e

-- one replacement more at the end
after_append : (list : List Replacement) (x : Replacement) (metas : ℕ → Option Meta) (h : ℕ)
    → after metas (list ++ x ∷ []) h ≡ with_replacement (after metas list) x h
after_append [] x metas h = refl
after_append (y ∷ list) x metas h = after_append list x (with_replacement metas y) h

-- for a loop that makes them one after another
pub after_more : (metas : ℕ → Option Meta) (list : List Replacement) (i : ℕ) (x : Replacement) (h : ℕ)
    → i < length list → x ≡ get_or list i x → (o : Option Meta) → o ≡ after metas (take i list) h
    → (if h == x.head then x.new else o) ≡ after metas (take (i + 1) list) h
after_more metas list i x h within is o before =
    ap (λ (b : Option Meta). if h == x.head then x.new else b) before
    ∙ sym (after_append (take i list) x metas h)
    ∙ ap (λ (y : Replacement). after metas (take i list ++ y ∷ []) h) is
    ∙ ap (λ (l : List Replacement). after metas l h) (sym (take_more list i x within))

module _ (md_len : ℕ) (metas : ℕ → Option Meta) where
  abbrev kept : List ℕ
  kept = heads_where md_len (has_kept_mark metas)

  abbrev erased : List ℕ
  erased = heads_where md_len (is_removed metas)

  -- the heads of the first repairs
  abbrev done : ℕ → List ℕ
  done count = take count (kept ++ erased)

  abbrev now : ℕ → ℕ → Option Meta
  now count = after metas (take count (repairs md_len metas))

  now_at : (count h : ℕ) → now count h ≡ (if among h (done count) then resolved metas h else metas h)
  now_at count h =
      ap (λ (l : List Replacement). after metas l h) (take-map (repair_at metas) count (kept ++ erased))
      ∙ after_each (resolved metas) (done count) metas h

  now_done : (count h : ℕ) (b : Bool) → among h (done count) ≡ b
      → now count h ≡ (if b then resolved metas h else metas h)
  now_done count h b is = now_at count h ∙ ap (λ (t : Bool). if t then resolved metas h else metas h) is

  kept_test : (h : ℕ) (b : Bool) → IsMarked metas h b → has_kept_mark metas h ≡ b
  kept_test h b x = ap (λ o. option_map_or (λ (k : Bool). k) o false) x.keeps_is

  module _ (below : HasHeadsBelow md_len metas) where
    in_store : (h : ℕ) (b : Bool) → IsMarked metas h b → h < md_len
    in_store h b x = below h (ap is_some x.there)

    among_kept : (h : ℕ) → IsMarked metas h true → among h kept ≡ true
    among_kept h x = among_passing md_len (has_kept_mark metas) h (kept_test h true x) (in_store h true x)

    among_erased : (h : ℕ) → IsMarked metas h false → among h erased ≡ true
    among_erased h x = among_passing md_len (is_removed metas) h
        (ap (λ o. option_map_or not o false) x.keeps_is) (in_store h false x)

    midway : (count : ℕ) → IsMidway metas (now count)
    midway count = record {
      each = λ h. elim (cases_Bool (among h (done count))) [
        | inl is ↦ inr (now_done count h true is)
        | inr isnt ↦ inl (now_done count h false isnt)
      ];
      order = λ c removed gone h x. elim (cases_Bool (among c (done count))) [
        | inl is ↦ now_done count h true (first_before kept erased count c h
            (among_failing md_len (has_kept_mark metas) c (kept_test c false removed)) is (among_kept h x))
        | inr isnt ↦
            let still : Some removed.blob ≡ None = sym removed.there ∙ sym (now_done count c false isnt) ∙ gone in
            absurd (cc (still))
      ];
    }

    -- whatever number of the repairs are made, resolving gives the same
    pub repaired_resolves : (count h : ℕ)
        → resolved (after metas (take count (repairs md_len metas))) h ≡ resolved metas h
    repaired_resolves count h = midway_same metas (now count) (midway count) h

    -- all of them give what is resolved, also where blobs that are marked have been replaced or erased before
    pub repaired_from : (start : ℕ → Option Meta) → ((k : ℕ) → keeps metas k ≡ None → start k ≡ metas k) → (h : ℕ)
        → after start (repairs md_len metas) h ≡ resolved metas h
    repaired_from start unmarked_same h = after_each (resolved metas) (kept ++ erased) start h ∙ by (fate metas h)
      where
        either : (b : Bool) → start h ≡ resolved metas h → (if b then resolved metas h else start h) ≡ resolved metas h
        either true e = refl
        either false e = e

        there : among h (kept ++ erased) ≡ true
            → (if among h (kept ++ erased) then resolved metas h else start h) ≡ resolved metas h
        there is = ap (λ (t : Bool). if t then resolved metas h else start h) is

        by : Fate metas h → (if among h (kept ++ erased) then resolved metas h else start h) ≡ resolved metas h
        by (inl x) = either (among h (kept ++ erased)) (unmarked_same h x.keeps_is ∙ x.there ∙ sym x.gives)
        by (inr (inl x)) = either (among h (kept ++ erased)) (unmarked_same h x.keeps_is ∙ x.there ∙ sym x.gives)
        by (inr (inr (inl x))) = there (list_any-append (λ y. h == y) kept erased
            ∙ ap (λ (t : Bool). t || among h erased) (among_kept h x))
        by (inr (inr (inr x))) = there (list_any-append (λ y. h == y) kept erased
            ∙ ap (λ (t : Bool). among h kept || t) (among_erased h x) ∙ or_true (among h kept))

    pub all_repaired : (h : ℕ) → after metas (repairs md_len metas) h ≡ resolved metas h
    all_repaired h = repaired_from metas (λ k none. refl) h

    -- where there are none, no blob has a mark
    pub none_marked : repairs md_len metas ≡ [] → HasNoMarks metas
    none_marked none h m there = by (fate metas h)
      where
        no_heads : (hs : List ℕ) → map (repair_at metas) hs ≡ [] → hs ≡ []
        no_heads [] e = refl
        no_heads (x ∷ xs) e = absurd (cc (e))

        never : (b : Bool) → IsMarked metas h b → among h (kept ++ erased) ≡ true → mark_of m ≡ None
        never b x is = absurd (false≢true (sym (ap (among h) (no_heads (kept ++ erased) none)) ∙ is))

        by : Fate metas h → mark_of m ≡ None
        by (inl x) = absurd (cc (there, x.there))
        by (inr (inl x)) = let one : m ≡ x.blob = cc (there, x.there) in ap mark_of one ∙ x.unmarked
        by (inr (inr (inl x))) = never true x (list_any-append (λ y. h == y) kept erased
            ∙ ap (λ (t : Bool). t || among h erased) (among_kept h x))
        by (inr (inr (inr x))) = never false x (list_any-append (λ y. h == y) kept erased
            ∙ ap (λ (t : Bool). among h kept || t) (among_erased h x) ∙ or_true (among h kept))

module _ (metas : ℕ → Option Meta) (bare : HasNoMarks metas) where
  none_kept : (h : ℕ) → keeps metas h ≡ None
  none_kept h = by (fate metas h)
    where
      marked : (b : Bool) → IsMarked metas h b → keeps metas h ≡ None
      marked b x = let unmarked = bare h x.blob x.there in absurd (cc (unmarked, x.marked))

      by : Fate metas h → keeps metas h ≡ None
      by (inl x) = x.keeps_is
      by (inr (inl x)) = x.keeps_is
      by (inr (inr (inl x))) = marked true x
      by (inr (inr (inr x))) = marked false x

  -- where no blob has a mark there is nothing to repair,
  pub no_repairs : (md_len : ℕ) → repairs md_len metas ≡ []
  no_repairs md_len =
      ap (λ hs. map (repair_at metas) (hs ++ heads_where md_len (is_removed metas)))
      (where_none (has_kept_mark metas) md_len (λ h. ap (λ o. option_map_or (λ (k : Bool). k) o false) (none_kept h)))
      ∙ ap (map (repair_at metas))
      (where_none (is_removed metas) md_len (λ h. ap (λ o. option_map_or not o false) (none_kept h)))

  -- and the metadata is resolved as it is
  pub resolved_same : (h : ℕ) → resolved metas h ≡ metas h
  resolved_same h = by (fate metas h)
    where
      marked : (b : Bool) → IsMarked metas h b → resolved metas h ≡ metas h
      marked b x = let unmarked = bare h x.blob x.there in absurd (cc (unmarked, x.marked))

      by : Fate metas h → resolved metas h ≡ metas h
      by (inl x) = x.gives ∙ sym x.there
      by (inr (inl x)) = x.gives ∙ sym x.there
      by (inr (inr (inl x))) = marked true x
      by (inr (inr (inr x))) = marked false x
