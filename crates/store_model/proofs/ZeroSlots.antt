-- Metadata with claimed clusters in empty slots.
use Rattle.std.proofs.Common.{◌≡◌, ◌≢◌, ◌⊎◌, ℕ, ◌<◌, true, false, List, [], ◌∷◌, length, Option, Some, None}
use Rattle.std.proofs.Common.{refl, sym, ap, ◌∙◌, subst, inl, inr, arith}
use Rattle.std.specs.Prelude.{IsSome}
use Rattle.std.specs.Option.{option_and_then}
use Rattle.std.proofs.lemmas.Bool.{both_ways, cases_eq}
use Rattle.std.proofs.lemmas.List.{length-set}
use Rattle.blob_meta.specs.declared.meta.Meta.{Meta}
use Rattle.blob_meta.specs.Parents.{slot}
use Rattle.md_chain.specs.Chain.{is_among}
use Rattle.store_model.specs.Inserting.{with_slot}
use Rattle.store_model.specs.Jobs.{with_clusters}
use Rattle.store_model.specs.Places.{AreDistinct}
use Rattle.store_model.proofs.Inserted.{get_set_here}
use Rattle.shown_volumes.proofs.Ranges.{get_set_other}
use Rattle.store_model.proofs.Sets.{among_either, among_first, among_later, not_first}

-- ---- one slot

set_here : (m : Meta) (p c : ℕ) → p < length m.map → slot (with_slot m p c) p ≡ Some c
set_here m p c lt =
    ap (λ (o : Option (Option ℕ)). option_and_then (λ x. x) o) (get_set_here m.map p (Some c) lt)

set_other : (m : Meta) (p c i : ℕ) → i ≢ p → slot (with_slot m p c) i ≡ slot m i
set_other m p c i ne =
    ap (λ (o : Option (Option ℕ)). option_and_then (λ x. x) o) (get_set_other m.map p i (Some c) ne)

-- ---- all of them

-- these slots are there, and empty
abbrev pub AreEmpty : Meta → List ℕ → Type 0
AreEmpty m slots = (i : ℕ) → is_among i slots ≡ true → (i < length m.map) × (slot m i ≡ None)

-- none of these clusters is in a slot
abbrev pub HasNone : Meta → List ℕ → Type 0
HasNone m claimed = (i c : ℕ) → is_among c claimed ≡ true → slot m i ≡ Some c → ⊥

-- an empty slot has one of the clusters
pub record IsZeroedAt (m later : Meta) (claimed : List ℕ) (i : ℕ) : Type 0 where
  pub cluster : ℕ
  pub at : slot later i ≡ Some cluster
  pub among : is_among cluster claimed ≡ true
  pub empty : slot m i ≡ None

empty_behind : (m : Meta) (p : ℕ) (ps : List ℕ) (c : ℕ) → is_among p ps ≡ false → AreEmpty m (p ∷ ps)
    → AreEmpty (with_slot m p c) ps
empty_behind m p ps c out empty i among =
    let was = empty i (among_later i p ps among) in
    let ne : i ≢ p = λ e. both_ways (is_among p ps) out (subst (λ n. is_among n ps ≡ true) e among) in (
      subst (λ n. i < n) (sym (length-set m.map p (Some c))) was.0,
      set_other m p c i ne ∙ was.1,
    )

-- each slot is as it was, or has one of them
pub each_slot : (m : Meta) (slots claimed : List ℕ) → AreDistinct slots → AreEmpty m slots → (i : ℕ)
    → (slot (with_clusters m slots claimed) i ≡ slot m i)
    ⊎ IsZeroedAt m (with_clusters m slots claimed) claimed i
each_slot m [] claimed distinct empty i = inl refl
each_slot m (p ∷ ps) [] distinct empty i = inl refl
each_slot m (p ∷ ps) (c ∷ cs) distinct empty i =
    elim (each_slot (with_slot m p c) ps cs distinct.1 (empty_behind m p ps c distinct.0 empty) i) [
      | inl same ↦ elim (cases_eq i p) [
        | inl e ↦
            let here = empty p (among_first p ps) in
            inr (record {
              cluster = c;
              at = same ∙ ap (slot (with_slot m p c)) e ∙ set_here m p c here.0;
              among = among_first c cs;
              empty = ap (slot m) e ∙ here.1;
            })
        | inr ne ↦ inl (same ∙ set_other m p c i ne)
      ]
      | inr x ↦ inr (record {
        cluster = x.cluster;
        at = x.at;
        among = among_later x.cluster c cs x.among;
        empty = elim (cases_eq i p) [
          | inl e ↦ ap (slot m) e ∙ (empty p (among_first p ps)).1
          | inr ne ↦ sym (set_other m p c i ne) ∙ x.empty
        ];
      })
    ]

-- a cluster that is put into a slot is there
there_still : (m : Meta) (p c : ℕ) (ps cs : List ℕ) → AreDistinct (p ∷ ps) → AreEmpty m (p ∷ ps)
    → slot (with_clusters (with_slot m p c) ps cs) p ≡ Some c
there_still m p c ps cs distinct empty =
    let here = set_here m p c (empty p (among_first p ps)).0 in
    elim (each_slot (with_slot m p c) ps cs distinct.1 (empty_behind m p ps c distinct.0 empty) p) [
      | inl same ↦ same ∙ here
      | inr x ↦ absurd (let bad = sym here ∙ x.empty in cc bad)
    ]

none_behind : (m : Meta) (p c : ℕ) (cs : List ℕ) → p < length m.map → is_among c cs ≡ false → HasNone m (c ∷ cs)
    → HasNone (with_slot m p c) cs
none_behind m p c cs low out none i x among at = elim (cases_eq i p) [
  | inl e ↦
      let same : c ≡ x = let both = sym (set_here m p c low) ∙ sym (ap (slot (with_slot m p c)) e) ∙ at in cc both in
      both_ways (is_among c cs) out (subst (λ n. is_among n cs ≡ true) (sym same) among)
  | inr ne ↦ none i x (among_later x c cs among) (sym (set_other m p c i ne) ∙ at)
]

-- each cluster is in one slot at most
pub one_slot : (m : Meta) (slots claimed : List ℕ) → AreDistinct slots → AreEmpty m slots → AreDistinct claimed
    → HasNone m claimed → (i j c : ℕ) → is_among c claimed ≡ true
    → slot (with_clusters m slots claimed) i ≡ Some c → slot (with_clusters m slots claimed) j ≡ Some c → i ≡ j
one_slot m [] claimed distinct empty once none i j c among a b = absurd (none i c among a)
one_slot m (p ∷ ps) [] distinct empty once none i j c among a b = absurd (none i c among a)
one_slot m (p ∷ ps) (x ∷ cs) distinct empty once none i j c among a b = elim (among_either c x cs among) [
  | inl e ↦ at_first i (a ∙ ap Some e) ∙ sym (at_first j (b ∙ ap Some e))
  | inr later ↦ one_slot (with_slot m p x) ps cs distinct.1 (empty_behind m p ps x distinct.0 empty) once.1
      (none_behind m p x cs (empty p (among_first p ps)).0 once.0 none) i j c later a b
]
  where
    at_first : (k : ℕ) → slot (with_clusters (with_slot m p x) ps cs) k ≡ Some x → k ≡ p
    at_first k at = elim (each_slot (with_slot m p x) ps cs distinct.1 (empty_behind m p ps x distinct.0 empty) k) [
      | inl same ↦ elim (cases_eq k p) [
        | inl e ↦ e
        | inr ne ↦ absurd (none k x (among_first x cs) (sym (set_other m p x k ne) ∙ sym same ∙ at))
      ]
      | inr y ↦
          let e : y.cluster ≡ x = let both = sym y.at ∙ at in cc both in
          absurd (both_ways (is_among x cs) once.0 (subst (λ n. is_among n cs ≡ true) e y.among))
    ]

-- a slot that gets none is as it was
pub other_slot : (m : Meta) (slots claimed : List ℕ) (i : ℕ) → is_among i slots ≡ false
    → slot (with_clusters m slots claimed) i ≡ slot m i
other_slot m [] claimed i out = refl
other_slot m (p ∷ ps) [] i out = refl
other_slot m (p ∷ ps) (c ∷ cs) i out =
    let apart = not_first i p ps out in
    other_slot (with_slot m p c) ps cs i apart.1 ∙ set_other m p c i apart.0

-- a slot that gets one is filled
pub filled_slot : (m : Meta) (slots claimed : List ℕ) → AreDistinct slots → AreEmpty m slots
    → length claimed ≡ length slots → (i : ℕ) → is_among i slots ≡ true
    → IsSome (slot (with_clusters m slots claimed) i)
filled_slot m [] claimed distinct empty long i among = absurd (cc among)
filled_slot m (p ∷ ps) [] distinct empty long i among = absurd (omega (arith, long))
filled_slot m (p ∷ ps) (c ∷ cs) distinct empty long i among = elim (among_either i p ps among) [
  | inl e ↦ subst (λ n. IsSome (slot (with_clusters (with_slot m p c) ps cs) n)) (sym e)
      (subst (λ (o : Option ℕ). IsSome o) (sym (there_still m p c ps cs distinct empty)) refl)
  | inr later ↦ filled_slot (with_slot m p c) ps cs distinct.1 (empty_behind m p ps c distinct.0 empty)
      (omega (arith, long)) i later
]

-- a slot with this cluster
pub record IsInMap (m : Meta) (cluster : ℕ) : Type 0 where
  pub place : ℕ
  pub at : slot m place ≡ Some cluster

-- and each cluster is in one
pub each_claimed : (m : Meta) (slots claimed : List ℕ) → AreDistinct slots → AreEmpty m slots
    → length claimed ≡ length slots → (c : ℕ) → is_among c claimed ≡ true
    → IsInMap (with_clusters m slots claimed) c
each_claimed m [] [] distinct empty long c among = absurd (cc among)
each_claimed m [] (x ∷ cs) distinct empty long c among = absurd (omega (arith, long))
each_claimed m (p ∷ ps) [] distinct empty long c among = absurd (cc among)
each_claimed m (p ∷ ps) (x ∷ cs) distinct empty long c among = elim (among_either c x cs among) [
  | inl e ↦ record { place = p; at = there_still m p x ps cs distinct empty ∙ ap Some (sym e) }
  | inr later ↦ each_claimed (with_slot m p x) ps cs distinct.1 (empty_behind m p ps x distinct.0 empty)
      (omega (arith, long)) c later
]

-- ---- the rest of it stays

pub zeroed_long : (m : Meta) (slots claimed : List ℕ)
    → length (with_clusters m slots claimed).map ≡ length m.map
zeroed_long m [] claimed = refl
zeroed_long m (p ∷ ps) [] = refl
zeroed_long m (p ∷ ps) (c ∷ cs) = zeroed_long (with_slot m p c) ps cs ∙ length-set m.map p (Some c)

pub zeroed_rest : (m : Meta) (slots claimed : List ℕ)
    → with_clusters m slots claimed ≡ record m { map = (with_clusters m slots claimed).map }
zeroed_rest m [] claimed = refl
zeroed_rest m (p ∷ ps) [] = refl
zeroed_rest m (p ∷ ps) (c ∷ cs) = zeroed_rest (with_slot m p c) ps cs
