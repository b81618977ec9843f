-- The clusters of maps where a blob gets metadata with claimed clusters in slots that are to read as zeros.
use Rattle.std.proofs.Common.{◌≡◌, ◌⊎◌, ℕ, true, List, [], Some, refl, sym, ◌∙◌, subst, inl, inr}
use Rattle.std.proofs.lemmas.Bool.{cases_eq}
use Rattle.super_block.specs.declared.page.Super.{Super}
use Rattle.blob_meta.specs.declared.meta.Meta.{Meta}
use Rattle.blob_meta.specs.Parents.{slot}
use Rattle.md_chain.specs.Chain.{is_among}
use Rattle.store_model.specs.Jobs.{MovesClusters}
use Rattle.store_model.specs.Maps.{Metas, with_entry}
use Rattle.store_model.specs.Places.{IsMapped}
use Rattle.store_model.proofs.WithEntry.{given_here, given_elsewhere}
use Rattle.store_model.proofs.ZeroSlots.{IsInMap, IsZeroedAt}
use Rattle.store_model.proofs.ZeroedBlob.{IsZeroed}

module _ (s : Super) (base : Metas) (head : ℕ) (new later : Meta) (freed claimed : List ℕ)
    (moves : MovesClusters s base (with_entry base head new) freed []) (is : IsZeroed new later claimed)
    (all : (c : ℕ) → is_among c claimed ≡ true → IsInMap later c)
    (unmapped : (c : ℕ) → is_among c claimed ≡ true → ¬ IsMapped base c) where
  -- a cluster of a slot was there before, or is claimed
  slot_was : (i c : ℕ) → slot later i ≡ Some c → (slot new i ≡ Some c) ⊎ (is_among c claimed ≡ true)
  slot_was i c at = by (is.each i)
    where
      by : (slot later i ≡ slot new i) ⊎ IsZeroedAt new later claimed i
          → (slot new i ≡ Some c) ⊎ (is_among c claimed ≡ true)
      by (inl same) = inl (sym same ∙ at)
      by (inr x) = let e : x.cluster ≡ c = let both = sym x.at ∙ at in cc both in
          inr (subst (λ n. is_among n claimed ≡ true) e x.among)

  slot_stays : (i c : ℕ) → slot new i ≡ Some c → slot later i ≡ Some c
  slot_stays i c at = by (is.each i)
    where
      by : (slot later i ≡ slot new i) ⊎ IsZeroedAt new later claimed i → slot later i ≡ Some c
      by (inl same) = same ∙ at
      by (inr x) = absurd (let bad = sym x.empty ∙ at in cc bad)

  -- what the maps have with the slots still empty
  mapped_was : (c : ℕ) → IsMapped (with_entry base head later) c
      → IsMapped (with_entry base head new) c ⊎ (is_among c claimed ≡ true)
  mapped_was c x = elim (cases_eq x.head head) [
    | inl e ↦
        let one : later ≡ x.meta = let both = sym (given_here base head later x.head e) ∙ x.there in cc both in
        here (slot_was x.place c (subst (λ (m : Meta). slot m x.place ≡ Some c) (sym one) x.in_slot))
    | inr ne ↦ inl (record {
      head = x.head;
      meta = x.meta;
      there = given_elsewhere base head new x.head ne ∙ sym (given_elsewhere base head later x.head ne) ∙ x.there;
      place = x.place;
      in_slot = x.in_slot;
    })
  ]
    where
      here : (slot new x.place ≡ Some c) ⊎ (is_among c claimed ≡ true)
          → IsMapped (with_entry base head new) c ⊎ (is_among c claimed ≡ true)
      here (inl at) = inl (record {
        head = head;
        meta = new;
        there = given_here base head new head refl;
        place = x.place;
        in_slot = at;
      })
      here (inr among) = inr among

  mapped_stays : (c : ℕ) → IsMapped (with_entry base head new) c → IsMapped (with_entry base head later) c
  mapped_stays c x = elim (cases_eq x.head head) [
    | inl e ↦
        let one : new ≡ x.meta = let both = sym (given_here base head new x.head e) ∙ x.there in cc both in record {
          head = head;
          meta = later;
          there = given_here base head later head refl;
          place = x.place;
          in_slot = slot_stays x.place c (subst (λ (m : Meta). slot m x.place ≡ Some c) (sym one) x.in_slot);
        }
    | inr ne ↦ record {
      head = x.head;
      meta = x.meta;
      there = given_elsewhere base head later x.head ne ∙ sym (given_elsewhere base head new x.head ne) ∙ x.there;
      place = x.place;
      in_slot = x.in_slot;
    }
  ]

  -- The claimed ones are in the map then, and all else moves as it did.
  pub filled_moves : MovesClusters s base (with_entry base head later) freed claimed
  filled_moves = record {
    kept = λ c x. kept c (moves.kept c x);
    let_go = λ c among. let x = moves.let_go c among in (x.0, x.1, λ y. gone c x.1 x.2 (mapped_was c y));
    gained = λ c y. gained c (mapped_was c y);
    filled = λ c among. let x = all c among in record {
      head = head;
      meta = later;
      there = given_here base head later head refl;
      place = x.place;
      in_slot = x.at;
    };
  }
    where
      kept : (c : ℕ) → IsMapped (with_entry base head new) c ⊎ (is_among c freed ≡ true)
          → IsMapped (with_entry base head later) c ⊎ (is_among c freed ≡ true)
      kept c (inl x) = inl (mapped_stays c x)
      kept c (inr among) = inr among

      gone : (c : ℕ) → IsMapped base c → ¬ IsMapped (with_entry base head new) c
          → IsMapped (with_entry base head new) c ⊎ (is_among c claimed ≡ true) → ⊥
      gone c was none (inl x) = none x
      gone c was none (inr among) = unmapped c among was

      gained : (c : ℕ) → IsMapped (with_entry base head new) c ⊎ (is_among c claimed ≡ true)
          → IsMapped base c ⊎ (is_among c claimed ≡ true)
      gained c (inl x) = by (moves.gained c x)
        where
          by : IsMapped base c ⊎ (is_among c [] ≡ true) → IsMapped base c ⊎ (is_among c claimed ≡ true)
          by (inl was) = inl was
          by (inr bad) = absurd (cc bad)
      gained c (inr among) = inr among
