-- A claim that can't be inserted is doomed.
use Rattle.std.proofs.Common.{◌≡◌, ℕ, suc, ◌<◌, Bool, true, false, List, [], ◌∷◌, length}
use Rattle.std.proofs.Common.{Option, Some, None, refl, ap, ◌∙◌, arith, zero}
use Rattle.std.specs.Prelude.{map, is_some, slice_get, ◌==◌, ◌&&◌, not}
use Rattle.std.specs.Option.{option_and_then, option_map}
use Rattle.std.proofs.lemmas.Bool.{eqb-true}
use Rattle.blob_meta.specs.declared.meta.Meta.{Meta}
use Rattle.store_model.specs.Claiming.{CanInsert}
use Rattle.store_model.specs.Rows.{OpenClaim}
use Rattle.store_model.specs.StoreState.{StoreState}
use Rattle.run_work.specs.Reading.{has_generation, is_empty, slot_at, slot_in}
use Rattle.run_work.specs.Work.{is_doomed}
use Rattle.run_moves.specs.Projection.{blob_in_run, blobs_in_run, claim_in_run}

-- an empty slot is there
slot_is_empty : (l : List (Option ℕ)) (i : ℕ) → is_empty (slot_at (map is_some l) i) ≡ true
    → (i < length l) × (option_and_then (λ s. s) (slice_get l i) ≡ None)
slot_is_empty [] i is = absurd (cc is)
slot_is_empty (None ∷ l) zero is = (omega arith, refl)
slot_is_empty (Some x ∷ l) zero is = absurd (cc is)
slot_is_empty (x ∷ l) (suc i) is = let r = slot_is_empty l i is in (omega (arith, r.0), r.1)

module _ (p : StoreState) (claim : OpenClaim) (cannot : (m : Meta) → CanInsert p claim m → ⊥) where
  by_slot : (m : Meta) → p.base claim.head ≡ Some m → p.generations claim.head ≡ Some claim.generation → (b : Bool)
      → is_empty (slot_at (map is_some m.map) claim.slot) ≡ b → b ≡ false
  by_slot m there current true is =
      let r = slot_is_empty m.map claim.slot is in
      absurd (cannot m (record { there = there; current = current; within = r.0; empty = r.1 }))
  by_slot m there current false is = refl

  by_generation : (m : Meta) (n : ℕ) → p.base claim.head ≡ Some m → p.generations claim.head ≡ Some n → (b : Bool)
      → (n == claim.generation) ≡ b → not (b && is_empty (slot_at (map is_some m.map) claim.slot)) ≡ true
  by_generation m n there drawn true is = ap not (by_slot m there
      (drawn ∙ ap (λ k. Some k) (eqb-true n claim.generation is)) _ refl)
  by_generation m n there drawn false is = refl

  by_blob : (o : Option Meta) (g : Option ℕ) → p.base claim.head ≡ o → p.generations claim.head ≡ g
      → not (has_generation (option_and_then (λ m. option_map (blob_in_run m) g) o) claim.generation
      && is_empty (slot_in (option_and_then (λ m. option_map (blob_in_run m) g) o) claim.slot)) ≡ true
  by_blob None g there drawn = refl
  by_blob (Some m) None there drawn = refl
  by_blob (Some m) (Some n) there drawn = by_generation m n there drawn _ refl

  -- its blob is gone or has another generation, or its slot is filled or gone
  pub doomed_claim : is_doomed (blobs_in_run p.base p.generations) (claim_in_run claim) ≡ true
  doomed_claim = by_blob (p.base claim.head) (p.generations claim.head) refl refl
