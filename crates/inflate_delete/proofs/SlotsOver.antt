-- The slots of a blob over those of another, slot by slot.
use Rattle.std.proofs.Common.{◌≡◌, ℕ, ◌+◌, Option, Some, None, List, [], ◌∷◌, ◌++◌, length, refl, sym, ap, ◌∙◌, arith}
use Rattle.std.specs.Option.{option_or}
use Rattle.std.proofs.lemmas.List.FromFn.{length-map-range_with_len, map-range_with_len_more}
use Rattle.descriptors.specs.Slots.{run_slots}
use Rattle.blob_meta.specs.declared.meta.Meta.{Meta}
use Rattle.blob_meta.specs.Parents.{slot}
use Rattle.inflate_delete.specs.DeleteJobs.{first_slots_over}

-- a run of one slot is that slot
pub run_of_one : (s : Option ℕ) → run_slots s 1 ≡ s ∷ []
run_of_one None = refl
run_of_one (Some c) = refl

module _ (m other : Meta) (i : ℕ) (old : List (Option ℕ)) (is : old ≡ first_slots_over m other i) where
  -- as many as are asked
  pub slots_counted : length old ≡ i
  slots_counted = ap length is ∙ length-map-range_with_len (λ k. option_or (slot m k) (slot other k)) 0 i

  -- one slot more
  pub slots_more : (s : Option ℕ) (new : List (Option ℕ)) → s ≡ option_or (slot m i) (slot other i)
      → new ≡ old ++ s ∷ [] → new ≡ first_slots_over m other (i + 1)
  slots_more s new s_is new_is =
      new_is ∙ ap (λ (x : Option ℕ). old ++ x ∷ []) s_is
      ∙ ap (λ (xs : List (Option ℕ)). xs ++ option_or (slot m i) (slot other i) ∷ []) is
      ∙ sym (map-range_with_len_more (λ k. option_or (slot m k) (slot other k)) 0 i i (omega arith))
