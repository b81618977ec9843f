-- The slots of a map over those of another; and which slots a page has.
use Rattle.std.proofs.Common.{◌≡◌, ℕ, ◌*◌, ◌/◌, ◌<◌, ◌≤◌, Option, Some, None, length, refl, sym, ap, ◌∙◌}
use Rattle.std.proofs.Common.{arith, mul_comm}
use Rattle.std.specs.Prelude.{slice_get}
use Rattle.std.specs.List.{range_with_len}
use Rattle.std.specs.Option.{option_and_then, option_map, option_or}
use Rattle.std.proofs.Math.Nat.{div-lt_iff_lt-mul, le-div_iff_mul-le}
use Rattle.std.proofs.lemmas.List.FromFn.{get_or-range_with_len, length-map-range_with_len, length-range_with_len}
use Rattle.std.proofs.lemmas.Option.{slice_get-get_or, slice_get-map, slice_get_past, slice_get_within}
use Rattle.blob_meta.specs.declared.meta.Meta.{Meta}
use Rattle.blob_meta.specs.Parents.{slot}
use Rattle.inflate_delete.specs.DeleteJobs.{slots_over}

module _ (m other : Meta) where
  abbrev either : ℕ → Option ℕ
  either i = option_or (slot m i) (slot other i)

  pub long_over : length (slots_over m other) ≡ length m.map
  long_over = length-map-range_with_len either 0 (length m.map)

  in_range : (i : ℕ) → i < length m.map → slice_get (range_with_len 0 (length m.map)) i ≡ Some i
  in_range i lt =
      let n = length-range_with_len 0 (length m.map) in
      slice_get-get_or (range_with_len 0 (length m.map)) i 0 (omega (arith, n, lt))
      ∙ ap (λ q. Some q) (get_or-range_with_len 0 (length m.map) i 0 lt ∙ omega arith)

  -- a slot is the blob's own, or where that is empty the other's
  pub slot_over : (i : ℕ) → i < length m.map
      → option_and_then (λ (s : Option ℕ). s) (slice_get (slots_over m other) i) ≡ either i
  slot_over i lt = ap (option_and_then (λ (s : Option ℕ). s))
      (slice_get-map either (range_with_len 0 (length m.map)) i ∙ ap (option_map either) (in_range i lt))

-- a slot that is filled is one of the map
pub filled_within : (m : Meta) (i cluster : ℕ) → slot m i ≡ Some cluster → i < length m.map
filled_within m i cluster is = at (slice_get m.map i) refl
  where
    at : (o : Option (Option ℕ)) → slice_get m.map i ≡ o → i < length m.map
    at None none = let bad : None ≡ Some cluster = sym (ap (option_and_then (λ (s : Option ℕ). s)) none) ∙ is in
        absurd (cc bad)
    at (Some s) some = slice_get_within m.map i s some

-- and none is behind it
pub empty_past : (m : Meta) (i : ℕ) → length m.map ≤ i → slot m i ≡ None
empty_past m i le = ap (option_and_then (λ (s : Option ℕ). s)) (slice_get_past m.map i le)

-- a page of so many slots is in one of them,
pub slot_below : (k n page : ℕ) → 0 < k → page < k * n → page / k < n
slot_below k n page some lt =
    let turned = mul_comm k n in
    (div-lt_iff_lt-mul {x = page} {y = n} some).1 (omega (arith, turned, lt))

-- and one behind them in none
pub slot_behind : (k n page : ℕ) → 0 < k → k * n ≤ page → n ≤ page / k
slot_behind k n page some le =
    let turned = mul_comm k n in
    (le-div_iff_mul-le {x = n} {y = page} some).1 (omega (arith, turned, le))
