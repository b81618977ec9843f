-- What stands at each head after one of them is set.
use Rattle.std.proofs.Common.{◌≡◌, ◌≢◌, inl, inr, ℕ, zero, suc, ◌<◌, ◌≤◌, ◌==◌, if◌then◌else◌, Option, Some, None}
use Rattle.std.proofs.Common.{IsSome, List, [], ◌∷◌, ◌++◌, length, map, refl, sym, ap, subst, ◌∙◌, arith, length-set}
use Rattle.std.proofs.Math.ListN.{set}
use Rattle.std.specs.List.{slice_get}
use Rattle.std.specs.Option.{option_map, option_and_then}
use Rattle.std.proofs.lemmas.Bool.Decides.{eqb_tells}
use Rattle.std.proofs.lemmas.List.{map-set, map-append, length-map}
use Rattle.std.proofs.lemmas.Bool.{cases_lt, false≢true}
use Rattle.std.proofs.lemmas.Option.{slice_get_past}
use Rattle.volume_model.specs.Volumes.{Volume, Fixed}
use Rattle.volume_model.specs.Machine.{Machine, volumes_in, PutsVolume}
use Rattle.volume_model.specs.Plain.{volume_in_row, adopted, adopted_row}
use Rattle.volume_model.specs.declared.machine.rows.Volume as row

abbrev pub flat : {A : Type 0} → Option (Option A) → Option A
flat o = option_and_then (λ x. x) o

get_set_same : {A : Type 0} (xs : List A) (h : ℕ) (x : A) → h < length xs → slice_get (set xs h x) h ≡ Some x
get_set_same [] h x lt = absurd (omega (arith, lt))
get_set_same (y ∷ ys) zero x lt = refl
get_set_same (y ∷ ys) (suc h) x lt = get_set_same ys h x (omega (arith, lt))

get_set_other : {A : Type 0} (xs : List A) (h k : ℕ) (x : A) → k ≢ h → slice_get (set xs h x) k ≡ slice_get xs k
get_set_other [] h k x ne = refl
get_set_other (y ∷ ys) zero zero x ne = absurd (ne refl)
get_set_other (y ∷ ys) zero (suc k) x ne = refl
get_set_other (y ∷ ys) (suc h) zero x ne = refl
get_set_other (y ∷ ys) (suc h) (suc k) x ne = get_set_other ys h k x (λ e. ne (ap suc e))

get_push_same : {A : Type 0} (xs : List A) (x : A) → slice_get (xs ++ x ∷ []) (length xs) ≡ Some x
get_push_same [] x = refl
get_push_same (y ∷ ys) x = get_push_same ys x

get_push_other : {A : Type 0} (xs : List A) (k : ℕ) (x : A) → k ≢ length xs
    → slice_get (xs ++ x ∷ []) k ≡ slice_get xs k
get_push_other [] zero x ne = absurd (ne refl)
get_push_other [] (suc k) x ne = refl
get_push_other (y ∷ ys) zero x ne = refl
get_push_other (y ∷ ys) (suc k) x ne = get_push_other ys k x (λ e. ne (ap suc e))

-- a row that is set, or a new one at the end
either : {A : Type 0} (xs ys : List (Option A)) (h : ℕ) (o : Option A) → slice_get ys h ≡ Some o
    → ((k : ℕ) → k ≢ h → slice_get ys k ≡ slice_get xs k)
    → (k : ℕ) → flat (slice_get ys k) ≡ (if k == h then o else flat (slice_get xs k))
either {A} xs ys h o same other k = elim (eqb_tells k h) [
  | inl here ↦ rw here.0 (rw here.1 (ap flat same))
  | inr apart ↦ rw apart.0 (ap flat (other k apart.1))
]

one_adopted : (h : ℕ) (parent : Option ℕ) (o : Option row.Volume)
    → option_map volume_in_row (option_map (adopted_row h parent) o)
    ≡ option_map (adopted h parent) (option_map volume_in_row o)
one_adopted h parent None = refl
one_adopted h parent (Some x) = refl

all_adopted : (h : ℕ) (parent : Option ℕ) (rows : List (Option row.Volume))
    → map (option_map volume_in_row) (map (option_map (adopted_row h parent)) rows)
    ≡ map (option_map (adopted h parent)) (map (option_map volume_in_row) rows)
all_adopted h parent [] = refl
all_adopted h parent (o ∷ rows) = ap (λ x. x ∷ map (option_map volume_in_row)
    (map (option_map (adopted_row h parent)) rows)) (one_adopted h parent o)
    ∙ ap (λ xs. option_map (adopted h parent) (option_map volume_in_row o) ∷ xs) (all_adopted h parent rows)

abbrev pub holding : Fixed → List (Option row.Volume) → Machine
holding fixed rows = record { fixed = fixed; rows = map (option_map volume_in_row) rows }

module _ (fixed : Fixed) (rows : List (Option row.Volume)) (m : Machine) (is : holding fixed rows ≡ m) where
  -- for `put` and `take`: a row that is set puts its volume there
  pub set_rows : (h : ℕ) (o : Option row.Volume) → h < length m.rows
      → PutsVolume m h (option_map volume_in_row o) (holding fixed (set rows h o))
  set_rows h o lt =
      let mapped : List (Option Volume) = map (option_map volume_in_row) rows in
      let within : h < length mapped = subst (λ (x : Machine). h < length x.rows) (sym is) lt in
      let done = either mapped (set mapped h (option_map volume_in_row o)) h (option_map volume_in_row o)
      (get_set_same mapped h _ within) (λ k ne. get_set_other mapped h k _ ne) in
      let P : Machine → Type 0 = λ x. PutsVolume x h (option_map volume_in_row o) (holding fixed (set rows h o)) in
      subst P is (record { fixed = refl; after = λ k. rw map-set (done k) })

  -- a row that is set is still there
  pub set_length : (h : ℕ) (o : Option row.Volume) → h < length m.rows
      → h < length (map (option_map volume_in_row) (set rows h o))
  set_length h o lt =
      let within : h < length (map (option_map volume_in_row) rows) =
      subst (λ (x : Machine). h < length x.rows) (sym is) lt in
      rw (length-map, length-set) (rw length-map at within)

  -- a head in use stands in the list
  pub in_use : (h : ℕ) → IsSome (volumes_in m h) → h < length m.rows
  in_use h some = elim (cases_lt h (length m.rows)) [
    | inl lt ↦ lt
    | inr le ↦ absurd (false≢true (rw (slice_get_past m.rows h le) at some))
  ]

  -- for `add`: a row that is pushed puts its volume there
  pub push_rows : (h : ℕ) (x : row.Volume) → h ≤ length m.rows → length rows ≤ h
      → PutsVolume m h (Some (volume_in_row x)) (holding fixed (rows ++ Some x ∷ []))
  push_rows h x near past =
      let mapped : List (Option Volume) = map (option_map volume_in_row) rows in
      let within : h ≤ length mapped = subst (λ (y : Machine). h ≤ length y.rows) (sym is) near in
      let at_end : h ≡ length mapped = omega (arith, length-map rows (option_map volume_in_row)) in
      let o : Option Volume = Some (volume_in_row x) in
      let same : slice_get (mapped ++ o ∷ []) h ≡ Some o = rw at_end (get_push_same mapped o) in
      let done = either mapped (mapped ++ o ∷ []) h o same
      (λ k ne. get_push_other mapped k o (λ e. ne (e ∙ sym at_end))) in
      let P : Machine → Type 0 = λ y. PutsVolume y h (Some (volume_in_row x)) (holding fixed (rows ++ Some x ∷ [])) in
      subst P is (record { fixed = refl; after = λ k. rw map-append (done k) })

  -- for `adopt`: rows with another parent are the volumes with another parent
  pub adopt_all : (h : ℕ) (parent : Option ℕ) → map (option_map volume_in_row)
      (map (option_map (adopted_row h parent)) rows) ≡ map (option_map (adopted h parent)) m.rows
  adopt_all h parent = all_adopted h parent rows ∙ ap (λ (x : Machine). map (option_map (adopted h parent)) x.rows) is
