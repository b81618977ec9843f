-- The first cluster of a run, or of several, that a blob may not have.
use Rattle.std.proofs.Common.{◌≡◌, ◌≢◌, ℕ, zero, suc, ◌+◌, ◌<◌, ◌≤◌, true, false, eqb, List, [], ◌∷◌, ◌++◌, length}
use Rattle.std.proofs.Common.{drop, get_or, replicate, Option, Some, None, refl, sym, ap, ◌∙◌, arith, inl, inr}
use Rattle.std.specs.Prelude.{find, max}
use Rattle.std.proofs.lemmas.Bool.{cases_lt, ne_eqb}
use Rattle.std.proofs.lemmas.Bool.Decides.{nat_tests}
use Rattle.std.proofs.lemmas.List.Folds.{find-append}
use Rattle.std.proofs.Math.Seq.{drop-cons}
use Rattle.std.specs.Option.{option_or}
use Rattle.volume_model.specs.declared.lists.SlotRun.{SlotRun}
use Rattle.descriptors.specs.Slots.{run_slots, filled_slots}
use Rattle.descriptors.specs.Runs.{cluster_of, slots_of_run, slots_in}
use Rattle.blob_meta.specs.Faults.{is_outside, clusters_held}

abbrev pub first_outside : ℕ → ℕ → List (Option ℕ) → Option ℕ
first_outside fixed clusters map = find (is_outside fixed clusters) (clusters_held map)

-- ---- one run

no_clusters : (n : ℕ) → clusters_held (replicate n None) ≡ []
no_clusters zero = refl
no_clusters (suc n) = no_clusters n

module _ (fixed clusters : ℕ) where
  -- a run that begins below the fixed clusters' end has its first cluster outside
  pub low : (c n : ℕ) → c < fixed → first_outside fixed clusters (filled_slots c (suc n)) ≡ Some c
  low c n lt = let out : is_outside fixed clusters c ≡ true = grind (arith, nat_tests) in rw out refl

  -- a run between the fixed clusters and the last has none outside
  pub inside : (c n : ℕ) → fixed ≤ c → c + n ≤ clusters → first_outside fixed clusters (filled_slots c n) ≡ None
  inside c zero le fits = refl
  inside c (suc n) le fits =
      let in_store : is_outside fixed clusters c ≡ false = grind (arith, nat_tests) in
      rw in_store (inside (c + 1) n (omega arith) (omega arith))

  reaches : (c n : ℕ) → fixed ≤ c → c ≤ clusters → clusters < c + n
      → first_outside fixed clusters (filled_slots c n) ≡ Some clusters
  reaches c zero le low gt = absurd (omega arith)
  reaches c (suc n) le low gt = elim (cases_lt c clusters) [
    | inl lt ↦
        let in_store : is_outside fixed clusters c ≡ false = grind (arith, nat_tests) in
        rw in_store (reaches (c + 1) n (omega arith) (omega arith) (omega arith))
    | inr ge ↦ let out : is_outside fixed clusters c ≡ true = grind (arith, nat_tests) in
        rw out (ap (λ k. Some k) (omega arith))
  ]

  -- a run past the last cluster has the first one there outside
  pub past : (c n : ℕ) → n ≢ 0 → fixed ≤ c → clusters < c + n
      → first_outside fixed clusters (filled_slots c n) ≡ Some (max c clusters)
  past c zero ne le gt = absurd (omega arith)
  past c (suc n) ne le gt = elim (cases_lt clusters c) [
    | inl lt ↦ let out : is_outside fixed clusters c ≡ true = grind (arith, nat_tests) in
        rw out (ap (λ k. Some k) (omega arith))
    | inr ge ↦ reaches c (suc n) le ge gt ∙ ap (λ k. Some k) (omega arith)
  ]

  -- empty slots hold no cluster
  pub empty_run : (r : SlotRun) → r.cluster ≡ 0 → first_outside fixed clusters (slots_of_run r) ≡ None
  empty_run r z =
      let none : cluster_of r.cluster ≡ None = ap cluster_of z in
      ap (λ o. first_outside fixed clusters (run_slots o r.length)) none
      ∙ ap (find (is_outside fixed clusters)) (no_clusters r.length)

  -- a run of no length holds no cluster
  pub short_run : (r : SlotRun) → r.cluster ≢ 0 → r.length ≡ 0 → first_outside fixed clusters (slots_of_run r) ≡ None
  short_run r ne z = let e : eqb r.cluster 0 ≡ false = ne_eqb _ _ ne in rw (e, z) refl

  -- a run of clusters, whatever is said of them
  pub filled_run : (r : SlotRun) (o : Option ℕ) → r.cluster ≢ 0
      → first_outside fixed clusters (filled_slots r.cluster r.length) ≡ o
      → first_outside fixed clusters (slots_of_run r) ≡ o
  filled_run r o ne is = let e : eqb r.cluster 0 ≡ false = ne_eqb _ _ ne in rw e is

-- ---- several runs

-- the clusters of two maps, one after the other
pub clusters-append : (xs ys : List (Option ℕ)) → clusters_held (xs ++ ys) ≡ clusters_held xs ++ clusters_held ys
clusters-append [] ys = refl
clusters-append (None ∷ xs) ys = clusters-append xs ys
clusters-append (Some c ∷ xs) ys = ap (λ l. c ∷ l) (clusters-append xs ys)

module _ (fixed clusters : ℕ) where
  -- of several runs, the first one decides, and then the others
  pub next_run : (runs : List SlotRun) (i : ℕ) (d : SlotRun) → i < length runs
      → first_outside fixed clusters (slots_in (drop i runs))
      ≡ option_or (first_outside fixed clusters (slots_of_run (get_or runs i d)))
      (first_outside fixed clusters (slots_in (drop (i + 1) runs)))
  next_run runs i d lt =
      let one : i + 1 ≡ suc i = omega arith in
      let cut : drop i runs ≡ get_or runs i d ∷ drop (i + 1) runs =
      drop-cons runs i d lt ∙ ap (λ k. get_or runs i d ∷ drop k runs) (sym one) in
      let run = slots_of_run (get_or runs i d) in
      let rest = slots_in (drop (i + 1) runs) in
      ap (λ (l : List SlotRun). first_outside fixed clusters (slots_in l)) cut
      ∙ ap (find (is_outside fixed clusters)) (clusters-append run rest)
      ∙ find-append (is_outside fixed clusters) (clusters_held run) (clusters_held rest)
