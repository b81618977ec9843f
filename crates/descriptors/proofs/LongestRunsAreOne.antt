-- The longest runs of a map are one list.
use Rattle.std.proofs.Common.{◌≡◌, ℕ, zero, suc, ◌+◌, ◌<◌, true, false, eqb, List, [], ◌∷◌, ◌++◌, Option, Some, None}
use Rattle.std.proofs.Common.{replicate, refl, sym, ap, subst, ◌∙◌, arith, inl, inr, add-zero}
use Rattle.std.proofs.lemmas.Bool.{cases_eq, eq-eqb, ne_eqb, both_ways}
use Rattle.std.proofs.lemmas.Option.{same_Some}
use Rattle.volume_model.specs.declared.lists.SlotRun.{SlotRun}
use Rattle.descriptors.specs.Slots.{run_slots, filled_slots}
use Rattle.descriptors.specs.Runs.{cluster_of, slots_in, goes_on, IsLongest}
use Rattle.descriptors.proofs.LongestRuns.{some_cluster}

-- the slot with which a run would go on
abbrev pub next_slot : Option ℕ → ℕ → Option ℕ
next_slot None n = None
next_slot (Some c) n = Some (c + n)

-- slots that don't go on with a run
abbrev pub Stops : Option ℕ → ℕ → List (Option ℕ) → Type 0
Stops o n xs = (ys : List (Option ℕ)) → xs ≡ next_slot o n ∷ ys → ⊥

empty_runs : (n m : ℕ) (xs ys : List (Option ℕ)) → Stops None n xs → Stops None m ys
    → replicate n None ++ xs ≡ replicate m None ++ ys → (n ≡ m) × (xs ≡ ys)
empty_runs zero zero xs ys s t e = (refl, e)
empty_runs zero (suc m) xs ys s t e = absurd (s (replicate m None ++ ys) e)
empty_runs (suc n) zero xs ys s t e = absurd (t (replicate n None ++ xs) (sym e))
empty_runs (suc n) (suc m) xs ys s t e =
    let rest : replicate n None ++ xs ≡ replicate m None ++ ys = cc in
    let same : (n ≡ m) × (xs ≡ ys) = empty_runs n m xs ys s t rest in
    (ap suc same.0, same.1)

filled_runs : (c n m : ℕ) (xs ys : List (Option ℕ)) → Stops (Some c) n xs → Stops (Some c) m ys
    → filled_slots c n ++ xs ≡ filled_slots c m ++ ys → (n ≡ m) × (xs ≡ ys)
filled_runs c zero zero xs ys s t e = (refl, e)
filled_runs c zero (suc m) xs ys s t e =
    absurd (s (filled_slots (c + 1) m ++ ys) (e ∙ ap (λ (k : ℕ). Some k ∷ (filled_slots (c + 1) m ++ ys))
    (sym (add-zero c))))
filled_runs c (suc n) zero xs ys s t e =
    absurd (t (filled_slots (c + 1) n ++ xs) (sym e ∙ ap (λ (k : ℕ). Some k ∷ (filled_slots (c + 1) n ++ xs))
    (sym (add-zero c))))
filled_runs c (suc n) (suc m) xs ys s t e =
    let rest : filled_slots (c + 1) n ++ xs ≡ filled_slots (c + 1) m ++ ys = cc in
    let at : (k : ℕ) → c + 1 + k ≡ c + suc k = λ k. omega arith in
    let same : (n ≡ m) × (xs ≡ ys) =
    filled_runs (c + 1) n m xs ys (λ zs h. s zs (h ∙ ap (λ (k : ℕ). Some k ∷ zs) (at n)))
    (λ zs h. t zs (h ∙ ap (λ (k : ℕ). Some k ∷ zs) (at m))) rest in
    (ap suc same.0, same.1)

same_runs : (o : Option ℕ) (n m : ℕ) (xs ys : List (Option ℕ)) → Stops o n xs → Stops o m ys
    → run_slots o n ++ xs ≡ run_slots o m ++ ys → (n ≡ m) × (xs ≡ ys)
same_runs None n m xs ys s t e = empty_runs n m xs ys s t e
same_runs (Some c) n m xs ys s t e = filled_runs c n m xs ys s t e

-- a run that isn't empty begins with its cluster
run_head : (o : Option ℕ) (n : ℕ) (rest : List (Option ℕ)) → 0 < n
    → (t : List (Option ℕ)) × (run_slots o n ++ rest ≡ o ∷ t)
run_head o zero rest h = absurd (omega arith)
run_head None (suc n) rest h = (replicate n None ++ rest, refl)
run_head (Some c) (suc n) rest h = (filled_slots (c + 1) n ++ rest, refl)

no_cluster : (c : ℕ) → cluster_of c ≡ None → c ≡ 0
no_cluster c e =
    elim (cases_eq c 0) [
      | inl z ↦ z
      | inr ne ↦ let some : cluster_of c ≡ Some c = some_cluster c ne in
          absurd (let h : None ≡ Some c = sym e ∙ some in cc)
    ]

the_cluster : (c d : ℕ) → cluster_of c ≡ Some d → c ≡ d
the_cluster c d e =
    elim (cases_eq c 0) [
      | inl z ↦ let none : cluster_of c ≡ None = ap cluster_of z in absurd (let h : None ≡ Some d = sym none ∙ e in cc)
      | inr ne ↦ same_Some c d (sym (some_cluster c ne) ∙ e)
    ]

one_cluster : (c d : ℕ) → cluster_of c ≡ cluster_of d → c ≡ d
one_cluster c d e =
    elim (cases_eq d 0) [
      | inl z ↦ no_cluster c (e ∙ ap cluster_of z) ∙ sym z
      | inr ne ↦ the_cluster c d (e ∙ some_cluster d ne)
    ]

not_next : (r : SlotRun) (c : ℕ) → goes_on r c ≡ false → cluster_of c ≡ next_slot (cluster_of r.cluster) r.length → ⊥
not_next r c stops e =
    elim (cases_eq r.cluster 0) [
      | inl z ↦
          let none : cluster_of r.cluster ≡ None = ap cluster_of z in
          let empty : c ≡ 0 = no_cluster c (e ∙ ap (λ (o : Option ℕ). next_slot o r.length) none) in
          let run : eqb r.cluster 0 ≡ true = eq-eqb _ _ z in
          let slot : eqb c 0 ≡ true = eq-eqb _ _ empty in
          both_ways (goes_on r c) stops (rw (run, slot) refl)
      | inr ne ↦
          let some : cluster_of r.cluster ≡ Some r.cluster = some_cluster r.cluster ne in
          let next : c ≡ r.cluster + r.length = the_cluster c (r.cluster + r.length)
          (e ∙ ap (λ (o : Option ℕ). next_slot o r.length) some) in
          let run : eqb r.cluster 0 ≡ false = ne_eqb _ _ ne in
          let slot : eqb c (r.cluster + r.length) ≡ true = eq-eqb _ _ next in
          both_ways (goes_on r c) stops (rw (run, slot) refl)
    ]

first_some : (r : SlotRun) (rs : List SlotRun) → IsLongest (r ∷ rs) → 0 < r.length
first_some r [] h = h
first_some r (s ∷ rs) h = h.0

rest_longest : (r : SlotRun) (rs : List SlotRun) → IsLongest (r ∷ rs) → IsLongest rs
rest_longest r [] h = tt
rest_longest r (s ∷ rs) h = h.2

stops_after : (r : SlotRun) (rs : List SlotRun) → IsLongest (r ∷ rs)
    → Stops (cluster_of r.cluster) r.length (slots_in rs)
stops_after r [] h ys e = cc
stops_after r (s ∷ rs) h ys e =
    let head = run_head (cluster_of s.cluster) s.length (slots_in rs) (first_some s rs h.2) in
    let both : cluster_of s.cluster ∷ head.0 ≡ next_slot (cluster_of r.cluster) r.length ∷ ys = sym head.1 ∙ e in
    not_next r s.cluster h.1 (let same : cluster_of s.cluster ≡ next_slot (cluster_of r.cluster) r.length = cc in same)

same_run : (r q : SlotRun) → r.cluster ≡ q.cluster → r.length ≡ q.length → r ≡ q
same_run r q e f =
    let run : ℕ → ℕ → SlotRun = λ c n. record { cluster = c; length = n } in
    ap (λ (c : ℕ). run c r.length) e ∙ ap (run q.cluster) f

-- lists of longest runs that spell one map are one list
pub longest_runs_are_one : (rs qs : List SlotRun) → IsLongest rs → IsLongest qs → slots_in rs ≡ slots_in qs → rs ≡ qs
longest_runs_are_one [] [] h k e = refl
longest_runs_are_one [] (q ∷ qs) h k e =
    let head = run_head (cluster_of q.cluster) q.length (slots_in qs) (first_some q qs k) in
    let none : [] ≡ cluster_of q.cluster ∷ head.0 = e ∙ head.1 in
    cc
longest_runs_are_one (r ∷ rs) [] h k e =
    let head = run_head (cluster_of r.cluster) r.length (slots_in rs) (first_some r rs h) in
    let none : [] ≡ cluster_of r.cluster ∷ head.0 = sym e ∙ head.1 in
    cc
longest_runs_are_one (r ∷ rs) (q ∷ qs) h k e =
    let left = run_head (cluster_of r.cluster) r.length (slots_in rs) (first_some r rs h) in
    let right = run_head (cluster_of q.cluster) q.length (slots_in qs) (first_some q qs k) in
    let both : cluster_of r.cluster ∷ left.0 ≡ cluster_of q.cluster ∷ right.0 = sym left.1 ∙ e ∙ right.1 in
    let first : cluster_of r.cluster ≡ cluster_of q.cluster = cc in
    let same : (r.length ≡ q.length) × (slots_in rs ≡ slots_in qs) =
    same_runs (cluster_of q.cluster) r.length q.length (slots_in rs) (slots_in qs)
    (subst (λ (o : Option ℕ). Stops o r.length (slots_in rs)) first (stops_after r rs h))
    (stops_after q qs k)
    (ap (λ (o : Option ℕ). run_slots o r.length ++ slots_in rs) (sym first) ∙ e) in
    let run : r ≡ q = same_run r q (one_cluster r.cluster q.cluster first) same.0 in
    let rest : rs ≡ qs = longest_runs_are_one rs qs (rest_longest r rs h) (rest_longest q qs k) same.1 in
    cc
