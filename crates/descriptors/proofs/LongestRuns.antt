-- One more slot.
use Rattle.std.proofs.Common.{◌≡◌, ◌≢◌, ℕ, suc, ◌+◌, ◌-◌, ◌^◌, ◌<◌, ◌≤◌, false, eqb, List, [], ◌∷◌, ◌++◌, length}
use Rattle.std.proofs.Common.{take, drop, get_or, length-append, length-drop, Option, Some, None, refl, sym, ap, ◌∙◌}
use Rattle.std.proofs.Common.{arith}
use Rattle.std.specs.Prelude.{unwrap_or}
use Rattle.std.proofs.lemmas.Bool.{ne_eqb}
use Rattle.std.proofs.lemmas.List.{append-nil, length-replicate, take_more, take-append-drop, drop-take, take-take}
use Rattle.std.proofs.lemmas.List.{get_or-drop}
use Rattle.std.proofs.lemmas.List.Sums.{sum_by-cons, sum_by_more_le}
use Rattle.std.proofs.lemmas.List.Concat.{flat_map-append}
use Rattle.volume_model.specs.declared.lists.SlotRun.{SlotRun}
use Rattle.descriptors.specs.Slots.{IsSlot, run_slots, filled_slots}
use Rattle.descriptors.proofs.FilledSlots.{filled_more, length-filled}
use Rattle.descriptors.specs.Runs.{cluster_of, slots_of_run, slots_in, goes_on, IsLongest, slots_of_all}

-- a slot comes back from the number that a run has for it
pub slot_again : (s : Option ℕ) → IsSlot s → cluster_of (unwrap_or s 0) ≡ s
slot_again None h = refl
slot_again (Some c) h = let e : eqb c 0 ≡ false = ne_eqb c 0 (λ z. omega arith) in rw e refl

slots_push : (runs : List SlotRun) (r : SlotRun) → slots_in (runs ++ r ∷ []) ≡ slots_in runs ++ slots_of_run r
slots_push runs r = flat_map-append slots_of_run runs (r ∷ [])
    ∙ ap (λ (t : List (Option ℕ)). slots_in runs ++ t) (append-nil (slots_of_run r))

-- a number above 0 is a cluster
pub some_cluster : (c : ℕ) → c ≢ 0 → cluster_of c ≡ Some c
some_cluster c ne = let e : eqb c 0 ≡ false = ne_eqb c 0 ne in rw e refl

-- ---- at the front

-- one cluster more
pub filled_one_more : (slots : List (Option ℕ)) (cluster i : ℕ) → i < length slots
    → take i slots ≡ run_slots (Some cluster) i → get_or slots i None ≡ Some (cluster + i)
    → take (i + 1) slots ≡ run_slots (Some cluster) (i + 1)
filled_one_more slots cluster i lt so_far here =
    let e : suc i ≡ i + 1 = omega arith in
    take_more slots i None lt ∙ ap (λ (o : Option ℕ). take i slots ++ o ∷ []) here
    ∙ ap (λ (t : List (Option ℕ)). t ++ Some (cluster + i) ∷ []) so_far ∙ filled_more cluster i
    ∙ ap (filled_slots cluster) e

-- ---- the longest

longest_push : (rs : List SlotRun) (r s : SlotRun) → IsLongest (rs ++ r ∷ []) → goes_on r s.cluster ≡ false
    → 0 < s.length → IsLongest ((rs ++ r ∷ []) ++ s ∷ [])
longest_push [] r s h g lt = (h, g, lt)
longest_push (x ∷ []) r s h g lt = (h.0, h.1, (h.2, g, lt))
longest_push (x ∷ y ∷ rs) r s h g lt = (h.0, h.1, longest_push (y ∷ rs) r s h.2 g lt)

-- a longer run in the place of the last
longest_last : (rs : List SlotRun) (r s : SlotRun) → IsLongest (rs ++ r ∷ []) → s.cluster ≡ r.cluster → 0 < s.length
    → IsLongest (rs ++ s ∷ [])
longest_last [] r s h e lt = lt
longest_last (x ∷ []) r s h e lt = (h.0, ap (goes_on x) e ∙ h.1, lt)
longest_last (x ∷ y ∷ rs) r s h e lt = (h.0, h.1, longest_last (y ∷ rs) r s h.2 e lt)

-- ---- a turn

-- the run of this slot alone
abbrev one_slot : Option ℕ → SlotRun
one_slot slot = record { cluster = unwrap_or slot 0; length = 1 }

-- what holds of the runs of the slots before a place: a slot that is next begins a run
pub record Turned (runs : List SlotRun) (slots : List (Option ℕ)) (done : ℕ) : Type 0 where
  pub within : done ≤ length slots
  pub spelt : slots_in runs ≡ take done slots
  pub longest : IsLongest runs
  pub begins : done < length slots → IsLongest (runs ++ one_slot (get_or slots done None) ∷ [])

take_both : (n m : ℕ) (slots : List (Option ℕ)) → take (n + m) slots ≡ take n slots ++ take m (drop n slots)
take_both n m slots =
    sym (take-append-drop n (take (n + m) slots))
    ∙ ap (λ (t : List (Option ℕ)). take n (take (n + m) slots) ++ t) (drop-take n m slots)
    ∙ ap (λ (t : List (Option ℕ)). t ++ take m (drop n slots)) (take-take n (n + m) slots (omega arith))

-- for `runs_of`: the longest run at the front of the slots that are left is the next
pub one_run_more : (runs : List SlotRun) (slots left : List (Option ℕ)) (done : ℕ) (run : SlotRun)
    → Turned runs slots done → left ≡ drop done slots → 0 < run.length → run.length ≤ length left
    → run.cluster ≡ unwrap_or (get_or left 0 None) 0 → slots_of_run run ≡ take run.length left
    → (run.length < length left → goes_on run (unwrap_or (get_or left run.length None) 0) ≡ false)
    → Turned (runs ++ run ∷ []) slots (done + run.length)
one_run_more runs slots left done run t is some short first spelt ends =
    let rest : length left ≡ length slots - done = ap length is ∙ length-drop done slots in
    let at : (i : ℕ) → get_or left i None ≡ get_or slots (done + i) None =
    λ i. ap (λ (l : List (Option ℕ)). get_or l i None) is ∙ get_or-drop done slots i None in
    let here : run.cluster ≡ unwrap_or (get_or slots done None) 0 =
    first ∙ ap (λ (s : Option ℕ). unwrap_or s 0) (at 0 ∙ ap (λ (i : ℕ). get_or slots i None) (omega arith)) in
    let longest : IsLongest (runs ++ run ∷ []) = longest_last runs _ run (t.begins (omega arith)) here some in
    record {
      within = let h : done ≤ length slots = t.within in omega arith;
      spelt = slots_push runs run ∙ ap (λ (l : List (Option ℕ)). l ++ slots_of_run run) t.spelt
          ∙ ap (λ (l : List (Option ℕ)). take done slots ++ l)
          (spelt ∙ ap (take run.length) is) ∙ sym (take_both done run.length slots);
      longest = longest;
      begins = λ more.
          longest_push runs run (one_slot (get_or slots (done + run.length) None)) longest
          (ap (λ (s : Option ℕ). goes_on run (unwrap_or s 0)) (sym (at run.length)) ∙ ends (omega arith)) (omega arith);
    }

-- ---- how many slots

length-run_slots : (o : Option ℕ) (n : ℕ) → length (run_slots o n) ≡ n
length-run_slots None n = length-replicate n None
length-run_slots (Some c) n = length-filled c n

-- runs spell as many slots as their lengths say together
pub length-slots : (runs : List SlotRun) → length (slots_in runs) ≡ slots_of_all runs
length-slots [] = refl
length-slots (r ∷ rs) =
    length-append (slots_of_run r) (slots_in rs)
    ∙ omega (
      arith,
      length-run_slots (cluster_of r.cluster) r.length,
      length-slots rs,
      sum_by-cons
          (λ (s : SlotRun). s.length) r rs,
    )

-- for `slots_of`: where all runs have at most 2^20 slots, the next run has room
pub room_for : (runs : List SlotRun) (i : ℕ) (d : SlotRun) (map : List (Option ℕ)) → i < length runs
    → map ≡ slots_in (take i runs) → slots_of_all runs ≤ 2 ^ 20 → length map + (get_or runs i d).length ≤ 2 ^ 20
room_for runs i d map lt e few =
    omega (arith, ap length e, length-slots (take i runs), sum_by_more_le (λ (s : SlotRun). s.length) runs i d lt)
