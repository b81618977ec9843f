-- Runs in pieces, and pages that are laid one by one.
use Rattle.std.proofs.Common.{◌≡◌, ℕ, zero, suc, ◌-◌, ◌/◌, ◌<◌, ◌≤◌, List, [], ◌∷◌, ◌++◌, length, take, drop, map, refl}
use Rattle.std.proofs.Common.{sym, ap, ◌∙◌, arith, inl, inr, append_assoc, append-nil}
use Rattle.std.specs.Prelude.{min}
use Rattle.std.proofs.lemmas.Bool.{lt-ltb, le-ltb, cases_lt}
use Rattle.std.proofs.lemmas.List.{take_all, drop_all}
use Rattle.volume_model.specs.declared.lists.SlotRun.{SlotRun}
use Rattle.descriptors.specs.declared.item.Item.{Item}
use Rattle.md_chain.specs.Packing.{with_run, pieces, on_page, run_parts, on_first}
use Rattle.md_chain.specs.Laid.{laid}

-- the pieces after the first one
pub later : List SlotRun → List (List SlotRun)
later [] = []
later (r ∷ rs) = pieces 508 (r ∷ rs)

-- the first piece takes what is left in the current page
pub pieces_split : (left : ℕ) (runs : List SlotRun) → pieces left runs ≡ take left runs ∷ later (drop left runs)
unfolding later
pieces_split zero [] = refl
pieces_split (suc left) [] = refl
pieces_split zero (r ∷ rs) = refl
pieces_split (suc left) (r ∷ rs) = ap (with_run r) (pieces_split left rs)

-- each later piece takes a whole page
pub later_split : (runs : List SlotRun) → 0 < length runs → later runs ≡ take 508 runs ∷ later (drop 508 runs)
unfolding later
later_split [] some = absurd (omega arith)
later_split (r ∷ rs) some = pieces_split 508 (r ∷ rs)

-- no runs, no later piece
pub later_none : (runs : List SlotRun) → length runs ≡ 0 → later runs ≡ []
unfolding later
later_none [] e = refl
later_none (r ∷ rs) e = absurd (omega arith)

-- the pages of runs behind the current one
pub pages_of : List SlotRun → List (List Item)
pages_of runs = map on_page (later runs)

-- the first piece is on the current page
pub first_piece : (full : List (List Item)) (current : List Item) (left : ℕ) (runs : List SlotRun)
    → full ++ (current ++ on_page (take left runs)) ∷ pages_of (drop left runs)
    ≡ laid full current (map on_page (pieces left runs))
unfolding pages_of
first_piece full current left runs = rw (pieces_split left runs) refl

-- one piece more has a page of its own
pub next_piece : (full : List (List Item)) (current : List Item) (runs : List SlotRun) → 0 < length runs
    → (full ++ current ∷ []) ++ on_page (take 508 runs) ∷ pages_of (drop 508 runs) ≡ full ++ current ∷ pages_of runs
unfolding pages_of
next_piece full current runs some = append_assoc full (current ∷ []) _
    ∙ ap (λ (ps : List (List SlotRun)). full ++ current ∷ map on_page ps) (sym (later_split runs some))

-- where no run is left, the current page is the last
pub last_piece : (full : List (List Item)) (current : List Item) (runs : List SlotRun) → length runs ≡ 0
    → full ++ current ∷ pages_of runs ≡ full ++ current ∷ []
unfolding pages_of
last_piece full current runs e = ap (λ (ps : List (List SlotRun)). full ++ current ∷ map on_page ps) (later_none runs e)

pieces-some : (left : ℕ) (runs : List SlotRun) → 0 < length (map on_page (pieces left runs))
pieces-some left runs = rw (pieces_split left runs) (omega arith)

some_page : (current : List Item) (parts : List (List Item)) → 0 < length parts
    → current ∷ on_first [] parts ≡ (current ++ []) ∷ parts
some_page current [] some = absurd (omega arith)
some_page current (p ∷ ps) some = ap (λ (c : List Item). c ∷ p ∷ ps) (sym (append-nil current))

-- runs on the page that was current, and on a new one
pub same_page : (full : List (List Item)) (current : List Item) (room : ℕ) (runs : List SlotRun) → 13 ≤ room
    → laid full current (map on_page (pieces ((room - 5) / 8) runs)) ≡ laid full current (run_parts room runs)
same_page full current room runs le = rw (le-ltb room 13 le) refl

-- where not one run fits the current page, the runs begin the next
pub new_page : (full : List (List Item)) (current : List Item) (room : ℕ) (runs : List SlotRun) → room < 13
    → laid (full ++ current ∷ []) [] (map on_page (pieces ((4072 - 5) / 8) runs))
    ≡ laid full current (run_parts room runs)
new_page full current room runs lt = rw (lt-ltb room 13 lt)
    (append_assoc full (current ∷ []) _ ∙ ap (λ (ps : List (List Item)). full ++ ps)
    (some_page current (map on_page (pieces 508 runs)) (pieces-some 508 runs)))

-- as many as there are, at most
pub take_min : {X : Type 0} (xs : List X) (mid k : ℕ) → mid ≡ min (length xs) k → take mid xs ≡ take k xs
take_min xs mid k e = elim (cases_lt k (length xs)) [
  | inl lt ↦ ap (λ (n : ℕ). take n xs) (let m : mid ≡ k = omega (arith, e, lt) in m)
  | inr le ↦ take_all mid xs (omega (arith, e, le)) ∙ sym (take_all k xs (omega (arith, le)))
]

-- dropping no more than there is drops the same
pub drop_min : {X : Type 0} (xs : List X) (mid k : ℕ) → mid ≡ min (length xs) k → drop mid xs ≡ drop k xs
drop_min xs mid k e = elim (cases_lt k (length xs)) [
  | inl lt ↦ ap (λ (n : ℕ). drop n xs) (let m : mid ≡ k = omega (arith, e, lt) in m)
  | inr le ↦ drop_all mid xs (omega (arith, e, le)) ∙ sym (drop_all k xs (omega (arith, le)))
]
