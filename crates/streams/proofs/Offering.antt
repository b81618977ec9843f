-- A text that is offered to a sink piece by piece.
use Rattle.std.proofs.Common.{◌≡◌, ℕ, ◌-◌, ◌≤◌, Bool, IsTrue, List, [], ◌∷◌, ◌++◌, length, take, drop, sym, ap, ◌∙◌}
use Rattle.std.proofs.Common.{arith, append_assoc, inl, inr}
use Rattle.std.proofs.lemmas.Grind.{common_steps}
use Rattle.page_disk.specs.Disk.{Rose}

-- what is offered stands after what was there before, and the rest is still to be offered
pub record IsOffering (tells : Bool) (text rest before now : List ℕ) (faults faults_now : ℕ) : Type 0 where
  pub done : List ℕ
  pub text_is : text ≡ done ++ rest
  pub now_is : IsTrue tells → now ≡ before ++ done
  pub later : faults ≤ faults_now

cut_in_two : (n : ℕ) (xs : List ℕ) → n ≤ length xs → xs ≡ take n xs ++ take (length xs - n) (drop n xs)
cut_in_two n xs le = grind (arith, common_steps)

-- the sink took the first bytes of what was left to be offered
pub taken : (tells : Bool) (text rest before now new : List ℕ) (faults faults_now faults_new n : ℕ)
    → IsOffering tells text rest before now faults faults_now → n ≤ length rest
    → (IsTrue tells → new ≡ now ++ take n rest) → faults_now ≤ faults_new
    → IsOffering tells text (take (length rest - n) (drop n rest)) before new faults faults_new
taken tells text rest before now new faults faults_now faults_new n o le adds later = record {
  done = o.done ++ take n rest;
  text_is =
      o.text_is ∙ ap (λ xs. o.done ++ xs) (cut_in_two n rest le)
      ∙ sym (append_assoc o.done (take n rest) (take (length rest - n) (drop n rest)));
  now_is = λ t. adds t ∙ ap (λ xs. xs ++ take n rest) (o.now_is t) ∙ append_assoc before o.done (take n rest);
  later = omega (arith, o.later, later);
}

-- where nothing is left to be offered, the whole text is written
pub all_taken : (tells : Bool) (text rest before now : List ℕ) (faults faults_now : ℕ)
    → IsOffering tells text rest before now faults faults_now → length rest ≡ 0 → IsTrue tells → now ≡ before ++ text
all_taken tells text [] before now faults faults_now o none t =
    o.now_is t ∙ ap (λ xs. before ++ xs) (sym (o.text_is ∙ grind (arith, common_steps)))
all_taken tells text (x ∷ xs) before now faults faults_now o none t = absurd (omega arith)

-- a count that has risen since later has risen since before
pub rose_since : (before between after : ℕ) → before ≤ between → between ≤ after → Rose between after
    → Rose before after
rose_since before between after le le' (inl lt) = inl (omega arith)
rose_since before between after le le' (inr last) = inr last
