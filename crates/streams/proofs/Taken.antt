-- A text that is taken from a source piece by piece.
use Rattle.std.proofs.Common.{◌≡◌, ℕ, ◌+◌, ◌≤◌, ◌^◌, Bool, IsTrue, List, [], ◌++◌, length, take, drop, refl, sym, ap}
use Rattle.std.proofs.Common.{◌∙◌, arith, append_assoc}
use Rattle.std.proofs.lemmas.Grind.{common_steps}
use Rattle.std.proofs.lemmas.List.{take-append-drop}
use Rattle.streams.specs.Streams.{MovesBytes, TakesAtMost}

-- what was there at first is what is taken and what is left
pub record IsTaking (tells : Bool) (first text left : List ℕ) (faults faults_now : ℕ) : Type 0 where
  pub first_is : IsTrue tells → first ≡ text ++ left
  pub within : length text ≤ 2 ^ 20 + 1
  pub later : faults ≤ faults_now

-- nothing is taken yet
pub taking : (tells : Bool) (first text : List ℕ) (faults : ℕ) → text ≡ []
    → IsTaking tells first text first faults faults
taking tells first text faults e =
    record { first_is = λ t. rw e refl; within = rw e (omega arith); later = omega arith }

-- one read took bytes more
pub took_more : (tells : Bool) (first text left left_now buffer : List ℕ) (faults faults_now faults_new n : ℕ)
    → IsTaking tells first text left faults faults_now → length text + n ≤ 2 ^ 20 + 1
    → (IsTrue tells → MovesBytes left left_now buffer n) → faults_now ≤ faults_new
    → IsTaking tells first (text ++ take n buffer) left_now faults faults_new
took_more tells first text left left_now buffer faults faults_now faults_new n k few moves later = record {
  first_is = λ t.
      k.first_is t ∙ ap (λ xs. text ++ xs) (sym (take-append-drop n left))
      ∙ sym (append_assoc text (take n left) (drop n left))
      ∙ ap (λ xs. (text ++ xs) ++ drop n left) (sym (moves t).bytes)
      ∙ ap (λ xs. (text ++ take n buffer) ++ xs) (sym (moves t).rest);
  within = grind (arith, common_steps, few);
  later = omega (arith, k.later, later);
}

-- what was taken is at most so much
pub takes : (tells : Bool) (first text left : List ℕ) (faults faults_now : ℕ)
    → IsTaking tells first text left faults faults_now → IsTrue tells → TakesAtMost first left (2 ^ 20 + 1)
takes tells first text left faults faults_now k t =
    record { count = length text; within = k.within; rest = grind (arith, common_steps, k.first_is t) }

-- one read more takes at most so much
pub takes_more : (tells : Bool) (first text left left_now buffer : List ℕ) (faults faults_now n : ℕ)
    → IsTaking tells first text left faults faults_now → length text + n ≤ 2 ^ 20 + 1
    → (IsTrue tells → MovesBytes left left_now buffer n) → IsTrue tells → TakesAtMost first left_now (2 ^ 20 + 1)
takes_more tells first text left left_now buffer faults faults_now n k few moves t =
    takes tells first (text ++ take n buffer) left_now faults faults_now
    (took_more tells first text left left_now buffer faults faults_now faults_now n k few moves (omega arith)) t
