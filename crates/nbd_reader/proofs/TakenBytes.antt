-- Bytes that are taken in steps.
use Rattle.std.proofs.Common.{◌≡◌, ℕ, ◌+◌, ◌-◌, ◌*◌, ◌≤◌, Bool, IsTrue, List, ◌++◌, length, take, drop, refl}
use Rattle.std.proofs.Common.{sym, ap, ◌∙◌, arith, length-drop}
use Rattle.std.proofs.lemmas.List.{drop-drop, take-append-drop, drop-take, take-take, take_at}
use Rattle.std.proofs.lemmas.List.{drop_at, length-take}
use Rattle.std.proofs.lemmas.Slice.{take-put_mid}
use borrow.Rule.Slice.PartMut.{put_mid}
use Rattle.nbd_reader.specs.Taken.{Takes}
use Rattle.streams.specs.Streams.{MovesBytes}

-- what is taken in two steps
pub take_both : (n m : ℕ) (xs : List ℕ) → take (n + m) xs ≡ take n xs ++ take m (drop n xs)
take_both n m xs =
    sym (take-append-drop n (take (n + m) xs))
    ∙ ap (λ (t : List ℕ). take n (take (n + m) xs) ++ t) (drop-take n m xs)
    ∙ ap (λ (t : List ℕ). t ++ take m (drop n xs)) (take-take n (n + m) xs (omega arith))

-- nothing is taken
pub takes_none : (xs : List ℕ) → Takes xs xs 0
takes_none xs = record { within = omega arith; rest = refl }

-- and then more
pub takes_both : (xs ys zs : List ℕ) (n m k : ℕ) → Takes xs ys n → Takes ys zs m → k ≡ n + m → Takes xs zs k
takes_both xs ys zs n m k p q e = record {
  within = omega (arith, p.within, q.within, ap length p.rest, length-drop n xs);
  rest = q.rest ∙ ap (drop m) p.rest ∙ drop-drop m n xs ∙ ap (λ (j : ℕ). drop j xs) (sym e);
}

-- what a buffer has while it is filled
pub record IsFilling (tells : Bool) (first left into : List ℕ) (at faults faults_now : ℕ) : Type 0 where
  pub within : at ≤ length into
  pub taken : IsTrue tells → Takes first left at
  pub bytes : IsTrue tells → take at into ≡ take at first
  pub later : faults ≤ faults_now

-- what has been skipped
pub record IsSkipping (tells : Bool) (first left : List ℕ) (count rest faults faults_now : ℕ) : Type 0 where
  pub within : rest ≤ count
  pub taken : IsTrue tells → Takes first left (count - rest)
  pub later : faults ≤ faults_now

-- what pages hold while they are taken
pub record IsHolding (tells : Bool) (first left held : List ℕ) (done faults faults_now : ℕ) : Type 0 where
  pub taken : IsTrue tells → Takes first left (4096 * done)
  pub bytes : IsTrue tells → held ≡ take (4096 * done) first
  pub later : faults ≤ faults_now

-- the front of a buffer, and of the piece that was put behind it
take_put : (into piece : List ℕ) (at k n : ℕ) → length piece ≡ k → at + k ≡ length into → n ≤ k
    → take (at + n) (put_mid at k into piece) ≡ take at into ++ take n piece
take_put into piece at k n long ends le =
    let front : length (take at into) ≡ at = omega (arith, length-take at into) in
    sym (take-take (at + n) (at + k) (put_mid at k into piece) (omega arith))
    ∙ ap (take (at + n)) (take-put_mid at k into piece (at + k) (omega arith) (omega arith))
    ∙ take_both at n (take at into ++ piece)
    ∙ ap (λ (t : List ℕ). t ++ take n (drop at (take at into ++ piece))) (take_at (take at into) piece at front)
    ∙ ap (λ (t : List ℕ). take at into ++ take n t) (drop_at (take at into) piece at front)

-- one read more
pub filled : (tells : Bool) (first left left_now into piece : List ℕ) (at k f f1 f2 n : ℕ)
    → IsFilling tells first left into at f f1 → length piece ≡ k → at + k ≡ length into → n ≤ k
    → length (put_mid at k into piece) ≡ length into
    → (IsTrue tells → MovesBytes left left_now piece n) → f1 ≤ f2
    → IsFilling tells first left_now (put_mid at k into piece) (at + n) f f2
filled tells first left left_now into piece at k f f1 f2 n h long ends le same moves later = record {
  within = omega arith;
  taken = λ t.
      takes_both first left left_now at n (at + n) (h.taken t)
      (record { within = (moves t).within; rest = (moves t).rest }) refl;
  bytes = λ t.
      take_put into piece at k n long ends le
      ∙ ap (λ (x : List ℕ). x ++ take n piece) (h.bytes t)
      ∙ ap (λ (x : List ℕ). take at first ++ x) ((moves t).bytes ∙ ap (take n) (h.taken t).rest)
      ∙ sym (take_both at n first);
  later = omega (arith, h.later, later);
}

-- one page more
pub held_more : (tells : Bool) (first left left_now held held_now page : List ℕ) (done f f1 f2 : ℕ)
    → IsHolding tells first left held done f f1 → length page ≡ 4096
    → (IsTrue tells → Takes left left_now (length page)) → (IsTrue tells → page ≡ take (length page) left)
    → held_now ≡ held ++ page → f1 ≤ f2 → IsHolding tells first left_now held_now (done + 1) f f2
held_more tells first left left_now held held_now page done f f1 f2 h long takes is more later = record {
  taken = λ t.
      takes_both first left left_now (4096 * done) (length page) (4096 * (done + 1)) (h.taken t) (takes t)
      (omega arith);
  bytes = λ t.
      more ∙ ap (λ (x : List ℕ). x ++ page) (h.bytes t)
      ∙ ap (λ (x : List ℕ). take (4096 * done) first ++ x)
      (is t ∙ ap (λ (n : ℕ). take n left) long ∙ ap (take 4096) (h.taken t).rest)
      ∙ sym (take_both (4096 * done) 4096 first)
      ∙ ap (λ (n : ℕ). take n first) (omega arith);
  later = omega (arith, h.later, later);
}
