-- A number as it is printed.
use Rattle.std.proofs.Common.{◌≡◌, ℕ, ◌<◌, ◌≤◌, ◌^◌, Bool, true, false, cond, ◌&&◌, List, Some, None, Result, Ok, Err}
use Rattle.std.proofs.Common.{refl, sym, ap, ◌∙◌, subst, arith, ltb, decimal}
use Rattle.std.specs.Str.{bytes_eq, IsUtf8}
use Rattle.std.specs.Str.Parse.{digits_value, ParsesUnsigned}
use Rattle.std.proofs.lemmas.Bool.{ltb-true, lt-ltb}
use Rattle.std.proofs.lemmas.Slice.Eq.{bytes_eq-Decides}
use Rattle.std.proofs.lemmas.Str.{IsUtf8-from_ascii}
use Rattle.std.proofs.lemmas.Fmt.{IsAscii-decimal, decimal_is_IsNumeral, parse-decimal}
use Rattle.script_lang.specs.Words.{number_below}

-- a word that is a number as it is printed
pub is_number : (limit n : ℕ) (word : List ℕ) → limit ≤ 2 ^ 64 → n < limit → decimal n ≡ word
    → number_below limit word ≡ Some n
is_number limit n word most small e =
    let v : digits_value 10 word ≡ n = ap (digits_value 10) (sym e) ∙ (decimal_is_IsNumeral n (omega arith)).1 in
    let same : bytes_eq (decimal n) word ≡ true = (bytes_eq-Decides (decimal n) word).1 e in
    let less : ltb n limit ≡ true = lt-ltb n limit small in
    rw v (rw same (rw less refl))

-- both of two tests
pub both : (a b : Bool) → (a && b) ≡ true → (a ≡ true) × (b ≡ true)
both true true e = (refl, refl)
both true false e = absurd (cc)
both false b e = absurd (cc)

no_number : (limit : ℕ) (word : List ℕ) → ((n : ℕ) → n < limit → decimal n ≡ word → ⊥) → number_below limit word ≡ None
no_number limit word none =
    elim (bytes_eq (decimal (digits_value 10 word)) word && ltb (digits_value 10 word) limit)
    as (λ b. (bytes_eq (decimal (digits_value 10 word)) word && ltb (digits_value 10 word) limit) ≡ b
    → cond b (Some (digits_value 10 word)) None ≡ None) [
      | true ↦ λ e. let t = both _ _ e in absurd
          (none (digits_value 10 word) (ltb-true _ _ t.1)
          ((bytes_eq-Decides (decimal (digits_value 10 word)) word).0 t.0))
      | false ↦ λ e. refl
    ] refl

module _ (limit : ℕ) (word : List ℕ) (most : limit ≤ 2 ^ 64) where
  pub no_text : (IsUtf8 word → ⊥) → number_below limit word ≡ None
  no_text not = no_number limit word
      (λ n small e. not (subst IsUtf8 e (IsUtf8-from_ascii (decimal n) (IsAscii-decimal n (omega arith)))))

  pub not_parsed : {E : Type 0} (x : E) → ParsesUnsigned 64 10 word (Err x) → number_below limit word ≡ None
  not_parsed {E} x h = no_number limit word
      (λ n small e. let bad : ◌≡◌ {A = Result ℕ E} (Err x) (Ok n) = parse-decimal {E = E} 64 n word (Err x)
      (omega arith) (omega arith) (sym e) h in cc)

  -- a number that was parsed is the only one that the word may print
  only_parsed : (E : Type 0) (n m : ℕ) → ParsesUnsigned {E = E} 64 10 word (Ok n) → m < limit → decimal m ≡ word → n ≡ m
  only_parsed E n m h small e = let same : ◌≡◌ {A = Result ℕ E} (Ok n) (Ok m) = parse-decimal {E = E} 64 m word (Ok n)
      (omega arith) (omega arith) (sym e) h in cc

  pub not_printed : (E : Type 0) (n : ℕ) → ParsesUnsigned {E = E} 64 10 word (Ok n)
      → (n < limit → decimal n ≡ word → ⊥) → number_below limit word ≡ None
  not_printed E n h not =
      no_number limit word (λ m small e. let nm : n ≡ m = only_parsed E n m h small e in not (omega arith)
      (ap decimal nm ∙ e))
