-- The text of a generated script, line by line.
use Rattle.std.proofs.Common.{◌≡◌, ℕ, ◌+◌, ◌-◌, ◌≤◌, ◌<◌, zero, suc, List, [], ◌∷◌, ◌++◌, sym, ap, ◌∙◌, arith}
use Rattle.std.proofs.Common.{append_assoc}
use Rattle.std.specs.Prelude.{codes}
use Rattle.std.specs.List.{flat_map, range_with_len}
use Rattle.std.proofs.lemmas.Grind.{flat_map-append}
use Rattle.std.proofs.lemmas.List.{append-nil}
use Rattle.script_lang.specs.Generated.{generated_line, generated_lines, text_of}
use Rattle.streams.specs.Printing.{IsPartOf}

-- the numbers of a range are those of its beginning and then the others
range_split : (a n k : ℕ) → range_with_len a (n + k) ≡ range_with_len a n ++ range_with_len (a + n) k
range_split a zero k =
    let z : 0 + k ≡ k = omega arith in
    let e : a ≡ a + 0 = omega arith in
    ap (range_with_len a) z ∙ ap (λ m. range_with_len m k) e
range_split a (suc n) k =
    let s : suc n + k ≡ suc (n + k) = omega arith in
    let e : a + 1 + n ≡ a + suc n = omega arith in
    ap (range_with_len a) s
    ∙ ap (λ xs. a ∷ xs) (range_split (a + 1) n k ∙ ap (λ m. range_with_len (a + 1) n ++ range_with_len m k) e)

-- the text of a line, with its LF
abbrev pub line_text : ℕ → ℕ → List ℕ
line_text number line = text_of (generated_line number line) ++ codes "\n"

-- what a generator appended to an empty text is that of its line
pub line_is : (number n its_number its_line : ℕ) (before text slice : List ℕ) → before ≡ []
    → text ≡ before ++ text_of (generated_line its_number its_line) ++ codes "\n" → slice ≡ text
    → its_number ≡ number → its_line ≡ n → slice ≡ line_text number n
line_is number n its_number its_line before text slice none is same of at =
    same ∙ is ∙ ap (λ b. b ++ text_of (generated_line its_number its_line) ++ codes "\n") none
    ∙ ap (λ m. line_text m its_line) of ∙ ap (line_text number) at

-- the text of some lines, and then of the others
lines_split : (number n k : ℕ)
    → generated_lines number (n + k) ≡ generated_lines number n ++ flat_map (line_text number) (range_with_len n k)
lines_split number n k =
    let e : 0 + n ≡ n = omega arith in
    ap (flat_map (line_text number)) (range_split 0 n k ∙ ap (λ m. range_with_len 0 n ++ range_with_len m k) e)
    ∙ flat_map-append (line_text number) (range_with_len 0 n) (range_with_len n k)

module _ (number n all : ℕ) (le : n ≤ all) where
  abbrev rest : List ℕ
  rest = flat_map (line_text number) (range_with_len n (all - n))

  whole : generated_lines number all ≡ generated_lines number n ++ rest
  whole =
      let e : all ≡ n + (all - n) = omega (arith, le) in
      ap (generated_lines number) e ∙ lines_split number n (all - n)

  -- where the first lines are printed, a part of the text is printed
  pub part_before : (before now : List ℕ) → now ≡ before ++ generated_lines number n
      → IsPartOf before now (generated_lines number all)
  part_before before now is =
      record { part = generated_lines number n; rest = rest; whole_is = whole; after_is = is }

module _ (number n all : ℕ) (lt : n < all) where
  abbrev behind : List ℕ
  behind = flat_map (line_text number) (range_with_len (n + 1) (all - (n + 1)))

  next : generated_lines number all ≡ generated_lines number n ++ (line_text number n ++ behind)
  next =
      let e : all ≡ n + suc (all - (n + 1)) = omega (arith, lt) in
      ap (generated_lines number) e ∙ lines_split number n (suc (all - (n + 1)))

  -- where a part of the next line is printed behind the first lines, a part of the text is printed
  pub part_of_line : (before between now line : List ℕ) → line ≡ line_text number n
      → between ≡ before ++ generated_lines number n → IsPartOf between now line
      → IsPartOf before now (generated_lines number all)
  part_of_line before between now line is done part = record {
    part = generated_lines number n ++ part.part;
    rest = part.rest ++ behind;
    whole_is =
        next ∙ ap (λ text. generated_lines number n ++ (text ++ behind)) (sym is ∙ part.whole_is)
        ∙ ap (λ text. generated_lines number n ++ text) (append_assoc part.part part.rest behind)
        ∙ sym (append_assoc (generated_lines number n) part.part (part.rest ++ behind));
    after_is = part.after_is ∙ ap (λ text. text ++ part.part) done
        ∙ append_assoc before (generated_lines number n) part.part;
  }

-- where the next line is printed behind the first ones, these and the line are printed
pub with_line : (number n : ℕ) (before between now line : List ℕ) → line ≡ line_text number n
    → between ≡ before ++ generated_lines number n → now ≡ between ++ line
    → now ≡ before ++ generated_lines number (n + 1)
with_line number n before between now line is done more =
    more ∙ ap (λ text. between ++ text) is ∙ ap (λ text. text ++ line_text number n) done
    ∙ append_assoc before (generated_lines number n) (line_text number n)
    ∙ ap (λ text. before ++ text)
    (sym (lines_split number n 1 ∙ ap (λ text. generated_lines number n ++ text) (append-nil (line_text number n))))
