-- Lines that each end with an LF are cut at these.
use Rattle.std.proofs.Common.{◌≡◌, ℕ, zero, suc, ◌+◌, ◌-◌, false, cond, eqb, List, [], ◌∷◌, ◌++◌, length, take, map}
use Rattle.std.proofs.Common.{Some, None, refl, sym, ap, ◌∙◌, codes, append_assoc, length-append, arith}
use Rattle.std.specs.Prelude.{slice_index}
use Rattle.std.specs.List.{All, flat_map, range_with_len, slice_split}
use Rattle.std.proofs.Math.Seq.{get_or-append_seam, take-append_seam}
use Rattle.std.proofs.lemmas.Bool.Decides.{nat_tests}
use Rattle.std.proofs.lemmas.List.{append-nil}
use Rattle.std.proofs.lemmas.List.FromFn.{map-range_with_len_more}
use Rattle.std.proofs.lemmas.List.Splits.{slice_split_at, slice_split_none}
use Rattle.script_lang.specs.Parts.{parts}
use Rattle.script_lang.specs.Script.{ended, lines}

flat_map_last : (f : ℕ → List ℕ) (a n : ℕ)
    → flat_map f (range_with_len a (suc n)) ≡ flat_map f (range_with_len a n) ++ f (a + n)
flat_map_last f a zero = let e : a + 0 ≡ a = omega arith in append-nil (f a) ∙ ap f (sym e)
flat_map_last f a (suc n) =
    let e : a + 1 + n ≡ a + suc n = omega arith in
    ap (λ xs. f a ++ xs) (flat_map_last f (a + 1) n) ∙ sym (append_assoc (f a) _ _)
    ∙ ap (λ k. f a ++ flat_map f (range_with_len (a + 1) n) ++ f k) e

-- what the first lines of a text are, and one more
pub one_line_more : (f : ℕ → List ℕ) (n : ℕ)
    → flat_map f (range_with_len 0 (n + 1)) ≡ flat_map f (range_with_len 0 n) ++ f n
one_line_more f n =
    let s : n + 1 ≡ suc n = omega arith in
    let z : 0 + n ≡ n = omega arith in
    ap (λ k. flat_map f (range_with_len 0 k)) s ∙ flat_map_last f 0 n
    ∙ ap (λ k. flat_map f (range_with_len 0 n) ++ f k) z

-- the LF at the end of a text is none that cuts it
ended_push : (text : List ℕ) → ended (text ++ 10 ∷ []) ≡ text
ended_push text =
    let whole : List ℕ = text ++ 10 ∷ [] in
    let n : length whole - 1 ≡ length text = omega (arith, length-append text (10 ∷ [])) in
    let last : slice_index whole (length whole - 1) ≡ 10 =
    ap (slice_index whole) n ∙ get_or-append_seam text 10 [] 0 in
    ap (λ b. cond (eqb b 10) (take (length whole - 1) whole) whole) last
    ∙ ap (λ k. take k whole) n ∙ take-append_seam text (10 ∷ [])

parts_push : (text : List ℕ) → lines (text ++ 10 ∷ []) ≡ slice_split (λ b. eqb b 10) text
parts_push text =
    let n = length-append text (10 ∷ []) in
    let some : eqb (length (text ++ 10 ∷ [])) 0 ≡ false = grind (arith, nat_tests, n) in
    ap (λ b. parts 10 (cond b None (Some (ended (text ++ 10 ∷ []))))) some
    ∙ ap (λ t. parts 10 (Some t)) (ended_push text)

module _ (f : ℕ → List ℕ) (without : (n : ℕ) → All (λ b. eqb b 10 ≡ false) (f n)) where
  cut_lines : (ns : List ℕ) (last : List ℕ) → All (λ b. eqb b 10 ≡ false) last
      → slice_split (λ b. eqb b 10) (flat_map (λ n. f n ++ codes "\n") ns ++ last) ≡ map f ns ++ last ∷ []
  cut_lines [] last all = slice_split_none (λ b. eqb b 10) last all
  cut_lines (n ∷ ns) last all =
      ap (slice_split (λ b. eqb b 10))
      (append_assoc (f n ++ codes "\n") (flat_map (λ n. f n ++ codes "\n") ns) last
      ∙ append_assoc (f n) (codes "\n") (flat_map (λ n. f n ++ codes "\n") ns ++ last))
      ∙ slice_split_at (λ b. eqb b 10) (f n) 10 (flat_map (λ n. f n ++ codes "\n") ns ++ last) (without n) refl
      ∙ ap (λ ps. f n ∷ ps) (cut_lines ns last all)

  -- lines that hold no LF are those of the text in which each ends with one
  pub lines_are : (n : ℕ) → lines (flat_map (λ k. f k ++ codes "\n") (range_with_len 0 n)) ≡ map f (range_with_len 0 n)
  lines_are zero = refl
  lines_are (suc n) =
      let s : suc n ≡ n + 1 = omega arith in
      let before : List ℕ = flat_map (λ k. f k ++ codes "\n") (range_with_len 0 n) in
      ap (λ k. lines (flat_map (λ k. f k ++ codes "\n") (range_with_len 0 k))) s
      ∙ ap lines (one_line_more (λ k. f k ++ codes "\n") n ∙ sym (append_assoc before (f n) (codes "\n")))
      ∙ parts_push (before ++ f n)
      ∙ cut_lines (range_with_len 0 n) (f n) (without n)
      ∙ sym (map-range_with_len_more f 0 n n (omega arith))
      ∙ ap (λ k. map f (range_with_len 0 k)) (sym s)
