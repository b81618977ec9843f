-- Words with one space between any two are a line of these words.
use Rattle.std.proofs.Common.{◌≡◌, ℕ, ◌<◌, ◌^◌, Bool, true, false, ◌&&◌, eqb, List, [], ◌∷◌, ◌++◌, length, refl, ap}
use Rattle.std.proofs.Common.{◌∙◌, decimal, arith}
use Rattle.std.specs.Prelude.{nat_le, nat_lt}
use Rattle.std.specs.List.{All}
use Rattle.std.specs.Str.Parse.{AllDigits}
use Rattle.std.proofs.lemmas.Bool.Decides.{nat_tests}
use Rattle.std.proofs.lemmas.Fmt.{decimal_is_IsNumeral}
use Rattle.std.proofs.lemmas.List.Elements.{All-nil, All-cons, All-head, All-tail}
use Rattle.std.proofs.lemmas.List.Folds.{list_all-append}
use Rattle.std.proofs.lemmas.List.Splits.{slice_split_at, slice_split_none}
use Rattle.std.proofs.lemmas.List.Sums.{AllPass-from_list_all, list_all-from_AllPass}
use Rattle.std.proofs.lemmas.Str.Parse.{digit_from_value}
use Rattle.script_lang.specs.Lines.{words, is_printable, is_spaced, are_words}
use Rattle.script_lang.proofs.Numbers.{both}
use Rattle.script_lang.specs.Words.{is_visible}

-- a word, and further words, with a space before each of these
abbrev pub spaced : List ℕ → List (List ℕ) → List ℕ
spaced word [] = word
spaced word (next ∷ more) = word ++ 32 ∷ spaced next more

-- one byte or more that can be seen
pub record IsWord (word : List ℕ) : Type 0 where
  pub some : nat_lt 0 (length word) ≡ true
  pub visible : is_visible word ≡ true

-- what follows from a property that all have
pub all_of : {X : Type 0} (P Q : X → Type 0) → ((x : X) → P x → Q x) → (xs : List X) → All P xs → All Q xs
all_of P Q f [] all = All-nil Q
all_of P Q f (x ∷ xs) all = All-cons Q x xs (f x (All-head P x xs all)) (all_of P Q f xs (All-tail P x xs all))

visible : ℕ → Bool
visible b = nat_le 33 b && nat_le b 126

no_space : (b : ℕ) → (nat_le 33 b && nat_le b 126) ≡ true → eqb b 32 ≡ false
no_space b e = let t = both (nat_le 33 b) (nat_le b 126) e in grind (arith, nat_tests, t.0)

printable : (b : ℕ) → (nat_le 33 b && nat_le b 126) ≡ true → (nat_le 32 b && nat_le b 126) ≡ true
printable b e =
    let t = both (nat_le 33 b) (nat_le b 126) e in
    let low : nat_le 32 b ≡ true = grind (arith, nat_tests, t.0) in
    rw low t.1

without_space : (word : List ℕ) → IsWord word → All (λ b. eqb b 32 ≡ false) word
without_space word w = all_of _ _ no_space word (AllPass-from_list_all _ word w.visible)

word_printable : (word : List ℕ) → IsWord word → is_printable word ≡ true
word_printable word w =
    list_all-from_AllPass _ word (all_of _ _ printable word (AllPass-from_list_all _ word w.visible))

-- such a line is cut into its words
pub words_are : (word : List ℕ) (more : List (List ℕ)) → IsWord word → All IsWord more
    → words (spaced word more) ≡ word ∷ more
words_are word [] w all = slice_split_none (λ b. eqb b 32) word (without_space word w)
words_are word (next ∷ more) w all =
    slice_split_at (λ b. eqb b 32) word 32 (spaced next more) (without_space word w) refl
    ∙ ap (λ ws. word ∷ ws) (words_are next more (All-head IsWord next more all) (All-tail IsWord next more all))

-- such a line is printable
pub are_printable : (word : List ℕ) (more : List (List ℕ)) → IsWord word → All IsWord more
    → is_printable (spaced word more) ≡ true
are_printable word [] w all = word_printable word w
are_printable word (next ∷ more) w all =
    list_all-append (λ b. nat_le 32 b && nat_le b 126) word (32 ∷ spaced next more)
    ∙ (rw (word_printable word w)
    (are_printable next more (All-head IsWord next more all) (All-tail IsWord next more all)))

all_words : (ws : List (List ℕ)) → All IsWord ws → are_words ws ≡ true
all_words ws all = list_all-from_AllPass (λ word. nat_lt 0 (length word)) ws (all_of IsWord _ (λ word w. w.some) ws all)

-- such a line has one space between any two words, and none at an end
pub are_spaced : (word : List ℕ) (more : List (List ℕ)) → IsWord word → All IsWord more
    → is_spaced (spaced word more) ≡ true
are_spaced word more w all =
    ap are_words (words_are word more w all) ∙ all_words (word ∷ more) (All-cons IsWord word more w all)

digits_visible : (ds : List ℕ) → AllDigits 10 ds → is_visible ds ≡ true
digits_visible [] all = refl
digits_visible (d ∷ ds) all =
    let range = digit_from_value d all.0 in
    let low : nat_le 33 d ≡ true = grind (arith, nat_tests, range) in
    let high : nat_le d 126 ≡ true = grind (arith, nat_tests, range) in
    rw low (rw high (digits_visible ds all.1))

-- the digits of a number can be seen
pub decimal_visible : (n : ℕ) → n < 2 ^ 64 → is_visible (decimal n) ≡ true
decimal_visible n small = digits_visible (decimal n) (decimal_is_IsNumeral n small).0.1

-- a number is a word
pub decimal_word : (n : ℕ) → n < 2 ^ 64 → IsWord (decimal n)
decimal_word n small =
    let some = (decimal_is_IsNumeral n small).0.0 in
    record { some = grind (arith, nat_tests, some); visible = decimal_visible n small }
