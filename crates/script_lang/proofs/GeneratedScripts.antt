-- A generated text is a script, as far as it isn't too long.
use Rattle.std.proofs.Common.{◌≡◌, ℕ, ◌+◌, ◌*◌, ◌<◌, ◌≤◌, ◌^◌, true, false, ◌&&◌, cond, eqb, List, [], ◌∷◌, ◌++◌}
use Rattle.std.proofs.Common.{length, map, Some, None, Ok, refl, sym, ap, ◌∙◌, codes, decimal, append_assoc}
use Rattle.std.proofs.Common.{length-append, arith}
use Rattle.std.specs.Prelude.{nat_le, replicate}
use Rattle.std.specs.List.{All, flat_map, range_with_len}
use Rattle.std.specs.Option.{option_map}
use Rattle.std.proofs.lemmas.Bool.{le-leb}
use Rattle.std.proofs.lemmas.Bool.Decides.{nat_tests}
use Rattle.std.proofs.lemmas.Fmt.{length-decimal-le}
use Rattle.std.proofs.lemmas.List.{length-map}
use Rattle.std.proofs.lemmas.List.FromFn.{length-range_with_len, map-range_with_len_more}
use Rattle.std.proofs.lemmas.List.Sums.{AllPass-from_list_all, fold_push, sum_by-append}
use Rattle.volume_model.specs.declared.command.Command.{Command}
use Rattle.script_lang.specs.declared.generated.GeneratedCommand.{GeneratedCommand}
use Rattle.script_lang.specs.declared.generated.GeneratedCommand.TheVariants.{Create, Write, Read, Flush, Put}
use Rattle.script_lang.specs.declared.line.LineRequest.{LineRequest}
use Rattle.script_lang.specs.Commands.{count_of_pages}
use Rattle.script_lang.specs.Generated.{AreDrawn, generated_line, text_of, words_of, generated_command, request_of}
use Rattle.script_lang.specs.Generated.{generated_lines, generated_requests}
use Rattle.script_lang.specs.Lines.{says}
use Rattle.script_lang.specs.Script.{lines, pages_of_requests, requests_in, script_of, reads, with_request}
use Rattle.script_lang.proofs.ScriptLimits.{in_few_lines}
use Rattle.script_lang.proofs.EndedLines.{lines_are, one_line_more}
use Rattle.script_lang.proofs.GeneratedSays.{line_said, line_printable, small_line}
use Rattle.script_lang.proofs.Numbers.{both}
use Rattle.script_lang.proofs.SpacedWords.{all_of}

no_end : (b : ℕ) → (nat_le 32 b && nat_le b 126) ≡ true → eqb b 10 ≡ false
no_end b e = let t = both (nat_le 32 b) (nat_le b 126) e in grind (arith, nat_tests, t.0)

without_end : (number line : ℕ) → All (λ b. eqb b 10 ≡ false) (text_of (generated_line number line))
without_end number line = all_of _ _ no_end (text_of (generated_line number line))
    (AllPass-from_list_all _ (text_of (generated_line number line)) (line_printable number line))

generated_lines_are : (number n : ℕ)
    → lines (generated_lines number n) ≡ map (λ line. text_of (generated_line number line)) (range_with_len 0 n)
generated_lines_are number n = lines_are (λ line. text_of (generated_line number line)) (without_end number) n

all_said : (number : ℕ) (ns : List ℕ) → map says (map (λ line. text_of (generated_line number line)) ns)
    ≡ map Ok (map (λ line. request_of (generated_line number line)) ns)
all_said number [] = refl
all_said number (n ∷ ns) =
    ap (λ said. said ∷ map says (map (λ line. text_of (generated_line number line)) ns)) (line_said number n)
    ∙ ap (λ later. Ok (request_of (generated_line number n)) ∷ later) (all_said number ns)

one_page : (command : GeneratedCommand) → count_of_pages (generated_command command ∷ []) ≤ 1
one_page (Create volume) = omega arith
one_page (Write volume page word) = omega arith
one_page (Read volume page) = omega arith
one_page Flush = omega arith
one_page (Put volume value) = omega arith

few_pages : (number : ℕ) (ns : List ℕ)
    → pages_of_requests (map (λ line. request_of (generated_line number line)) ns) ≤ length ns
few_pages number [] = omega arith
few_pages number (n ∷ ns) =
    let more : List LineRequest = map (λ line. request_of (generated_line number line)) ns in
    omega (
      arith,
      one_page (generated_line number n).command,
      few_pages number ns,
      sum_by-append (λ (q : LineRequest). count_of_pages q.commands) (request_of (generated_line number n) ∷ []) more,
    )

-- each of at most 65,536 generated lines is of the grammar, and they read and write at most 65,536 pages
pub lines_said : (number n : ℕ) → n ≤ 2 ^ 16
    → requests_in (lines (generated_lines number n)) ≡ Some (generated_requests number n)
lines_said number n few =
    let ns : List ℕ = range_with_len 0 n in
    ap requests_in (generated_lines_are number n)
    ∙ in_few_lines (map (λ line. text_of (generated_line number line)) ns) (generated_requests number n)
    (omega (arith, few, length-map ns (λ line. text_of (generated_line number line)), length-range_with_len 0 n))
    (all_said number ns)
    (omega (arith, few, few_pages number ns, length-range_with_len 0 n))

-- such a text of at most 1,048,576 bytes is a script
pub text_read : (number n : ℕ) → n ≤ 2 ^ 16 → length (generated_lines number n) ≤ 2 ^ 20
    → reads (generated_lines number n) ≡ Some (script_of (generated_requests number n))
text_read number n few short =
    ap (λ b. cond b (option_map script_of (requests_in (lines (generated_lines number n)))) None)
    (le-leb (length (generated_lines number n)) (2 ^ 20) short)
    ∙ ap (option_map script_of) (lines_said number n few)

-- the text of one line more
pub one_text_more : (number n new_number line : ℕ) (text new : List ℕ) → text ≡ generated_lines number n
    → new_number ≡ number → line ≡ n → new ≡ text ++ text_of (generated_line new_number line) ++ codes "\n"
    → new ≡ generated_lines number (n + 1)
one_text_more number n new_number line text new before same at after =
    after ∙ append_assoc text _ _
    ∙ ap (λ t. t ++ (text_of (generated_line new_number line) ++ codes "\n")) before
    ∙ ap (λ k. generated_lines number n ++ (text_of (generated_line k line) ++ codes "\n")) same
    ∙ ap (λ k. generated_lines number n ++ (text_of (generated_line number k) ++ codes "\n")) at
    ∙ sym (one_line_more (λ k. text_of (generated_line number k) ++ codes "\n") n)

-- the script of one line more
pub one_request_more : (number n new_number line : ℕ) (script new : List (List Command))
    → script ≡ script_of (generated_requests number n) → new_number ≡ number → line ≡ n
    → new ≡ with_request script (request_of (generated_line new_number line))
    → new ≡ script_of (generated_requests number (n + 1))
one_request_more number n new_number line script new before same at after =
    after
    ∙ ap (λ (s : List (List Command)). with_request s (request_of (generated_line new_number line))) before
    ∙ ap (λ k. with_request (script_of (generated_requests number n)) (request_of (generated_line k line))) same
    ∙ ap (λ k. with_request (script_of (generated_requests number n)) (request_of (generated_line number k))) at
    ∙ sym
    (fold_push with_request (replicate 16 []) (generated_requests number n) (request_of (generated_line number n)))
    ∙ ap script_of (sym (map-range_with_len_more (λ k. request_of (generated_line number k)) 0 n n (omega arith)))

digits_one : (n : ℕ) → n < 10 → length (decimal n) ≤ 1
digits_one n lt = length-decimal-le 1 n (omega arith) (omega arith) (omega arith)

digits_two : (n : ℕ) → n < 100 → length (decimal n) ≤ 2
digits_two n lt = length-decimal-le 2 n (omega arith) (omega arith) (omega arith)

words_short : (command : GeneratedCommand) → AreDrawn command → length (words_of command) ≤ 20
words_short (Create volume) d =
    omega (arith, length-append (decimal volume) (codes " 8 thin"), digits_one volume (omega arith))
words_short (Write volume page word) d =
    let first : List ℕ = decimal volume ++ codes " " in
    omega (
      arith,
      length-append (first ++ decimal page ++ codes " 1 ") (decimal word),
      length-append (first ++ decimal page) (codes " 1 "),
      length-append first (decimal page),
      length-append (decimal volume) (codes " "),
      digits_one volume (omega (arith, d.0)),
      digits_two page (omega (arith, d.1)),
      length-decimal-le 5 word (omega arith) (omega (arith, d.2)) (omega (arith, d.2)),
    )
words_short (Read volume page) d =
    let first : List ℕ = decimal volume ++ codes " " in
    omega (
      arith,
      length-append (first ++ decimal page) (codes " 1"),
      length-append first (decimal page),
      length-append (decimal volume) (codes " "),
      digits_one volume (omega (arith, d.0)),
      digits_two page (omega (arith, d.1)),
    )
words_short Flush d = omega arith
words_short (Put volume value) d =
    omega (
      arith,
      length-append (decimal volume ++ codes " k t:") (decimal value),
      length-append (decimal volume) (codes " k t:"),
      digits_one volume (omega (arith, d.0)),
      length-decimal-le 3 value (omega arith) (omega (arith, d.1)) (omega (arith, d.1)),
    )

line_short : (number line : ℕ) → length (text_of (generated_line number line)) ≤ 21
line_short number line =
    let small = small_line number line in
    omega (
      arith,
      length-append (decimal (generated_line number line).channel) (words_of (generated_line number line).command),
      digits_one (generated_line number line).channel (omega (arith, small.channel)),
      words_short (generated_line number line).command small.command,
    )

all_short : (number : ℕ) (ns : List ℕ)
    → length (flat_map (λ line. text_of (generated_line number line) ++ codes "\n") ns) ≤ 22 * length ns
all_short number [] = omega arith
all_short number (n ∷ ns) =
    omega (
      arith,
      length-append (text_of (generated_line number n) ++ codes "\n")
          (flat_map (λ line. text_of (generated_line number line) ++ codes "\n") ns),
      length-append (text_of (generated_line number n)) (codes "\n"),
      line_short number n,
      all_short number ns,
    )

-- a line has at most 22 bytes with its LF
pub text_short : (number n : ℕ) → length (generated_lines number n) ≤ 22 * n
text_short number n = omega (arith, all_short number (range_with_len 0 n), length-range_with_len 0 n)
