-- A script that is read line by line.
use Rattle.std.proofs.Common.{◌≡◌, ◌⊎◌, inl, inr, ℕ, ◌+◌, ◌^◌, ◌<◌, ◌≤◌, List, [], ◌∷◌, ◌++◌, map, length, Some, None}
use Rattle.std.proofs.Common.{Result, Ok, Err, refl, sym, ap, subst, ◌∙◌, arith, append_assoc, length-append}
use Rattle.std.specs.Prelude.{cond, replicate}
use Rattle.std.specs.Option.{option_map, option_and_then}
use Rattle.std.proofs.lemmas.Bool.{cases_lt, le-leb, lt-ltb}
use Rattle.std.proofs.lemmas.List.Sums.{fold_push, sum_by-append}
use Rattle.std.proofs.lemmas.List.{map-append}
use Rattle.std.proofs.lemmas.Grind.{common_steps}
use Rattle.volume_model.specs.declared.command.Command.{Command}
use Rattle.volume_model.specs.Scripts.{commands_in}
use Rattle.script_lang.specs.declared.fault.LineKind.{LineKind}
use Rattle.script_lang.specs.declared.fault.LineKind.TheVariants as kind
use Rattle.script_lang.specs.declared.line.LineRequest.{LineRequest}
use Rattle.script_lang.specs.Commands.{count_of_pages}
use Rattle.script_lang.specs.Lines.{says}
use Rattle.script_lang.specs.Script.{lines, all_ok, pages_of_requests, within_pages, requests_in}
use Rattle.script_lang.specs.Script.{with_request, script_of, reads, wrong_after, wrong_on, IsFirstBad}
use Rattle.script_lang.proofs.Requests.{IsSized}
use Rattle.script_lang.proofs.ScriptLimits.{all_oks, not_lt, stay_many, in_few_lines, none_asked, in_many_lines}
use Rattle.script_lang.proofs.ScriptLimits.{no_script}

-- so many lines before ask for what stands in this script
pub record IsReading (all left : List (List ℕ)) (script : List (List Command)) (number pages : ℕ) : Type 0 where
  pub before : List (List ℕ)
  pub requests : List LineRequest
  pub whole : all ≡ before ++ left
  pub good : map says before ≡ map Ok requests
  pub script_is : script ≡ script_of requests
  pub number_is : number ≡ length before
  pub fits : number ≤ 2 ^ 16
  pub pages_are : pages ≡ pages_of_requests requests
  pub within : pages ≤ 2 ^ 16
  pub room : commands_in script ≤ pages + number
  pub paged : 0 < pages → commands_in script + 1 ≤ pages + number

-- before the first line nothing is asked for
pub begun : (all left : List (List ℕ)) (script : List (List Command)) → left ≡ all
    → script ≡ replicate 16 [] → IsReading all left script 0 0
begun all left script e s = record {
  before = [];
  requests = [];
  whole = sym e;
  good = refl;
  script_is = s;
  number_is = refl;
  fits = omega arith;
  pages_are = refl;
  within = omega arith;
  room = omega (arith, ap commands_in s);
  paged = λ more. absurd (omega arith);
}

-- the numbers after one more request
more_room : (commands number pages len more : ℕ) → (len ≤ 1) ⊎ (len ≡ more) → commands ≤ pages + number
    → (0 < pages → commands + 1 ≤ pages + number)
    → (commands + len ≤ pages + more + (number + 1)) × (0 < pages + more
    → commands + len + 1 ≤ pages + more + (number + 1))
more_room commands number pages len more (inl few) room paged = (
  omega arith,
  λ some. elim (cases_lt 0 pages) [
    | inl lt ↦ let old = paged lt in omega arith
    | inr none ↦ omega arith
  ],
)
more_room commands number pages len more (inr same) room paged = (
  omega arith,
  λ some. elim (cases_lt 0 pages) [
    | inl lt ↦ let old = paged lt in omega arith
    | inr none ↦ omega arith
  ],
)

-- one more at the end of those that are there
shifted : (requests : List LineRequest) (request : LineRequest) (later : List (Result LineRequest LineKind))
    → map Ok requests ++ Ok request ∷ later ≡ map Ok (requests ++ request ∷ []) ++ later
shifted requests request later = sym (append_assoc (map Ok requests) (Ok request ∷ []) later)
    ∙ ap (λ rs. rs ++ later) (sym (map-append Ok requests (request ∷ [])))

module _ (all left : List (List ℕ)) (line : List ℕ) (rest : List (List ℕ))
    (script : List (List Command)) (number pages : ℕ)
    (r : IsReading all left script number pages) (e : left ≡ line ∷ rest) where
  whole_is : all ≡ r.before ++ line ∷ rest
  whole_is = r.whole ∙ ap (λ ls. r.before ++ ls) e

  good_before : requests_in r.before ≡ Some r.requests
  good_before = in_few_lines r.before r.requests (omega (arith, r.number_is, r.fits)) r.good
      (omega (arith, r.pages_are, r.within))

  all_said : map says all ≡ map Ok r.requests ++ says line ∷ map says rest
  all_said = ap (map says) whole_is ∙ map-append says r.before (line ∷ rest)
      ∙ ap (λ cs. cs ++ says line ∷ map says rest) r.good

  first_bad : (text : List ℕ) (kind : LineKind) → length text ≤ 2 ^ 20 → all ≡ lines text
      → wrong_on (number + 1) (pages_of_requests r.requests) line ≡ Some kind
      → IsFirstBad text (number + 1) kind
  first_bad text kind small is wrong = record {
    before = r.before;
    requests = r.requests;
    line = line;
    after = rest;
    small = small;
    lines_are = sym is ∙ whole_is;
    good = good_before;
    bad = wrong;
    number_is = ap (λ n. n + 1) r.number_is;
  }

  -- within the limit of lines the line itself says what is wrong
  wrong_here : number + 1 ≤ 2 ^ 16
      → wrong_on (number + 1) (pages_of_requests r.requests) line
      ≡ wrong_after (pages_of_requests r.requests) (says line)
  wrong_here few = ap (λ b. cond b (Some kind.Limit) (wrong_after (pages_of_requests r.requests) (says line)))
      (not_lt (2 ^ 16) (number + 1) few)

  module _ (request : LineRequest) (said : says line ≡ Ok request) where
    -- one line more, within the limits, adds what it asks for
    pub one_more : (next : List (List Command)) → IsSized request.commands
        → number + 1 ≤ 2 ^ 16 → pages + count_of_pages request.commands ≤ 2 ^ 16
        → next ≡ with_request script request → commands_in next ≡ commands_in script + length request.commands
        → IsReading all rest next (number + 1) (pages + count_of_pages request.commands)
    one_more next sized few within pushed count =
        let numbers = more_room (commands_in script) number pages (length request.commands)
        (count_of_pages request.commands) sized r.room r.paged in
        record {
          before = r.before ++ line ∷ [];
          requests = r.requests ++ request ∷ [];
          whole = whole_is ∙ sym (append_assoc r.before (line ∷ []) rest);
          good = map-append says r.before (line ∷ []) ∙ ap (λ cs. cs ++ says line ∷ []) r.good
              ∙ ap (λ c. map Ok r.requests ++ c ∷ []) said ∙ sym (map-append Ok r.requests (request ∷ []));
          script_is = pushed ∙ ap (λ (s : List (List Command)). with_request s request) r.script_is
              ∙ sym (fold_push with_request (replicate 16 []) r.requests request);
          number_is = omega (arith, r.number_is, length-append r.before (line ∷ []));
          fits = few;
          pages_are = omega (
            arith,
            r.pages_are,
            sum_by-append (λ (q : LineRequest). count_of_pages q.commands) r.requests
                (request ∷ []),
          );
          within = within;
          room = omega (arith, count, numbers.0);
          paged = λ some. let more = numbers.1 some in omega (arith, count);
        }

    -- with this line the pages are too many
    pub too_many_pages : (text : List ℕ) → length text ≤ 2 ^ 20 → all ≡ lines text → number + 1 ≤ 2 ^ 16
        → 2 ^ 16 < pages + count_of_pages request.commands
        → IsFirstBad text (number + 1) kind.Limit × (reads text ≡ None)
    too_many_pages text small is few over =
        let more : 2 ^ 16 < pages_of_requests r.requests + count_of_pages request.commands =
        omega (arith, over, r.pages_are) in
        let limit : wrong_after (pages_of_requests r.requests) (says line) ≡ Some kind.Limit =
        ap (wrong_after (pages_of_requests r.requests)) said
        ∙ ap (λ b. cond b (Some kind.Limit) None)
        (lt-ltb (2 ^ 16) (pages_of_requests r.requests + count_of_pages request.commands) more) in
        let whole : pages_of_requests (r.requests ++ request ∷ [])
        ≡ pages_of_requests r.requests + count_of_pages request.commands =
        omega (arith, sum_by-append (λ (q : LineRequest). count_of_pages q.commands) r.requests (request ∷ [])) in
        let asked : all_ok (map says all) ≡ option_map (λ later. (r.requests ++ request ∷ []) ++ later)
        (all_ok (map says rest)) =
        ap all_ok (all_said ∙ ap (λ c. map Ok r.requests ++ c ∷ map says rest) said
        ∙ shifted r.requests request (map says rest))
        ∙ all_oks (r.requests ++ request ∷ []) (map says rest) in (
          first_bad text kind.Limit small is (wrong_here few ∙ limit),
          no_script text (ap requests_in (sym is)
              ∙ none_asked all (ap (option_and_then within_pages) asked
              ∙ stay_many (r.requests ++ request ∷ []) (all_ok (map says rest))
              (omega (arith, whole, more)))),
        )

  pub bad_line : (text : List ℕ) (kind : LineKind) → length text ≤ 2 ^ 20 → all ≡ lines text → number + 1 ≤ 2 ^ 16
      → says line ≡ Err kind
      → IsFirstBad text (number + 1) kind × (reads text ≡ None)
  bad_line text kind small is few said =
      let asked : all_ok (map says all) ≡ None =
      ap all_ok (all_said ∙ ap (λ c. map Ok r.requests ++ c ∷ map says rest) said)
      ∙ all_oks r.requests (Err kind ∷ map says rest) in (
        first_bad text kind small is (wrong_here few ∙ ap (wrong_after (pages_of_requests r.requests)) said),
        no_script text (ap requests_in (sym is)
            ∙ none_asked all (ap (option_and_then within_pages) asked)),
      )

  pub too_many_lines : (text : List ℕ) → length text ≤ 2 ^ 20 → all ≡ lines text → 2 ^ 16 < number + 1
      → IsFirstBad text (number + 1) kind.Limit × (reads text ≡ None)
  too_many_lines text small is many =
      let long : 2 ^ 16 < length all = omega
      (arith, many, r.number_is, ap length whole_is, length-append r.before (line ∷ rest)) in (
        first_bad text kind.Limit small is
            (ap (λ b. cond b (Some kind.Limit) (wrong_after (pages_of_requests r.requests) (says line)))
            (lt-ltb (2 ^ 16) (number + 1) many)),
        no_script text (ap requests_in (sym is) ∙ in_many_lines all long),
      )

-- after the last line the text is read
pub all_read : (text : List ℕ) (left : List (List ℕ)) (script : List (List Command))
    (number pages : ℕ) → length text ≤ 2 ^ 20
    → IsReading (lines text) left script number pages → left ≡ [] → reads text ≡ Some script
all_read text left script number pages small r e =
    let none : r.before ++ left ≡ r.before = grind (arith, common_steps, e) in
    let asked : requests_in (lines text) ≡ Some r.requests =
    ap requests_in (r.whole ∙ none)
    ∙ in_few_lines r.before r.requests (omega (arith, r.number_is, r.fits)) r.good
    (omega (arith, r.pages_are, r.within)) in
    ap (λ b. cond b (option_map script_of (requests_in (lines text))) None)
    (le-leb (length text) (2 ^ 20) small)
    ∙ ap (option_map script_of) asked
    ∙ ap Some (sym r.script_is)

-- there is room for a request's commands
pub pushed_room : (all left : List (List ℕ)) (script : List (List Command)) {number pages : ℕ}
    → (r : IsReading all left script number pages) → (request : LineRequest) → IsSized request.commands
    → number + 1 ≤ 2 ^ 16 → pages + count_of_pages request.commands ≤ 2 ^ 16
    → commands_in script + length request.commands ≤ 131071
pushed_room all left script {number} {pages} r request sized few within =
    let numbers = more_room (commands_in script) number pages (length request.commands)
    (count_of_pages request.commands) sized r.room r.paged in
    elim (cases_lt 0 (pages + count_of_pages request.commands)) [
      | inl some ↦ let more = numbers.1 some in omega arith
      | inr none ↦ let less = numbers.0 in omega arith
    ]

-- there are fewer commands than lines and pages together may be
pub few_read : (all left : List (List ℕ)) (script : List (List Command)) {number pages : ℕ}
    → IsReading all left script number pages → commands_in script ≤ 131071
few_read all left script {number} {pages} r = elim (cases_lt 0 pages) [
  | inl some ↦ let more = r.paged some in omega (arith, r.fits, r.within, more)
  | inr none ↦ omega (arith, r.room, r.fits, none)
]

-- the same for a number of pages that is the same
pub same_pages : (all left : List (List ℕ)) (script : List (List Command)) (number pages new : ℕ)
    → IsReading all left script number pages → new ≡ pages → IsReading all left script number new
same_pages all left script number pages new r e = subst
    (λ (n : ℕ). IsReading all left script number n) (sym e) r
