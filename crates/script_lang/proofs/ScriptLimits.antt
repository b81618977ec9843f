-- What lines ask for within the limits on lines and pages, and beyond them.
use Rattle.std.proofs.Common.{◌≡◌, ℕ, ◌^◌, ◌<◌, ◌≤◌, List, [], ◌∷◌, ◌++◌, map, length, Option, Some, None, Result, Ok}
use Rattle.std.proofs.Common.{true, false, Bool, refl, ap, ◌∙◌, arith}
use Rattle.std.specs.Prelude.{nat_le, nat_lt, cond}
use Rattle.std.specs.Option.{option_map, option_and_then}
use Rattle.std.proofs.lemmas.Bool.{le-leb}
use Rattle.std.proofs.lemmas.Bool.Decides.{nat_tests}
use Rattle.std.proofs.lemmas.List.Sums.{sum_by-append}
use Rattle.script_lang.specs.declared.fault.LineKind.{LineKind}
use Rattle.script_lang.specs.declared.line.LineRequest.{LineRequest}
use Rattle.script_lang.specs.Commands.{count_of_pages}
use Rattle.script_lang.specs.Lines.{says}
use Rattle.script_lang.specs.Script.{lines, all_ok, pages_of_requests, within_pages, requests_in, script_of, reads}

mapped_none : (o : Option (List LineRequest)) → o ≡ option_map (λ more. more) o
mapped_none None = refl
mapped_none (Some x) = refl

mapped_twice : (request : LineRequest) (requests : List LineRequest) (o : Option (List LineRequest))
    → option_map (λ ys. request ∷ ys) (option_map (λ more. requests ++ more) o) ≡ option_map
    (λ more. request ∷ (requests ++ more)) o
mapped_twice request requests None = refl
mapped_twice request requests (Some x) = refl

-- lines that all ask for something
pub all_oks : (requests : List LineRequest) (later : List (Result LineRequest LineKind))
    → all_ok (map Ok requests ++ later) ≡ option_map (λ more. requests ++ more) (all_ok later)
all_oks [] later = mapped_none (all_ok later)
all_oks (request ∷ requests) later = ap (option_map (λ ys. request ∷ ys)) (all_oks requests later)
    ∙ mapped_twice request requests (all_ok later)

just_oks : (requests : List LineRequest) → all_ok (map Ok requests) ≡ Some requests
just_oks [] = refl
just_oks (request ∷ requests) = ap (option_map (λ ys. request ∷ ys)) (just_oks requests)

not_le : (a b : ℕ) → b < a → nat_le a b ≡ false
not_le a b h = grind (arith, nat_tests, h)

-- what a comparison says, as its value
pub not_lt : (a b : ℕ) → b ≤ a → nat_lt a b ≡ false
not_lt a b h = grind (arith, nat_tests, h)

few_pages : (requests : List LineRequest) → pages_of_requests requests ≤ 2 ^ 16 → within_pages requests ≡ Some requests
few_pages requests few = ap (λ b. cond b (Some requests) None) (le-leb (pages_of_requests requests) (2 ^ 16) few)

many_pages : (requests : List LineRequest) → 2 ^ 16 < pages_of_requests requests → within_pages requests ≡ None
many_pages requests many = ap (λ b. cond b (Some requests) None) (not_le (pages_of_requests requests) (2 ^ 16) many)

-- once the pages are too many, they stay so
pub stay_many : (requests : List LineRequest) (o : Option (List LineRequest)) → 2 ^ 16 < pages_of_requests requests
    → option_and_then within_pages (option_map (λ more. requests ++ more) o) ≡ None
stay_many requests None many = refl
stay_many requests (Some more) many = many_pages (requests ++ more)
    (omega (arith, many, sum_by-append (λ (q : LineRequest). count_of_pages q.commands) requests more))

-- within both limits, lines that all ask for something ask for this
pub in_few_lines : (ls : List (List ℕ)) (requests : List LineRequest) → length ls ≤ 2 ^ 16
    → map says ls ≡ map Ok requests → pages_of_requests requests ≤ 2 ^ 16
    → requests_in ls ≡ Some requests
unfolding requests_in
in_few_lines ls requests few good within =
    ap (λ b. cond b (option_and_then within_pages (all_ok (map says ls))) None)
    (le-leb (length ls) (2 ^ 16) few)
    ∙ ap (λ rs. option_and_then within_pages (all_ok rs)) good
    ∙ ap (option_and_then within_pages) (just_oks requests)
    ∙ few_pages requests within

none_chosen : {X : Type 0} (b : Bool) (o : Option X) → o ≡ None → cond b o None ≡ None
none_chosen true o e = e
none_chosen false o e = refl

-- lines of which one asks for nothing, or that ask for too many pages, are no script
pub none_asked : (ls : List (List ℕ))
    → option_and_then within_pages (all_ok (map says ls)) ≡ None → requests_in ls ≡ None
unfolding requests_in
none_asked ls e = none_chosen (nat_le (length ls) (2 ^ 16)) _ e

-- too many lines are no script
pub in_many_lines : (ls : List (List ℕ)) → 2 ^ 16 < length ls → requests_in ls ≡ None
unfolding requests_in
in_many_lines ls many = ap (λ b. cond b (option_and_then within_pages (all_ok (map says ls))) None)
    (not_le (length ls) (2 ^ 16) many)

-- a text is no script if its lines are none
pub no_script : (text : List ℕ) → requests_in (lines text) ≡ None → reads text ≡ None
no_script text e = none_chosen (nat_le (length text) (2 ^ 20)) _ (ap (option_map script_of) e)
