-- The words that `clap` takes are a command, and no others are.
use Rattle.std.proofs.Common.{◌≡◌, ◌∙◌, ◌⊎◌, ◌&&◌, ◌||◌, Bool, true, false, not, if◌then◌else◌, List, [], ◌∷◌, map}
use Rattle.std.proofs.Common.{Option}
use Rattle.std.proofs.Common.{Some, None, option_map, is_some, refl, sym, ap, subst, inl, inr}
use Rattle.std.specs.Prelude.{◌↔◌, codes, find, IsSome, option_and_then, String, string_bytes}
use Rattle.std.specs.List.{list_any}
use Rattle.std.specs.Option.{option_map_or}
use Rattle.std.specs.Str.{bytes_eq}
use Rattle.std.specs.declared.alloc.Global.{Global}
use Rattle.std.proofs.lemmas.Slice.Eq.{bytes_eq-Decides}
use Rattle.clap.specs.Facts.{explicit_source}
use Rattle.clap.specs.Faults.{check_fault, defaults_fault, entered_fault, fault_of, level_fault, settle_fault}
use Rattle.clap.specs.Faults.{walk_fault}
use Rattle.clap.specs.Kinds.{check_kinds, Kinds, or_else}
use Rattle.clap.specs.Simple.{App, built, built_leaf, entered, inherited, label_of, marked_built, names_of}
use Rattle.clap.specs.Simple.{rows_at, Shape, subcommand_of, with_leaf_noted}
use Rattle.clap.specs.Takes.{is_given}
use Rattle.clap.specs.Walk.{answers_to, first_of, nothing_held, Row, rows_after, settled, stop_after, Text, walk}
use Rattle.clap.specs.Walk.{Rule, walk_from}
use Rattle.command_words.specs.CommandLine.{command_line, exercise_line, export_line, format_line, generate_line}
use Rattle.command_words.specs.CommandLine.{list_line, run_line}
use Rattle.command_words.specs.Words.{as_read, asked_by, asked_in, refusal_of, unless_refused}
use Rattle.command_words.specs.Words.{exercise, export, format, generate, has_flag, list, options_by, run, Asked}
use Rattle.command_words.specs.declared.reading.CommandWords.{CommandWords}
use Rattle.command_words.proofs.FullLevels.{full-level}
use Rattle.command_words.proofs.FullRows.{both_none, given-first}
use Rattle.command_words.proofs.FullWords.{AllReady, asks_help, is_flag, takes_one}
use Rattle.command_words.proofs.Stops.{StopsAtNoHelp, stops_at_no_help}

is_some-map : {X Y : Type 0} (f : X → Y) (o : Option X) → is_some (option_map f o) ≡ is_some o
is_some-map f None = refl
is_some-map f (Some x) = refl

is_some-both : {X Y Z : Type 0} (f : X → Y → Z) (a : Option X) (b : Option Y) → is_some a ≡ true → is_some b ≡ true
    → is_some (option_and_then (λ x. option_map (f x) b) a) ≡ true
is_some-both f None b has more = cc has
is_some-both f (Some x) b has more = is_some-map (f x) b ∙ more

is_some-three : {W X Y Z : Type 0} (f : W → X → Y → Z) (a : Option W) (b : Option X) (c : Option Y)
    → is_some a ≡ true → is_some b ≡ true → is_some c ≡ true
    → is_some (option_and_then (λ w. option_and_then (λ x. option_map (f w x) c) b) a) ≡ true
is_some-three f None b c has more most = cc has
is_some-three f (Some w) b c has more most = is_some-both (f w) b c more most

-- ---- the last checks

given_from : (given more : Bool) → (not given || more) ≡ false → given ≡ true
given_from true more none = refl
given_from false more none = cc none

more_from : (given more : Bool) → (not given || more) ≡ false → more ≡ false
more_from true more none = none
more_from false more none = cc none

none_lacks : (lacks : Bool) → check_kinds false false lacks ≡ [] → lacks ≡ false
none_lacks true none = cc none
none_lacks false none = refl

has_from : (has empty lacks : Bool) → check_kinds (not has && empty) (not has && true) lacks ≡ [] → has ≡ true
has_from true empty lacks none = refl
has_from false true lacks none = cc none
has_from false false lacks none = cc none

-- ---- the subcommands, as `clap` builds them

abbrev line : App
line = built command_line

-- a subcommand with what it takes over from the command above it
abbrev leaf : Shape → Shape
leaf s = built_leaf (inherited (with_leaf_noted (marked_built command_line.top)) s)

-- the first that passes a test is one of them
abbrev Among : (Shape → Bool) → Shape → List Shape → Type 0
Among test s [] = ⊥
Among test s (x ∷ xs) = ((x ≡ s) × (test x ≡ true)) ⊎ Among test s xs

found-Among : (test : Shape → Bool) (xs : List Shape) (s : Shape) → find test xs ≡ Some s → Among test s xs
found-Among test [] s is = cc is
found-Among test (x ∷ xs) s is =
    (elim (test x) as (λ b. (if b then Some x else find test xs) ≡ Some s
    → ((x ≡ s) × (b ≡ true)) ⊎ Among test s xs) [
      | true ↦ λ e. let same : x ≡ s = cc e in inl (same, refl)
      | false ↦ λ e. inr (found-Among test xs s e)
    ]) is

-- the words behind it, where they are without error, are a command
abbrev IsTaken : List Text → Shape → Type 0
IsTaken words s = level_fault s [] nothing_held words false [] ≡ []
    → is_some (asked_by s.name (rows_after s.rules [] words)) ≡ true

module _ (words : List Text) where
  -- one that has to have an image, and nothing else
  image_given : (s : Shape) → AllReady s.rules
      → ((rows : List Row) → check_fault s rows false
      ≡ check_kinds false false (not (is_given (codes "IMAGE") rows) || false))
      → level_fault s [] nothing_held words false [] ≡ []
      → is_some (first_of (codes "IMAGE") (rows_after s.rules [] words)) ≡ true
  image_given s ready checks none =
      let rows = rows_after s.rules [] words in
      let level = full-level s ready [] words false [] none in
      let lacks = none_lacks (not (is_given (codes "IMAGE") rows) || false) (sym (checks rows) ∙ level.1) in
      given-first (codes "IMAGE") rows level.0 (given_from (is_given (codes "IMAGE") rows) false lacks)

  run_taken : IsTaken words (leaf run_line)
  run_taken none =
      let rows = rows_after (leaf run_line).rules [] words in
      is_some-map (λ image. run image (first_of (codes "schedule") rows) (has_flag (codes "threads") rows))
      (first_of (codes "IMAGE") rows)
      ∙ image_given (leaf run_line) (
        takes_one refl refl,
        (takes_one refl refl, (is_flag refl (codes "true") refl, (asks_help refl, tt))),
      ) (λ r. refl) none

  format_taken : IsTaken words (leaf format_line)
  format_taken none =
      let rows = rows_after (leaf format_line).rules [] words in
      is_some-map (λ image. format image (options_by rows)) (first_of (codes "IMAGE") rows)
      ∙ image_given (leaf format_line) (
        takes_one refl refl,
        (takes_one refl refl, (takes_one refl refl, (takes_one refl refl, (takes_one refl refl, (asks_help refl, tt))))),
      ) (λ r. refl) none

  list_taken : IsTaken words (leaf list_line)
  list_taken none =
      let rows = rows_after (leaf list_line).rules [] words in
      is_some-map (λ image. list image (has_flag (codes "json") rows) (has_flag (codes "tree") rows))
      (first_of (codes "IMAGE") rows)
      ∙ image_given (leaf list_line) (
        takes_one refl refl,
        (is_flag refl (codes "true") refl, (is_flag refl (codes "true") refl, (asks_help refl, tt))),
      ) (λ r. refl) none

  generate_taken : IsTaken words (leaf generate_line)
  generate_taken none =
      let rows = rows_after (leaf generate_line).rules [] words in
      let number = is_given (codes "NUMBER") rows in
      let size = is_given (codes "SIZE") rows in
      let level = full-level (leaf generate_line)
      (takes_one refl refl, (takes_one refl refl, (asks_help refl, tt))) [] words false [] none in
      let lacks = none_lacks (not number || (not size || false)) level.1 in
      is_some-both generate (first_of (codes "NUMBER") rows) (first_of (codes "SIZE") rows)
      (given-first (codes "NUMBER") rows level.0 (given_from number (not size || false) lacks))
      (given-first (codes "SIZE") rows level.0 (given_from size false (more_from number (not size || false) lacks)))

  -- one that has to have these three arguments, and nothing else
  three_given : (f : Text → Text → Text → Asked) (a b c : Text) (s : Shape) → AllReady s.rules
      → ((rows : List Row) → check_fault s rows false ≡ check_kinds false false
      (not (is_given a rows) || (not (is_given b rows) || (not (is_given c rows) || false))))
      → level_fault s [] nothing_held words false [] ≡ []
      → (let rows = rows_after s.rules [] words in
      is_some (option_and_then (λ x. option_and_then (λ y. option_map (f x y) (first_of c rows)) (first_of b rows))
      (first_of a rows)) ≡ true)
  three_given f a b c s ready checks none =
      let rows = rows_after s.rules [] words in
      let first = is_given a rows in
      let second = is_given b rows in
      let third = is_given c rows in
      let level = full-level s ready [] words false [] none in
      let lacks = none_lacks (not first || (not second || (not third || false))) (sym (checks rows) ∙ level.1) in
      let others = more_from first (not second || (not third || false)) lacks in
      is_some-three f (first_of a rows) (first_of b rows) (first_of c rows)
      (given-first a rows level.0 (given_from first (not second || (not third || false)) lacks))
      (given-first b rows level.0 (given_from second (not third || false) others))
      (given-first c rows level.0 (given_from third false (more_from second (not third || false) others)))

  export_taken : IsTaken words (leaf export_line)
  export_taken none =
      three_given export (codes "IMAGE") (codes "TARGET") (codes "VOLUME") (leaf export_line)
      (takes_one refl refl, (takes_one refl refl, (takes_one refl refl, (asks_help refl, tt)))) (λ rows. refl) none

  exercise_taken : IsTaken words (leaf exercise_line)
  exercise_taken none =
      three_given exercise (codes "IMAGE") (codes "NUMBER") (codes "SIZE") (leaf exercise_line)
      (takes_one refl refl, (takes_one refl refl, (takes_one refl refl, (asks_help refl, tt)))) (λ rows. refl) none

or_false : (b : Bool) → (b || false) ≡ true → b ≡ true
or_false true is = refl
or_false false is = cc is

-- ---- the whole line

abbrev command_at : Option (Text × List Row) → Option Asked
command_at = option_and_then (λ found. asked_by found.0 found.1)

module _ (p : Text × List Text) (no_help : (bytes_eq p.0 (codes "help") && true) ≡ false) where
  abbrev answers : Shape → Bool
  answers s = answers_to p.0 (label_of s)

  among_taken : (s : Shape) → Among answers s line.subs → level_fault s [] nothing_held p.1 false [] ≡ []
      → is_some (asked_by s.name (rows_after s.rules [] p.1)) ≡ true
  among_taken s (inl is) none = subst (IsTaken p.1) is.0 (run_taken p.1) none
  among_taken s (inr (inl is)) none = subst (IsTaken p.1) is.0 (format_taken p.1) none
  among_taken s (inr (inr (inl is))) none = subst (IsTaken p.1) is.0 (list_taken p.1) none
  among_taken s (inr (inr (inr (inl is)))) none = subst (IsTaken p.1) is.0 (export_taken p.1) none
  among_taken s (inr (inr (inr (inr (inl is))))) none = subst (IsTaken p.1) is.0 (generate_taken p.1) none
  among_taken s (inr (inr (inr (inr (inr (inl is)))))) none = subst (IsTaken p.1) is.0 (exercise_taken p.1) none
  among_taken s (inr (inr (inr (inr (inr (inr (inl is))))))) none =
      let help = (bytes_eq-Decides (codes "help") p.0).0 (or_false (bytes_eq (codes "help") p.0) is.1) in
      let bad = subst (λ (name : Text). (bytes_eq name (codes "help") && true) ≡ false) (sym help) no_help in cc bad
  among_taken s (inr (inr (inr (inr (inr (inr (inr never))))))) none = absurd never

  shape_taken : (found : Option Shape) → ((s : Shape) → found ≡ Some s → Among answers s line.subs)
      → option_map_or (λ s. level_fault s [] nothing_held p.1 false []) found [] ≡ []
      → is_some (option_map (λ s. rows_at s p.1) found) ≡ true
      → is_some (command_at (option_map (λ s. rows_at s p.1) found)) ≡ true
  shape_taken None among none has = cc has
  shape_taken (Some s) among none has = among_taken s (among s refl) none

stop_taken : (stop : Option (Text × List Text)) → StopsAtNoHelp line.top (names_of line) stop
    → entered_fault line stop ≡ [] → is_some (entered line stop) ≡ true → is_some (command_at (entered line stop))
    ≡ true
stop_taken None no_help none has = cc has
stop_taken (Some p) no_help none has =
    let answers = λ (s : Shape). answers_to p.0 (label_of s) in
    shape_taken p (no_help p.0 refl) (find answers line.subs) (λ s is. found-Among answers line.subs s is) none has

line_taken : (words : List Text) → fault_of command_line words ≡ []
    → is_some (command_at (subcommand_of command_line words)) ≡ true
line_taken words none =
    let stop = stop_after line.top.rules (names_of line) words in
    let has = is_some (entered line stop) in
    let end = (walk line.top.rules (names_of line) nothing_held words).held in
    let rows = rows_after line.top.rules (names_of line) words in
    let last = check_fault line.top rows has in
    let defaults = defaults_fault (settled line.top.rules end).rows line.top.rules in
    let settles = settle_fault line.top.rules line.top.args_override_self end in
    let walks = walk_fault line.top (names_of line) (walk_from nothing_held) words in
    let below = entered_fault line stop in
    let a = both_none walks (or_else below (or_else settles (or_else defaults last))) none in
    let b = both_none below (or_else settles (or_else defaults last)) a.1 in
    let d = both_none settles (or_else defaults last) b.1 in
    let e = both_none defaults last d.1 in
    stop_taken stop (stops_at_no_help line.top (names_of line) words a.0) b.0
    (has_from has (not (list_any (λ r. explicit_source r.source) rows))
    (not (line.top.subcommand_negates_reqs && has)
    && list_any (λ (a : Rule). a.required && not (is_given a.id rows)) line.top.rules) e.1)

taken_kinds : (kinds : Kinds) (found : Option (Text × List Row))
    → is_some (command_at (unless_refused kinds found)) ≡ true → kinds ≡ []
taken_kinds [] found some = refl
taken_kinds (k ∷ kinds) found some = cc some

-- a command is read exactly where `clap` takes the words
pub read_exactly : (words : List (String Global)) (command : Option CommandWords)
    → option_map as_read command ≡ asked_in words → IsSome command ↔ (refusal_of words ≡ [])
unfolding asked_in
read_exactly words command is =
    let found = subcommand_of command_line (map string_bytes words) in
    let same : is_some command ≡ is_some (asked_in words) = sym (is_some-map as_read command) ∙ ap is_some is in (
      λ some. taken_kinds (refusal_of words) found (sym same ∙ some),
      λ none.
          same
          ∙ ap (λ kinds. is_some (command_at (unless_refused kinds found))) none
          ∙ line_taken (map string_bytes words) none,
    )
