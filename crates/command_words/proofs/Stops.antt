-- Where `clap` has no kind of error for the words, the subcommand at which it stops isn't `help`.
use Rattle.std.proofs.Common.{◌≡◌, ◌∙◌, ◌&&◌, ℕ, Bool, true, false, not, if◌then◌else◌, List, [], ◌∷◌, Option}
use Rattle.std.proofs.Common.{Some, None, option_map, is_some, refl, sym, ap, subst}
use Rattle.std.specs.Prelude.{codes, fold}
use Rattle.std.specs.Str.{bytes_eq}
use Rattle.clap.specs.Faults.{other_fault, step_fault, turn_fault, walk_fault, word_fault}
use Rattle.clap.specs.Kinds.{Kinds, or_else}
use Rattle.clap.specs.Lexer.{long_of, short_of}
use Rattle.clap.specs.Simple.{Shape}
use Rattle.clap.specs.Walk.{after_flag, after_step, arg_by_index, arg_by_long, bundle, done, Held, idle, long_met}
use Rattle.clap.specs.Walk.{long_or_other, Names, next, nothing_held, option, Outcome, plain, plain_word, positional}
use Rattle.clap.specs.Walk.{refused, Rule, short_or_plain, Step, stop_after, subcommand, subcommand_met}
use Rattle.clap.specs.Walk.{subcommand_or_other, Text, to_positional, trailing, value, Waiting, waits, Walk, walk_from}
use Rattle.clap.specs.Walk.{walked, walked_from, word_met}
use Rattle.clap.specs.declared.error.kind.ErrorKind.{ErrorKind}
use Rattle.command_words.proofs.FullRows.{both_none, some_same}

if_none : (b : Bool) (k : ErrorKind) (kinds : Kinds) → (if b then k ∷ kinds else []) ≡ [] → b ≡ false
if_none true k kinds none = cc none
if_none false k kinds none = refl

-- the subcommand that a step names
abbrev named : Step → Option Text
named (next waiting) = None
named (trailing position) = None
named (subcommand name) = Some name
named value = None

-- the name of the subcommand at which a walk stopped
abbrev pub stop_name : Option (Text × List Text) → Option Text
stop_name = option_map (λ p. p.0)

module _ (c : List Rule) (waiting : Waiting) (word : Text) where
  plain_named : (h : Held) → named (plain_word c waiting word h).1 ≡ None
  plain_named h = elim waiting as (λ w. named (plain_word c w word h).1 ≡ None) [
    | idle ↦ refl
    | option id ↦ refl
    | positional ↦ refl
  ]

  after_named : (h : Held) (outcome : Outcome) → named (after_flag c waiting word h outcome).1 ≡ None
  after_named h done = refl
  after_named h (waits id) = refl
  after_named h plain = plain_named h
  after_named h refused = plain_named h

  short_named : (flags : Option Text) (h : Held) → named (short_or_plain c waiting word flags h).1 ≡ None
  short_named None h = plain_named h
  short_named (Some flags) h = after_named (bundle c flags h).0 (bundle c flags h).1

  long_named : (long : Option (Text × Option Text)) (h : Held) → named (long_or_other c waiting word long h).1 ≡ None
  long_named None h = short_named (short_of word) h
  long_named (Some p) h =
      after_named (long_met c (arg_by_long c p.0) p.1 h).0 (long_met c (arg_by_long c p.0) p.1 h).1

module _ (s : Shape) (names : Names) where
  -- it isn't the subcommand that asks for help
  abbrev pub IsNoHelp : Text → Type 0
  IsNoHelp name = (bytes_eq name (codes "help") && not s.disable_help_subcommand) ≡ false

  abbrev pub StopsAtNoHelp : Option (Text × List Text) → Type 0
  StopsAtNoHelp stopped = (name : Text) → stop_name stopped ≡ Some name → IsNoHelp name

  met_no_help : (met : Option Text) (waiting : Waiting) (position : ℕ) (word : Text) (h : Held) (name : Text)
      → other_fault s met word h ≡ [] → named (subcommand_or_other s.rules met waiting position word h).1 ≡ Some name
      → IsNoHelp name
  met_no_help (Some n) waiting position word h name none is =
      subst IsNoHelp (some_same is) (if_none (bytes_eq n (codes "help") && not s.disable_help_subcommand) _ _ none)
  met_no_help None waiting position word h name none is =
      (elim (bytes_eq word (45 ∷ 45 ∷ [])) as (λ b.
      named (if b then (h, trailing position) else long_or_other s.rules waiting word (long_of word) h).1 ≡ Some name
      → IsNoHelp name) [
        | true ↦ λ e. cc e
        | false ↦ λ e. let no = sym (long_named s.rules waiting word (long_of word) h) ∙ e in cc no
      ]) is

  word_no_help : (is_trailing : Bool) (waiting : Waiting) (position : ℕ) (word : Text) (h : Held) (name : Text)
      → word_fault s names is_trailing waiting word h ≡ []
      → named (word_met s.rules names is_trailing waiting position word h).1 ≡ Some name → IsNoHelp name
  word_no_help true waiting position word h name none is = cc is
  word_no_help false waiting position word h name none is =
      met_no_help (subcommand_met names waiting word) waiting position word h name none is

  positional_stops : (found : Option Rule) (word : Text) (w : Walk) (h : Held) → w.stopped ≡ None
      → stop_name (to_positional s.rules found word w h).stopped ≡ None
  positional_stops None word w h walks_on = ap stop_name walks_on
  positional_stops (Some a) word w h walks_on = refl

  step_stops : (word : Text) (w : Walk) (h : Held) (step : Step) → w.stopped ≡ None
      → stop_name (after_step s.rules word w h step).stopped ≡ named step
  step_stops word w h (next waiting) walks_on = ap stop_name walks_on
  step_stops word w h (trailing position) walks_on = ap stop_name walks_on
  step_stops word w h (subcommand name) walks_on = refl
  step_stops word w h value walks_on = positional_stops (arg_by_index s.rules w.position) word w h walks_on

  no_help_from : (stopped : Option (Text × List Text)) (w : Walk) (word : Text) → w.stopped ≡ stopped
      → StopsAtNoHelp stopped
      → (if is_some stopped then [] else or_else (word_fault s names w.is_trailing w.waiting word w.held)
      (step_fault s w.position (word_met s.rules names w.is_trailing w.waiting w.position word w.held).0
      (word_met s.rules names w.is_trailing w.waiting w.position word w.held).1)) ≡ []
      → StopsAtNoHelp (walked_from s.rules names stopped w word).stopped
  no_help_from (Some p) w word same before none = before
  no_help_from None w word walks_on before none =
      let met = word_met s.rules names w.is_trailing w.waiting w.position word w.held in
      let parts = both_none (word_fault s names w.is_trailing w.waiting word w.held)
      (step_fault s w.position met.0 met.1) none in
      λ name is.
      word_no_help w.is_trailing w.waiting w.position word w.held name parts.0
      (sym (step_stops word w met.0 met.1 walks_on) ∙ is)

  turn_no_help : (w : Walk) (word : Text) → StopsAtNoHelp w.stopped → turn_fault s names w word ≡ []
      → StopsAtNoHelp (walked s.rules names w word).stopped
  unfolding walked
  turn_no_help w word before none = no_help_from w.stopped w word refl before none

  fold_no_help : (words : List Text) (w : Walk) → StopsAtNoHelp w.stopped → walk_fault s names w words ≡ []
      → StopsAtNoHelp (fold (walked s.rules names) w words).stopped
  unfolding walk_fault
  fold_no_help [] w before none = before
  fold_no_help (word ∷ words) w before none =
      let after = walked s.rules names w word in
      let parts = both_none (turn_fault s names w word) (walk_fault s names after words) none in
      fold_no_help words after (turn_no_help w word before parts.0) parts.1

  -- what a walk without error stops at
  pub stops_at_no_help : (words : List Text) → walk_fault s names (walk_from nothing_held) words ≡ []
      → StopsAtNoHelp (stop_after s.rules names words)
  stops_at_no_help words none = fold_no_help words (walk_from nothing_held) (λ name is. cc is) none
