-- Where `clap` has no kind of error for the words, whatever it finds in them has a value: of a command whose arguments
-- take one value each, or are flags, or ask for help.
use Rattle.std.proofs.Common.{◌≡◌, ◌&&◌, ℕ, Bool, true, false, if◌then◌else◌, List, [], ◌∷◌, Option, Some, None}
use Rattle.std.proofs.Common.{is_some}
use Rattle.std.specs.Prelude.{fold}
use Rattle.std.specs.Option.{option_map_or}
use Rattle.std.specs.Str.{bytes_eq}
use Rattle.clap.specs.Faults.{check_fault, defaults_fault, flag_word_fault, level_fault, other_fault, positional_fault}
use Rattle.clap.specs.Faults.{settle_fault, step_fault, stray_fault, turn_fault, walk_fault, word_fault}
use Rattle.clap.specs.Kinds.{Kinds, or_else}
use Rattle.clap.specs.Simple.{Shape}
use Rattle.clap.specs.Walk.{after_step, arg_by_index, default_rows, has_row, Held, is_pending, long_or_other, Names}
use Rattle.clap.specs.Walk.{next, nothing_held, pushed, reading_by, Row, rows_after, Rule, settled, Step, subcommand}
use Rattle.clap.specs.Walk.{subcommand_met, subcommand_or_other, takes_several, Text, to_positional, trailing, value}
use Rattle.clap.specs.Walk.{Waiting, Walk, walk, walk_from, walked, walked_from, with_default, word_met}
use Rattle.clap.specs.Lexer.{long_of}
use Rattle.clap.specs.declared.parser.matches.ValueSource.TheVariants.{DefaultValue}
use Rattle.clap.specs.declared.builder.value_parser.Reading.{Reading}
use Rattle.command_words.proofs.FullRows.{both_none, Full, full-with_values}
use Rattle.command_words.proofs.FullWords.{AllReady, full-flag_word, full-settled}

-- ---- the walk over the words

module _ (s : Shape) (ready : AllReady s.rules) (names : Names) where
  full-other : (met : Option Text) (waiting : Waiting) (position : ℕ) (word : Text) (h : Held) → Full h.rows
      → other_fault s met word h ≡ [] → Full (subcommand_or_other s.rules met waiting position word h).0.rows
  full-other (Some name) waiting position word h full none = full
  full-other None waiting position word h full none =
      (elim (bytes_eq word (45 ∷ 45 ∷ [])) as (λ b. (if b then []
      else flag_word_fault s.rules s.args_override_self (long_of word) word h) ≡ []
      → Full (if b then (h, trailing position) else long_or_other s.rules waiting word (long_of word) h).0.rows) [
        | true ↦ λ e. full
        | false ↦ full-flag_word s.rules ready s.args_override_self waiting word (long_of word) h full
      ]) none

  full-word : (is_trailing : Bool) (waiting : Waiting) (position : ℕ) (word : Text) (h : Held) → Full h.rows
      → word_fault s names is_trailing waiting word h ≡ []
      → Full (word_met s.rules names is_trailing waiting position word h).0.rows
  full-word true waiting position word h full none = full
  full-word false waiting position word h full none =
      full-other (subcommand_met names waiting word) waiting position word h full none

  full-positional : (found : Option Rule) (word : Text) (w : Walk) (h : Held) → Full h.rows
      → option_map_or (λ a. positional_fault s.rules s.args_override_self a h) found (stray_fault s) ≡ []
      → Full (to_positional s.rules found word w h).held.rows
  full-positional None word w h full none = full
  full-positional (Some a) word w h full none =
      (elim (is_pending a h.pending && takes_several a) as (λ b. (if b then []
      else settle_fault s.rules s.args_override_self h) ≡ []
      → Full (pushed a.id word (if b then h else settled s.rules h)).rows) [
        | true ↦ λ e. full
        | false ↦ full-settled s.rules ready s.args_override_self h full
      ]) none

  full-after_step : (word : Text) (w : Walk) (h : Held) (step : Step) → Full h.rows
      → step_fault s w.position h step ≡ [] → Full (after_step s.rules word w h step).held.rows
  full-after_step word w h (next waiting) full none = full
  full-after_step word w h (trailing position) full none = full
  full-after_step word w h (subcommand name) full none = full
  full-after_step word w h value full none = full-positional (arg_by_index s.rules w.position) word w h full none

  full-walked_from : (stopped : Option (Text × List Text)) (w : Walk) (word : Text) → Full w.held.rows
      → (if is_some stopped then [] else or_else (word_fault s names w.is_trailing w.waiting word w.held)
      (step_fault s w.position (word_met s.rules names w.is_trailing w.waiting w.position word w.held).0
      (word_met s.rules names w.is_trailing w.waiting w.position word w.held).1)) ≡ []
      → Full (walked_from s.rules names stopped w word).held.rows
  full-walked_from (Some p) w word full none = full
  full-walked_from None w word full none =
      let met = word_met s.rules names w.is_trailing w.waiting w.position word w.held in
      let parts = both_none (word_fault s names w.is_trailing w.waiting word w.held)
      (step_fault s w.position met.0 met.1) none in
      full-after_step word w met.0 met.1 (full-word w.is_trailing w.waiting w.position word w.held full parts.0) parts.1

  full-walked : (w : Walk) (word : Text) → Full w.held.rows → turn_fault s names w word ≡ []
      → Full (walked s.rules names w word).held.rows
  unfolding walked
  full-walked w word full none = full-walked_from w.stopped w word full none

  full-fold : (words : List Text) (w : Walk) → Full w.held.rows → walk_fault s names w words ≡ []
      → Full (fold (walked s.rules names) w words).held.rows
  unfolding walk_fault
  full-fold [] w full none = full
  full-fold (word ∷ words) w full none =
      let after = walked s.rules names w word in
      let parts = both_none (turn_fault s names w word) (walk_fault s names after words) none in
      full-fold words after (full-walked w word full parts.0) parts.1

-- ---- a level of the parse

full-default_rows : (id : Text) (how : Reading) (values : List Text) (rows : List Row) → Full rows
    → Full (default_rows id how values rows)
full-default_rows id how [] rows full = full
full-default_rows id how (v ∷ vs) rows full = full-with_values id how DefaultValue v vs rows full

full-defaults : (c : List Rule) (rows : List Row) → Full rows → Full (fold with_default rows c)
full-defaults [] rows full = full
full-defaults (a ∷ c) rows full =
    full-defaults c (with_default rows a)
    (elim (has_row a.id rows) as (λ b. Full (if b then rows else default_rows a.id (reading_by a) a.defaults rows)) [
      | true ↦ full
      | false ↦ full-default_rows a.id (reading_by a) a.defaults rows full
    ])

-- what a level without error finds has values, and it meets the last checks
pub full-level : (s : Shape) → AllReady s.rules → (names : Names) (words : List Text) (has : Bool) (below : Kinds)
    → level_fault s names nothing_held words has below ≡ []
    → Full (rows_after s.rules names words) × (check_fault s (rows_after s.rules names words) has ≡ [])
full-level s ready names words has below none =
    let end = (walk s.rules names nothing_held words).held in
    let rows = rows_after s.rules names words in
    let last = check_fault s rows has in
    let defaults = defaults_fault (settled s.rules end).rows s.rules in
    let settles = settle_fault s.rules s.args_override_self end in
    let walks = walk_fault s names (walk_from nothing_held) words in
    let a = both_none walks (or_else below (or_else settles (or_else defaults last))) none in
    let b = both_none below (or_else settles (or_else defaults last)) a.1 in
    let d = both_none settles (or_else defaults last) b.1 in
    let e = both_none defaults last d.1 in
    let full : Full end.rows = full-fold s ready names words (walk_from nothing_held) tt a.0 in (
      full-defaults s.rules (settled s.rules end).rows
          (full-settled s.rules ready s.args_override_self end full d.0),
      e.1,
    )
