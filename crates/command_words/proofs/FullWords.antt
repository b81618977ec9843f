-- A word in which `clap` finds no error leaves each row with a value, of a command whose arguments take one value each,
-- or are flags, or ask for help.
use Rattle.std.proofs.Common.{◌≡◌, ◌&&◌, ℕ, zero, suc, Bool, true, false, not, if◌then◌else◌, List, [], ◌∷◌}
use Rattle.std.proofs.Common.{length, drop, Option, Some, None, is_some, refl, sym, subst}
use Rattle.std.specs.Prelude.{encode_utf8, find, slice_get}
use Rattle.std.specs.Option.{option_map_or}
use Rattle.std.specs.Str.{bytes_eq, chars}
use Rattle.clap.specs.Facts.{unwrap_or_range}
use Rattle.clap.specs.Faults.{action_fault, bundle_fault, bundle_step_fault, flag_word_fault, flags_fault, long_fault}
use Rattle.clap.specs.Faults.{option_fault, react_fault, settle_fault, short_fault, use_fault}
use Rattle.clap.specs.Kinds.{Kinds, or_else, range_kinds}
use Rattle.clap.specs.Walk.{action_of, after_flag, arg_by_id, arg_by_long, arg_by_short, attached_value, bundle}
use Rattle.clap.specs.Walk.{bundle_met, bundle_step, done, flag_met, has_long, has_short, Held, idle, long_met}
use Rattle.clap.specs.Walk.{long_or_other, most_values, option, option_met, option_word, Outcome, plain, plain_word}
use Rattle.clap.specs.Walk.{positional, reacted, reading_by, refused, Row, Rule, settled, settled_rows, short_met}
use Rattle.clap.specs.Walk.{short_or_plain, takes_values, Text, used, used_as, used_by_id, values_or_missing, Waiting}
use Rattle.clap.specs.Walk.{waits, without}
use Rattle.clap.specs.Lexer.{short_of}
use Rattle.clap.specs.declared.builder.action.ArgAction.{ArgAction}
use Rattle.clap.specs.declared.builder.action.ArgAction.TheVariants.{Help, Set, SetTrue}
use Rattle.clap.specs.declared.error.kind.ErrorKind.TheVariants.{TooManyValues}
use Rattle.clap.specs.declared.parser.matches.ValueSource.TheVariants.{CommandLine}
use Rattle.command_words.proofs.FullRows.{both_none, Full, full-with_values, full-without, some_same}

-- ---- one use of an argument

-- it takes one value, or is a flag, for which a text stands where it is there, or asks for help
pub data Ready (a : Rule) : Type 0 where
  takes_one : action_of a ≡ Set → (unwrap_or_range a.range).start_inclusive ≡ 1 → Ready a
  is_flag : action_of a ≡ SetTrue → (text : Text) → a.missing ≡ text ∷ [] → Ready a
  asks_help : action_of a ≡ Help → Ready a

abbrev pub AllReady : List Rule → Type 0
AllReady [] = Unit {0}
AllReady (a ∷ c) = Ready a × AllReady c

ready-find : (test : Rule → Bool) (c : List Rule) (a : Rule) → AllReady c → find test c ≡ Some a → Ready a
ready-find test [] a ready is = cc is
ready-find test (x ∷ c) a ready is =
    (elim (test x) as (λ b. (if b then Some x else find test c) ≡ Some a → Ready a) [
      | true ↦ λ e. subst (λ (y : Rule). Ready y) (some_same e) ready.0
      | false ↦ λ e. ready-find test c a ready.1 e
    ]) is

module _ (again : Bool) (a : Rule) (rows : List Row) where
  full-used : (values : List Text) → Full rows → Ready a → use_fault again a values rows ≡ []
      → Full (used a values rows)
  full-used [] full (takes_one set one) none =
      let parts = both_none (range_kinds (unwrap_or_range a.range).start_inclusive (most_values a) 0)
      (action_fault (action_of a) again a (values_or_missing a []) rows) none in
      let at_one = subst (λ (n : ℕ). range_kinds n (most_values a) 0 ≡ []) one parts.0 in cc at_one
  full-used (v ∷ vs) full (takes_one set one) none =
      subst (λ (x : ArgAction). Full (used_as x a.id (reading_by a) (v ∷ vs) rows)) (sym set)
      (full-with_values a.id (reading_by a) CommandLine v vs (without a.id rows) (full-without a.id rows full))
  full-used [] full (is_flag set text missing) none =
      subst (λ (x : ArgAction). Full (used_as x a.id (reading_by a) a.missing rows)) (sym set)
      (subst (λ (values : List Text). Full (used_as SetTrue a.id (reading_by a) values rows)) (sym missing)
      (full-with_values a.id (reading_by a) CommandLine text [] (without a.id rows) (full-without a.id rows full)))
  full-used (v ∷ vs) full (is_flag set text missing) none =
      subst (λ (x : ArgAction). Full (used_as x a.id (reading_by a) (v ∷ vs) rows)) (sym set)
      (full-with_values a.id (reading_by a) CommandLine v vs (without a.id rows) (full-without a.id rows full))
  full-used values full (asks_help help) none =
      let parts = both_none (range_kinds (unwrap_or_range a.range).start_inclusive (most_values a) (length values))
      (action_fault (action_of a) again a (values_or_missing a values) rows) none in
      let asks = subst (λ (x : ArgAction). action_fault x again a (values_or_missing a values) rows ≡ []) help
      parts.1 in cc asks

-- ---- a word

module _ (c : List Rule) (ready : AllReady c) (again : Bool) where
  full-by_id : (found : Option Rule) → ((a : Rule) → found ≡ Some a → Ready a) → (values : List Text) (rows : List Row)
      → Full rows → option_map_or (λ a. use_fault again a values rows) found [] ≡ []
      → Full (used_by_id found values rows)
  full-by_id None known values rows full none = full
  full-by_id (Some a) known values rows full none = full-used again a rows values full (known a refl) none

  full-pending : (pending : Option (Text × List Text)) (rows : List Row) → Full rows
      → option_map_or (λ p. option_map_or (λ a. use_fault again a p.1 rows) (arg_by_id c p.0) []) pending [] ≡ []
      → Full (settled_rows c pending rows)
  full-pending None rows full none = full
  full-pending (Some p) rows full none =
      full-by_id (arg_by_id c p.0) (λ a is. ready-find (λ x. bytes_eq x.id p.0) c a ready is) p.1 rows full none

  pub full-settled : (h : Held) → Full h.rows → settle_fault c again h ≡ [] → Full (settled c h).rows
  full-settled h full none = full-pending h.pending h.rows full none

  full-reacted : (a : Rule) → Ready a → (values : List Text) (h : Held) → Full h.rows
      → react_fault c again a values h ≡ [] → Full (reacted c a values h).rows
  full-reacted a can values h full none =
      let parts = both_none (settle_fault c again h) (use_fault again a values (settled c h).rows) none in
      full-used again a (settled c h).rows values (full-settled h full parts.0) can parts.1

  full-option : (a : Rule) → Ready a → (v : Option Text) (h : Held) → Full h.rows → option_fault c again a v h ≡ []
      → Full (option_met c a v h).0.rows
  full-option a can (Some v) h full none = full-reacted a can (v ∷ []) h full none
  full-option a can None h full none = full-settled h full none

  full-flag : (a : Rule) → Ready a → (v : Option Text) (h : Held) → Full h.rows
      → (if is_some v then TooManyValues ∷ [] else react_fault c again a [] h) ≡ [] → Full (flag_met c a v h).0.rows
  full-flag a can (Some v) h full none = full
  full-flag a can None h full none = full-reacted a can [] h full none

  full-long : (found : Option Rule) → ((a : Rule) → found ≡ Some a → Ready a) → (v : Option Text) (h : Held)
      → Full h.rows → long_fault c again found v h ≡ [] → Full (long_met c found v h).0.rows
  full-long None known v h full none = full
  full-long (Some a) known v h full none =
      (elim (takes_values a) as (λ b. (if b then option_fault c again a v h
      else (if is_some v then TooManyValues ∷ [] else react_fault c again a [] h)) ≡ []
      → Full (if b then option_met c a v h else flag_met c a v h).0.rows) [
        | true ↦ full-option a (known a refl) v h full
        | false ↦ full-flag a (known a refl) v h full
      ]) none

  full-short : (found : Option Rule) → ((a : Rule) → found ≡ Some a → Ready a) → (rest : Text) (h : Held)
      (go : Held → Held × Outcome) (go_fault : Held → Kinds)
      → ((g : Held) → Full g.rows → go_fault g ≡ [] → Full (go g).0.rows) → Full h.rows
      → short_fault c again found rest h go_fault ≡ [] → Full (short_met c found rest h go).0.rows
  full-short None known rest h go go_fault more full none = full
  full-short (Some a) known rest h go go_fault more full none =
      (elim (takes_values a) as (λ b. (if b then option_fault c again a (attached_value rest) h
      else or_else (react_fault c again a [] h) (go_fault (reacted c a [] h))) ≡ []
      → Full (if b then option_met c a (attached_value rest) h else go (reacted c a [] h)).0.rows) [
        | true ↦ full-option a (known a refl) (attached_value rest) h full
        | false ↦ λ e.
            let parts = both_none (react_fault c again a [] h) (go_fault (reacted c a [] h)) e in
            more (reacted c a [] h) (full-reacted a (known a refl) [] h full parts.0) parts.1
      ]) none

  full-bundle_step : (x : Option ℕ) (flags : Text) (skip : ℕ) (so_far : Outcome) (h : Held)
      (go : Text → ℕ → Outcome → Held → Held × Outcome) (go_fault : Text → ℕ → Held → Kinds)
      → ((f : Text) (s : ℕ) (o : Outcome) (g : Held) → Full g.rows → go_fault f s g ≡ [] → Full (go f s o g).0.rows)
      → Full h.rows → bundle_step_fault c again x flags skip h go_fault ≡ []
      → Full (bundle_step c x flags skip so_far h go).0.rows
  full-bundle_step None flags skip so_far h go go_fault more full none = full
  full-bundle_step (Some x) flags zero so_far h go go_fault more full none =
      let rest = drop (length (encode_utf8 x)) flags in
      full-short (arg_by_short c x)
      (λ a is. ready-find (λ r. not (is_some r.index) && has_short r x) c a ready is)
      rest h (go rest 0 done) (go_fault rest 0) (λ g. more rest 0 done g) full none
  full-bundle_step (Some x) flags (suc skip) so_far h go go_fault more full none =
      more (drop (length (encode_utf8 x)) flags) skip so_far h full none

  full-bundle_met : (k : ℕ) (flags : Text) (skip : ℕ) (so_far : Outcome) (h : Held) → Full h.rows
      → flags_fault c again k flags skip h ≡ [] → Full (bundle_met c k flags skip so_far h).0.rows
  unfolding bundle_met flags_fault
  full-bundle_met zero flags skip so_far h full none = full
  full-bundle_met (suc k) flags skip so_far h full none =
      full-bundle_step (slice_get (chars flags) 0) flags skip so_far h (bundle_met c k) (flags_fault c again k)
      (λ f s o g. full-bundle_met k f s o g) full none

  -- a word that is no flag leaves the rows as they are
  option_rows : (found : Option Rule) (id word : Text) (h : Held) → (option_word found id word h).0.rows ≡ h.rows
  option_rows None id word h = refl
  option_rows (Some a) id word h = refl

  plain_rows : (waiting : Waiting) (word : Text) (h : Held) → (plain_word c waiting word h).0.rows ≡ h.rows
  plain_rows idle word h = refl
  plain_rows (option id) word h = option_rows (arg_by_id c id) id word h
  plain_rows positional word h = refl

  after_rows : (waiting : Waiting) (word : Text) (h : Held) (outcome : Outcome)
      → (after_flag c waiting word h outcome).0.rows ≡ h.rows
  after_rows waiting word h done = refl
  after_rows waiting word h (waits id) = refl
  after_rows waiting word h plain = plain_rows waiting word h
  after_rows waiting word h refused = plain_rows waiting word h

  full-flags : (waiting : Waiting) (word : Text) (flags : Option Text) (h : Held) → Full h.rows
      → option_map_or (λ f. bundle_fault c again f h) flags [] ≡ []
      → Full (short_or_plain c waiting word flags h).0.rows
  full-flags waiting word None h full none = subst Full (sym (plain_rows waiting word h)) full
  full-flags waiting word (Some flags) h full none =
      subst Full (sym (after_rows waiting word (bundle c flags h).0 (bundle c flags h).1))
      (full-bundle_met (length flags) flags h.skip plain (record h { skip = 0 }) full none)

  pub full-flag_word : (waiting : Waiting) (word : Text) (long : Option (Text × Option Text)) (h : Held) → Full h.rows
      → flag_word_fault c again long word h ≡ [] → Full (long_or_other c waiting word long h).0.rows
  full-flag_word waiting word None h full none = full-flags waiting word (short_of word) h full none
  full-flag_word waiting word (Some p) h full none =
      let met = long_met c (arg_by_long c p.0) p.1 h in
      subst Full (sym (after_rows waiting word met.0 met.1))
      (full-long (arg_by_long c p.0) (λ a is. ready-find (λ r. not (is_some r.index) && has_long r p.0) c a ready is)
      p.1 h full none)
