-- What a parse of the program's words says.
use Rattle.std.proofs.Common.{◌≡◌, ◌⊎◌, ◌∙◌, true, List, [], ◌∷◌, Option, Some, None, refl, sym, ap, ap₂, subst}
use Rattle.std.proofs.Common.{inl, inr, map, option_map}
use Rattle.std.specs.Prelude.{Box, String, option_and_then, string_bytes, unwrap_or}
use Rattle.std.specs.Box.{box_value}
use Rattle.std.specs.declared.alloc.Global.{Global}
use Rattle.clap.specs.Faults.{fault_of, is_simple_and_free}
use Rattle.clap.specs.Kinds.{IsAmong, Kinds}
use Rattle.clap.specs.Simple.{App, HasMatchesOf, is_simple, subcommand_of, subcommand_rows, subcommand_rows_of}
use Rattle.clap.specs.Walk.{Row, Text}
use Rattle.clap.specs.declared.error.kind.ErrorKind.{ErrorKind}
use Rattle.clap.specs.declared.error.kind.ErrorKind.TheVariants.{OutOfMemory}
use Rattle.clap.specs.declared.parser.matches.ArgMatches.{ArgMatches}
use Rattle.clap.specs.declared.parser.matches.ArgMatches.TheViews.{out-SubCommand}
use Rattle.clap.specs.declared.parser.matches.SubCommand.{SubCommand}
use Rattle.clap.proofs.OnLiterals.{clap_on_literals}
use Rattle.command_words.specs.CommandLine.{command_line}
use Rattle.command_words.specs.Words.{asked_by, asked_in, found_in, refusal_of, unless_refused}

is_simple_line : is_simple command_line ≡ true
unfolding clap_on_literals
is_simple_line = refl

is_free_line : is_simple_and_free command_line ≡ true
unfolding clap_on_literals
is_free_line = refl

module _ (words : List (String Global)) (app : App) (is : app ≡ command_line) where
  -- `clap` takes the words only where there is no kind of error
  pub taken : (is_simple_and_free app ≡ true → fault_of app (map string_bytes words) ≡ []) → refusal_of words ≡ []
  taken kinds =
      ap (λ a. fault_of a (map string_bytes words)) (sym is) ∙ kinds (ap is_simple_and_free is ∙ is_free_line)

  -- what it finds then
  pub found : (m : ArgMatches) → HasMatchesOf app (map string_bytes words) m → refusal_of words ≡ []
      → found_in words ≡ subcommand_rows_of m
  found m matches none =
      ap (λ k. unless_refused k (subcommand_of command_line (map string_bytes words))) none
      ∙ ap (λ a. subcommand_of a (map string_bytes words)) (sym is)
      ∙ sym (matches (ap is_simple is ∙ is_simple_line)).1

  -- it refuses them by one of the kinds
  pub refused : (k : ErrorKind)
      → (is_simple_and_free app ≡ true → (k ≡ OutOfMemory) ⊎ IsAmong k (fault_of app (map string_bytes words)))
      → (k ≡ OutOfMemory → ⊥) → IsAmong k (refusal_of words)
  refused k kinds other = elim (kinds (ap is_simple_and_free is ∙ is_free_line)) [
    | inl out ↦ absurd (other out)
    | inr among ↦ subst (λ (a : App). IsAmong k (fault_of a (map string_bytes words))) is among
  ]

-- the command is that of the subcommand which is found
pub asked : (words : List (String Global)) (found : Option (Text × List Row)) → found_in words ≡ found
    → asked_in words ≡ option_and_then (λ p. asked_by p.0 p.1) found
unfolding asked_in
asked words found is = ap (option_and_then (λ p. asked_by p.0 p.1)) is

unless_any : (kinds : Kinds) (k : ErrorKind) (found : Option (Text × List Row)) → IsAmong k kinds
    → unless_refused kinds found ≡ None
unless_any [] k found among = absurd among
unless_any (x ∷ kinds) k found among = refl

-- words that are refused ask for no command
pub asked_none : (words : List (String Global)) (k : ErrorKind) → IsAmong k (refusal_of words) → asked_in words ≡ None
asked_none words k among =
    asked words None (unless_any (refusal_of words) k (subcommand_of command_line (map string_bytes words)) among)

unwrapped : {X : Type 0} {x y : X} → Some x ≡ Some y → x ≡ y
unwrapped {X} {x} {y} e = ap (λ (o : Option X). unwrap_or o x) e

-- a subcommand by its name and what was found behind it
pub joined : {Z : Type 0} (s : Option (Box SubCommand Z)) (name : Text) (rows : List Row)
    → Some name ≡ option_map (λ b. (out-SubCommand (box_value b)).name.now) s
    → Some rows ≡ option_map (λ p. p.1) (subcommand_rows s) → subcommand_rows s ≡ Some (name, rows)
joined None name rows named are = cc named
joined (Some b) name rows named are =
    ap₂ (λ (n : Text) (r : List Row). Some (n, r)) (sym (unwrapped named)) (sym (unwrapped are))

-- no subcommand is found
pub none_found : {Z : Type 0} (s : Option (Box SubCommand Z))
    → None ≡ option_map (λ b. (out-SubCommand (box_value b)).name.now) s → subcommand_rows s ≡ None
none_found None none = refl
none_found (Some b) none = cc none
