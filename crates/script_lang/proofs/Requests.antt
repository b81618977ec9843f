-- What each line's request is like: one command at most or pages alone, in one of sixteen channels.
use Rattle.std.proofs.Common.{◌≡◌, ◌⊎◌, inl, inr, ℕ, ◌+◌, ◌<◌, ◌≤◌, Bool, true, false, cond, ◌&&◌, List, [], ◌∷◌}
use Rattle.std.proofs.Common.{length, map, Option, Some, None, Result, Ok, Err, refl, ap, subst, arith}
use Rattle.std.specs.Prelude.{IfOk, IfSome, decimal, ◌^◌, nat_lt}
use Rattle.std.specs.List.{range_with_len}
use Rattle.std.proofs.lemmas.Bool.{ltb-true}
use Rattle.std.specs.Str.{bytes_eq}
use Rattle.std.specs.Str.Parse.{digits_value}
use Rattle.std.proofs.lemmas.List.Sums.{sum_by-append}
use Rattle.volume_model.specs.declared.command.Command.{Command}
use Rattle.script_lang.specs.declared.fault.LineKind.{LineKind}
use Rattle.script_lang.specs.declared.form.Value.{Value}
use Rattle.script_lang.specs.declared.form.Value.TheVariants.{Volume, Number}
use Rattle.script_lang.specs.declared.line.LineRequest.{LineRequest}
use Rattle.script_lang.specs.declared.verb.Verb.{Verb}
use Rattle.script_lang.specs.declared.verb.Verb.TheVariants as v
use Rattle.script_lang.specs.Commands.{commands_of, command_said, alone, write_commands, read_commands, page_by_page}
use Rattle.script_lang.specs.Commands.{write_at, read_at, is_page, count_of_pages}
use Rattle.script_lang.specs.Forms.{says_values}
use Rattle.script_lang.specs.Lines.{says, says_words, says_verb, commands_said, in_channel, channel_in, is_skipped}
use Rattle.script_lang.specs.Lines.{is_printable, is_spaced, words}
use Rattle.script_lang.specs.Verbs.{verb_in, forms_of, takes}

-- of two results that both have a property, the chosen one has it
pub either : {X : Type 0} (P : X → Type 0) (b : Bool) (x y : X) → P x → P y → P (cond b x y)
either P true x y px py = px
either P false x y px py = py

-- what holds of the commands of each verb's words holds of the commands of each line
module _ (Q : List Command → Type 0) (none : Q [])
    (of_verb : (word : List ℕ) (words : List (List ℕ)) → IfOk (says_verb (verb_in word) words) Q) where
  in_channel_has : (c : Option ℕ) (r : Result (List Command) LineKind) → IfOk r Q
      → IfOk (in_channel c r) (λ request. Q request.commands)
  in_channel_has (Some c) (Ok commands) q = q
  in_channel_has (Some c) (Err kind) q = tt
  in_channel_has None (Ok commands) q = tt
  in_channel_has None (Err kind) q = tt

  words_have : (words : List (List ℕ)) → IfOk (says_words words) (λ request. Q request.commands)
  words_have [] = tt
  words_have (channel ∷ []) = tt
  words_have (channel ∷ verb ∷ more) =
      in_channel_has (channel_in channel) (says_verb (verb_in verb) more) (of_verb verb more)

  pub says_has : (line : List ℕ) → IfOk (says line) (λ request. Q request.commands)
  says_has line =
      either (λ (r : Result LineRequest LineKind). IfOk r (λ request. Q request.commands)) (is_skipped line) _ _ none
      (either (λ (r : Result LineRequest LineKind). IfOk r (λ request. Q request.commands))
      (is_printable line && is_spaced line) _ _ (words_have (words line)) tt)

-- one command at most, or pages alone
abbrev pub IsSized : List Command → Type 0
IsSized commands = (length commands ≤ 1) ⊎ (length commands ≡ count_of_pages commands)

-- the pages of a first command, and of those after it
pub pages_first : (command : Command) (commands : List Command)
    → count_of_pages (command ∷ commands) ≡ 0 + cond (is_page command) 1 0 + count_of_pages commands
pages_first command commands = sum_by-append (λ (x : Command). cond (is_page x) 1 0) (command ∷ []) commands

all_pages : (f : ℕ → Command) → ((i : ℕ) → is_page (f i) ≡ true) → (is : List ℕ)
    → length (map f is) ≡ count_of_pages (map f is)
all_pages f page [] = refl
all_pages f page (i ∷ is) =
    let one : cond {A = ℕ} (is_page (f i)) 1 0 ≡ 1 = ap (λ b. cond {A = ℕ} b 1 0) (page i) in
    omega (arith, one, pages_first (f i) (map f is), all_pages f page is)

pages_sized : (page count : ℕ) (f : ℕ → Command) → ((i : ℕ) → is_page (f i) ≡ true)
    → IfOk (page_by_page page count f) IsSized
pages_sized page count f pages = either (λ (r : Result (List Command) LineKind). IfOk r IsSized)
    (nat_lt (page + count) (2 ^ 64)) _ _ (inr (all_pages f pages (range_with_len 0 count))) tt

alone_sized : (command : Option Command) → IfOk (alone command) IsSized
alone_sized (Some command) = inl (omega arith)
alone_sized None = tt

writes_sized : (values : List Value) → IfOk (write_commands values) IsSized
writes_sized (Volume volume ∷ Number page ∷ Number count ∷ Number word ∷ []) = pages_sized page count
    (write_at volume page word) (λ i. refl)
writes_sized _ = tt

reads_sized : (values : List Value) → IfOk (read_commands values) IsSized
reads_sized (Volume volume ∷ Number page ∷ Number count ∷ []) = pages_sized page count (read_at volume page) (λ i. refl)
reads_sized _ = tt

commands_sized : (verb : Verb) (values : List Value) → IfOk (commands_of verb values) IsSized
commands_sized v.Write values = writes_sized values
commands_sized v.Read values = reads_sized values
commands_sized verb values = alone_sized (command_said verb values)

module _ (Q : List Command → Type 0) where
  said_have : (verb : Verb) → ((values : List Value) → IfOk (commands_of verb values) Q)
      → (r : Result (List Value) LineKind) → IfOk (commands_said verb r) Q
  said_have verb q (Ok values) = q values
  said_have verb q (Err kind) = tt

verb_sized : (verb : Option Verb) (words : List (List ℕ))
    → IfOk (says_verb verb words) IsSized
verb_sized None words = tt
verb_sized (Some verb) words =
    either (λ (r : Result (List Command) LineKind). IfOk r IsSized) (takes verb (length words)) _ _
    (said_have IsSized verb (commands_sized verb) (says_values (forms_of verb) words)) tt

-- so are the commands of each line
pub says_sized : (line : List ℕ) → IfOk (says line) (λ request. IsSized request.commands)
says_sized = says_has IsSized (inl (omega arith)) (λ word words. verb_sized (verb_in word) words)

below_limit : (v limit : ℕ) (t : Bool) → nat_lt v limit ≡ t → limit ≤ 16 → IfSome (cond t (Some v) None) (λ n. n < 16)
below_limit v limit true e few = let lt : v < limit = ltb-true v limit e in omega arith
below_limit v limit false e few = tt

is_channel : (b : Bool) (v limit : ℕ) → limit ≤ 16 → IfSome (cond (b && nat_lt v limit) (Some v) None) (λ n. n < 16)
is_channel true v limit few = below_limit v limit (nat_lt v limit) refl few
is_channel false v limit few = tt

in_channel_below : (c : Option ℕ) (r : Result (List Command) LineKind) → IfSome c (λ n. n < 16)
    → IfOk (in_channel c r) (λ request. request.channel < 16)
in_channel_below (Some c) (Ok commands) lt = lt
in_channel_below (Some c) (Err kind) lt = tt
in_channel_below None (Ok commands) lt = tt
in_channel_below None (Err kind) lt = tt

words_below : (words : List (List ℕ)) → IfOk (says_words words) (λ request. request.channel < 16)
words_below [] = tt
words_below (channel ∷ []) = tt
words_below (channel ∷ verb ∷ more) =
    in_channel_below (channel_in channel) (says_verb (verb_in verb) more)
    (is_channel (bytes_eq (decimal (digits_value 10 channel)) channel) (digits_value 10 channel) 16 (omega arith))

-- a line's channel is one of sixteen
pub says_channel : (line : List ℕ) → IfOk (says line) (λ request. request.channel < 16)
says_channel line =
    either (λ (r : Result LineRequest LineKind). IfOk r (λ request. request.channel < 16)) (is_skipped line) _ _
    (omega arith)
    (either (λ (r : Result LineRequest LineKind). IfOk r (λ request. request.channel < 16))
    (is_printable line && is_spaced line) _ _ (words_below (words line)) tt)

-- what holds of a request if there is one
pub if_said : (P : LineRequest → Type 0) (r : Result LineRequest LineKind) (request : LineRequest) → r ≡ Ok request
    → IfOk r P
    → P request
if_said P r request e h = subst (λ (x : Result LineRequest LineKind). IfOk x P) e h
