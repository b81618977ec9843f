-- One line: what it asks for, or else what is wrong with it.
use Rattle.std.specs.Prelude.{ℕ, ◌==◌, nat_lt, nat_le, ◌&&◌, ◌||◌, if◌then◌else◌, List, [], ◌∷◌, Bool, Option, Some}
use Rattle.std.specs.Prelude.{None, Result, Ok, Err, length, slice_index}
use Rattle.std.specs.List.{list_all}
use Rattle.volume_model.specs.declared.command.Command.{Command}
use Rattle.script_lang.specs.declared.fault.LineKind.{LineKind}
use Rattle.script_lang.specs.declared.fault.LineKind.TheVariants as kind
use Rattle.script_lang.specs.declared.form.Value.{Value}
use Rattle.script_lang.specs.declared.line.LineRequest.{LineRequest}
use Rattle.script_lang.specs.declared.verb.Verb.{Verb}
use Rattle.script_lang.specs.Commands.{commands_of}
use Rattle.script_lang.specs.Forms.{says_values, worse}
use Rattle.script_lang.specs.Parts.{parts}
use Rattle.script_lang.specs.Verbs.{verb_in, forms_of, takes}
use Rattle.script_lang.specs.Words.{number_below}

-- the words of a line, which are separated by one space each
abbrev pub words : List ℕ → List (List ℕ)
words line = parts 32 (Some line)

-- bytes from 0x20 to 0x7E
abbrev pub is_printable : List ℕ → Bool
is_printable line = list_all (λ b. nat_le 32 b && nat_le b 126) line

abbrev pub are_words : List (List ℕ) → Bool
are_words words = list_all (λ word. nat_lt 0 (length word)) words

-- one space between any two words, and none at an end
abbrev pub is_spaced : List ℕ → Bool
is_spaced line = are_words (words line)

-- an empty line, or one that begins with `#`
abbrev pub is_skipped : List ℕ → Bool
is_skipped line = (length line == 0) || (slice_index line 0 == 35)

abbrev pub commands_said : Verb → Result (List Value) LineKind → Result (List Command) LineKind
commands_said verb (Ok values) = commands_of verb values
commands_said verb (Err kind) = Err kind

-- what a verb's words say; their number counts before them
abbrev pub says_verb : Option Verb → List (List ℕ) → Result (List Command) LineKind
says_verb None words = Err kind.Verb
says_verb (Some verb) words =
    if takes verb (length words) then commands_said verb (says_values (forms_of verb) words) else Err kind.Form

-- commands in a channel; a bad channel stands before what is wrong with later words
abbrev pub in_channel : Option ℕ → Result (List Command) LineKind → Result LineRequest LineKind
in_channel (Some channel) (Ok commands) = Ok (record { channel = channel; commands = commands })
in_channel (Some channel) (Err kind) = Err kind
in_channel None (Ok commands) = Err kind.Channel
in_channel None (Err later) = Err (worse kind.Channel later)

-- one of sixteen channels
abbrev pub channel_in : List ℕ → Option ℕ
channel_in word = number_below 16 word

-- a channel, a verb and the words of this verb
abbrev pub says_words : List (List ℕ) → Result LineRequest LineKind
says_words (channel ∷ verb ∷ words) = in_channel (channel_in channel) (says_verb (verb_in verb) words)
says_words _ = Err kind.Form

abbrev pub no_request : LineRequest
no_request = record { channel = 0; commands = [] }

-- what a line asks for, or what is wrong with it: the first word at fault, but `Form` before all others
abbrev pub says : List ℕ → Result LineRequest LineKind
says line =
    if is_skipped line then Ok no_request
    else (if is_printable line && is_spaced line then says_words (words line) else Err kind.Form)
