-- What a text says as a script.
use Rattle.std.specs.Prelude.{◌≡◌, ℕ, ◌+◌, ◌-◌, ◌<◌, ◌≤◌, ◌^◌, ◌==◌, nat_lt, nat_le, if◌then◌else◌, List, [], ◌∷◌, ◌++◌}
use Rattle.std.specs.Prelude.{Option, Some, None, Result, Ok, Err, map, fold, length, take, replicate, slice_index}
use Rattle.std.specs.Prelude.{slice_index_or, slice_set, sum_by}
use Rattle.std.specs.Option.{option_map, option_and_then}
use Rattle.volume_model.specs.declared.command.Command.{Command}
use Rattle.script_lang.specs.declared.fault.LineKind.{LineKind}
use Rattle.script_lang.specs.declared.fault.LineKind.TheVariants as kind
use Rattle.script_lang.specs.declared.fault.ScriptFault.{ScriptFault}
use Rattle.script_lang.specs.declared.fault.ScriptFault.TheVariants as fault
use Rattle.script_lang.specs.declared.line.LineRequest.{LineRequest}
use Rattle.script_lang.specs.Commands.{count_of_pages}
use Rattle.script_lang.specs.Lines.{says}
use Rattle.script_lang.specs.Parts.{parts}

-- a text without one LF at its end
abbrev pub ended : List ℕ → List ℕ
ended text = if slice_index text (length text - 1) == 10 then take (length text - 1) text else text

-- lines end with LF, the last may lack it; an empty text has none
abbrev pub lines : List ℕ → List (List ℕ)
lines text = parts 10 (if length text == 0 then None else Some (ended text))

-- all values, where none is missing
abbrev pub all_ok : {X : Type 0} → List (Result X LineKind) → Option (List X)
all_ok [] = Some []
all_ok (Err kind ∷ xs) = None
all_ok (Ok x ∷ xs) = option_map (λ ys. x ∷ ys) (all_ok xs)

-- how many pages requests read and write
abbrev pub pages_of_requests : List LineRequest → ℕ
pages_of_requests requests = sum_by (λ request. count_of_pages request.commands) requests

abbrev pub within_pages : List LineRequest → Option (List LineRequest)
within_pages requests = if nat_le (pages_of_requests requests) (2 ^ 16) then Some requests else None

-- what lines ask for: at most 65,536 lines, which together read and write at most 65,536 pages
unfoldable pub requests_in : List (List ℕ) → Option (List LineRequest)
requests_in lines =
    if nat_le (length lines) (2 ^ 16) then option_and_then within_pages (all_ok (map says lines)) else None

-- a command at the end of its channel's
abbrev pub with_command : ℕ → List (List Command) → Command → List (List Command)
with_command channel script command = slice_set script channel (slice_index_or script channel [] ++ command ∷ [])

-- a request's commands at the end of its channel's, in order
abbrev pub with_request : List (List Command) → LineRequest → List (List Command)
with_request script request = fold (with_command request.channel) script request.commands

-- sixteen channels, each with its commands in the order of the lines
abbrev pub script_of : List LineRequest → List (List Command)
script_of requests = fold with_request (replicate 16 []) requests

-- the script of a text of at most 1,048,576 bytes
abbrev pub reads : List ℕ → Option (List (List Command))
reads text = if nat_le (length text) (2 ^ 20) then option_map script_of (requests_in (lines text)) else None

-- what is wrong with a line after so many pages: it asks for nothing, or for a page too many
abbrev pub wrong_after : ℕ → Result LineRequest LineKind → Option LineKind
wrong_after pages (Err kind) = Some kind
wrong_after pages (Ok request) =
    if nat_lt (2 ^ 16) (pages + count_of_pages request.commands) then Some kind.Limit else None

-- what is wrong with the line of this number, from 1, after so many pages: one too many whatever it holds
abbrev pub wrong_on : ℕ → ℕ → List ℕ → Option LineKind
wrong_on number pages line = if nat_lt (2 ^ 16) number then Some kind.Limit else wrong_after pages (says line)

-- the line of this number, from 1, is the first outside the grammar or over a limit, and this is wrong with it
pub record IsFirstBad (text : List ℕ) (number : ℕ) (kind : LineKind) : Type 0 where
  pub before : List (List ℕ)
  pub requests : List LineRequest
  pub line : List ℕ
  pub after : List (List ℕ)
  pub small : length text ≤ 2 ^ 20
  pub lines_are : lines text ≡ before ++ line ∷ after
  pub good : requests_in before ≡ Some requests
  pub bad : wrong_on number (pages_of_requests requests) line ≡ Some kind
  pub number_is : number ≡ length before + 1

-- why a text isn't taken
abbrev pub Why : List ℕ → ScriptFault → Type 0
Why text (fault.BadLine line kind) = IsFirstBad text line kind
Why text fault.TooBig = 2 ^ 20 < length text
Why text fault.Memory = Unit {0}

-- a refused text is no script
abbrev pub RefusesText : List ℕ → ScriptFault → Type 0
RefusesText text fault.Memory = Unit {0}
RefusesText text _ = reads text ≡ None
