-- What a reader of a client's bytes gives.
use Rattle.std.specs.Prelude.{◌≡◌, ℕ, ◌^◌, ◌%◌, ◌<◌, Bool, false, ◌&&◌, nat_le, ◌==◌, List, length}
use Rattle.std.specs.List.{flat_map}
use Rattle.std.specs.Global.{Box}
use Rattle.nbd_words.specs.Options.{AsksOption}
use Rattle.nbd_words.specs.Requests.{AsksRequest}
use Rattle.nbd_reader.specs.declared.payloads.Payload.{Payload}
use Rattle.nbd_reader.specs.declared.payloads.Payload.TheVariants.{Pages, Skipped, NoMemory}
use Rattle.nbd_reader.specs.declared.requests.Request.{Request}
use Rattle.nbd_reader.specs.declared.options.OptionBytes.{OptionBytes}
use Rattle.nbd_reader.specs.declared.options.OptionBytes.TheVariants.{Held, TooLong}
use Rattle.nbd_reader.specs.declared.options.ClientOption.{ClientOption}

-- the bytes of pages, one behind the other
abbrev pub pages_bytes : List (Box (List ℕ)) → List ℕ
pages_bytes pages = flat_map (λ page. page.value) pages

-- so many bytes are held: whole pages, and at most 32 MiB
abbrev pub are_held : ℕ → Bool
are_held count = (count % 4096 == 0) && nat_le count (2 ^ 25)

-- these bytes are given so
abbrev pub GivesPayload : Payload → List ℕ → Type 0
GivesPayload (Pages pages) bytes = bytes ≡ pages_bytes pages.items
GivesPayload Skipped bytes = are_held (length bytes) ≡ false
GivesPayload NoMemory bytes = Unit {0}

-- the bytes that were left begin with this request, and those that are left now follow it
pub record GivesRequest (left : List ℕ) (request : Request) (left_now : List ℕ) : Type 0 where
  pub payload : List ℕ
  pub given : GivesPayload request.payload payload
  pub asks : AsksRequest left (record { head = request.head; payload = payload }) left_now

-- an option's bytes are given so: more than 4096 are skipped
abbrev pub GivesBytes : OptionBytes → List ℕ → Type 0
GivesBytes (Held held) bytes = bytes ≡ held.items
GivesBytes TooLong bytes = 4096 < length bytes

-- the bytes that were left begin with this option, and those that are left now follow it
pub record GivesOption (left : List ℕ) (option : ClientOption) (left_now : List ℕ) : Type 0 where
  pub bytes : List ℕ
  pub given : GivesBytes option.bytes bytes
  pub asks : AsksOption left (record { kind = option.kind; bytes = bytes }) left_now
