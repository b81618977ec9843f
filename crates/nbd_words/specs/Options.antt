-- What a client says in the handshake: options, of which each has a number and some bytes.
use Rattle.std.specs.Prelude.{◌≡◌, ◌≢◌, ℕ, ◌+◌, ◌*◌, ◌<◌, ◌^◌, List, ◌++◌, length, if◌then◌else◌}
use Rattle.nbd_words.specs.declared.options.OptionKind.{OptionKind}
use Rattle.nbd_words.specs.declared.options.OptionKind.TheVariants.{ExportName, Abort, ListExports, Info, Go, Other}
use Rattle.nbd_words.specs.declared.options.OptionHead.{OptionHead}
use Rattle.nbd_words.specs.declared.options.ClientFlags.{ClientFlags}
use Rattle.nbd_words.specs.Numbers.{number_bytes}

-- What a client can do: the fixed newstyle is bit 0, and bit 1 that it wants no zeros behind the answer to EXPORT_NAME.
abbrev pub client_flags_number : ClientFlags → ℕ
client_flags_number flags = (if flags.fixed then 1 else 0) + (if flags.no_zeroes then 2 else 0)

-- the client's first words
abbrev pub client_flags_bytes : ClientFlags → List ℕ
client_flags_bytes flags = number_bytes 4 (client_flags_number flags)

-- the text IHAVEOPT
abbrev pub option_magic : ℕ
option_magic = 0x49484156454F5054

-- the protocol's number of each option
abbrev pub option_number : OptionKind → ℕ
option_number ExportName = 1
option_number Abort = 2
option_number ListExports = 3
option_number Info = 6
option_number Go = 7
option_number (Other number) = number

-- an option that has a name isn't called another, and its number has 32 bits
abbrev pub IsOptionKind : OptionKind → Type 0
IsOptionKind (Other number) =
    (number < 2 ^ 32) × (number ≢ 1) × (number ≢ 2) × (number ≢ 3) × (number ≢ 6) × (number ≢ 7)
IsOptionKind ExportName = Unit {0}
IsOptionKind Abort = Unit {0}
IsOptionKind ListExports = Unit {0}
IsOptionKind Info = Unit {0}
IsOptionKind Go = Unit {0}

-- a head that can be said
pub record IsOptionHead (head : OptionHead) : Type 0 where
  pub kind : IsOptionKind head.kind
  pub length : head.length < 2 ^ 32

-- the 16 bytes before an option's own
abbrev pub option_head_bytes : OptionHead → List ℕ
option_head_bytes head = number_bytes 8 option_magic ++ number_bytes 4 (option_number head.kind)
    ++ number_bytes 4 head.length

-- an option with its bytes
pub record AskedOption : Type 0 where
  pub kind : OptionKind
  pub bytes : List ℕ

-- the head of an option
abbrev pub head_of_option : AskedOption → OptionHead
head_of_option asked = record { kind = asked.kind; length = length asked.bytes }

-- these bytes begin with this option, and the rest follows
pub record AsksOption (bytes : List ℕ) (asked : AskedOption) (rest : List ℕ) : Type 0 where
  pub head : IsOptionHead (head_of_option asked)
  pub whole : bytes ≡ option_head_bytes (head_of_option asked) ++ asked.bytes ++ rest

-- The bytes of INFO and of GO: an export's name, and how many numbers of two bytes stand behind it, each of which asks
-- for one thing to be told.
pub record IsInfoRequest (bytes name infos : List ℕ) : Type 0 where
  pub name_fits : length name < 2 ^ 32
  pub count : ℕ
  pub count_fits : count < 2 ^ 16
  pub infos_are : length infos ≡ 2 * count
  pub whole : bytes ≡ number_bytes 4 (length name) ++ name ++ number_bytes 2 count ++ infos
