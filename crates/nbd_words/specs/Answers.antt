-- What the server says.
use Rattle.std.specs.Prelude.{ℕ, ◌+◌, ◌^◌, List, [], ◌++◌, length, Option, Some, None, if◌then◌else◌}
use Rattle.nbd_words.specs.declared.answers.OptionError.{OptionError}
use Rattle.nbd_words.specs.declared.answers.OptionError.TheVariants as option_errors
use Rattle.nbd_words.specs.declared.answers.RequestError.{RequestError}
use Rattle.nbd_words.specs.declared.answers.RequestError.TheVariants.{NotPermitted, Io, NoMemory, Invalid, NoSpace}
use Rattle.nbd_words.specs.declared.answers.Export.{Export}
use Rattle.nbd_words.specs.Numbers.{number_bytes}
use Rattle.nbd_words.specs.Options.{option_magic}

-- the text NBDMAGIC
abbrev pub nbd_magic : ℕ
nbd_magic = 0x4E42444D41474943

-- The first words, and what the server can do: the fixed newstyle (1), and no zeros behind the answer to EXPORT_NAME
-- (2).
abbrev pub greeting_bytes : List ℕ
greeting_bytes = number_bytes 8 nbd_magic ++ number_bytes 8 option_magic ++ number_bytes 2 3

-- ---- answers to options

abbrev pub option_reply_magic : ℕ
option_reply_magic = 0x3E889045565A9

-- the head of an answer: the option's number, the answer's type and how many bytes follow
abbrev pub option_reply_head : ℕ → ℕ → ℕ → List ℕ
option_reply_head option type count = number_bytes 8 option_reply_magic ++ number_bytes 4 option
    ++ number_bytes 4 type ++ number_bytes 4 count

-- an answer with its bytes
abbrev pub option_reply : ℕ → ℕ → List ℕ → List ℕ
option_reply option type bytes = option_reply_head option type (length bytes) ++ bytes

-- the option is done
abbrev pub acknowledged : ℕ → List ℕ
acknowledged option = option_reply option 1 []

-- an export of this name is there
abbrev pub export_named : ℕ → List ℕ → List ℕ
export_named option name = option_reply option 2 (number_bytes 4 (length name) ++ name)

-- what a client may ask of an export, in bits: that there are flags (0), it can only be read (1), FLUSH (2), FUA (3)
abbrev pub transmission_flags : Export → ℕ
transmission_flags export = 1 + (if export.read_only then 2 else 0) + 4 + 8

-- the size of the export and its flags
abbrev pub export_info : ℕ → Export → List ℕ
export_info option export = option_reply option 3
    (number_bytes 2 0 ++ number_bytes 8 export.size ++ number_bytes 2 (transmission_flags export))

-- blocks: the least, the best and the largest number of bytes of a request
abbrev pub block_size_info : ℕ → ℕ → List ℕ
block_size_info option maximum = option_reply option 3
    (number_bytes 2 3 ++ number_bytes 4 4096 ++ number_bytes 4 4096 ++ number_bytes 4 maximum)

-- the protocol's number of each refusal of an option
abbrev pub option_error_number : OptionError → ℕ
option_error_number option_errors.Unsupported = 2 ^ 31 + 1
option_error_number option_errors.Invalid = 2 ^ 31 + 3
option_error_number option_errors.Unknown = 2 ^ 31 + 6

-- the option is refused
abbrev pub option_refused : ℕ → OptionError → List ℕ
option_refused option error = option_reply option (option_error_number error) []

-- the answer to EXPORT_NAME, behind which come requests
abbrev pub export_opened : Export → List ℕ
export_opened export = number_bytes 8 export.size ++ number_bytes 2 (transmission_flags export)

-- ---- answers to requests

abbrev pub simple_reply_magic : ℕ
simple_reply_magic = 0x67446698

-- the protocol's number of each error
abbrev pub error_number : RequestError → ℕ
error_number NotPermitted = 1
error_number Io = 5
error_number NoMemory = 12
error_number Invalid = 22
error_number NoSpace = 28

-- 0 stands for no error
abbrev pub status_number : Option RequestError → ℕ
status_number None = 0
status_number (Some error) = error_number error

-- an answer to a request: the bytes that were read stand behind it
abbrev pub simple_reply_bytes : Option RequestError → ℕ → List ℕ
simple_reply_bytes error handle =
    number_bytes 4 simple_reply_magic ++ number_bytes 4 (status_number error) ++ number_bytes 8 handle
