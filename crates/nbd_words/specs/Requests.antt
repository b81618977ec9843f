-- What a client says after the handshake: requests, of which WRITE has a payload.
use Rattle.std.specs.Prelude.{◌≡◌, ◌≢◌, ℕ, ◌<◌, ◌^◌, ◌%◌, Bool, ◌==◌, List, ◌++◌, length}
use Rattle.nbd_words.specs.declared.requests.RequestKind.{RequestKind}
use Rattle.nbd_words.specs.declared.requests.RequestKind.TheVariants.{Read, Write, Disconnect, Flush, Other}
use Rattle.nbd_words.specs.declared.requests.RequestHead.{RequestHead}
use Rattle.nbd_words.specs.Numbers.{number_bytes}

abbrev pub request_magic : ℕ
request_magic = 0x25609513

-- the protocol's number of each request
abbrev pub request_number : RequestKind → ℕ
request_number Read = 0
request_number Write = 1
request_number Disconnect = 2
request_number Flush = 3
request_number (Other number) = number

-- a request that has a name isn't called another, and its number has 16 bits
abbrev pub IsRequestKind : RequestKind → Type 0
IsRequestKind (Other number) = (number < 2 ^ 16) × (number ≢ 0) × (number ≢ 1) × (number ≢ 2) × (number ≢ 3)
IsRequestKind Read = Unit {0}
IsRequestKind Write = Unit {0}
IsRequestKind Disconnect = Unit {0}
IsRequestKind Flush = Unit {0}

-- a head that can be said
pub record IsRequestHead (head : RequestHead) : Type 0 where
  pub flags : head.flags < 2 ^ 16
  pub kind : IsRequestKind head.kind
  pub handle : head.handle < 2 ^ 64
  pub offset : head.offset < 2 ^ 64
  pub length : head.length < 2 ^ 32

-- the 28 bytes before a payload
abbrev pub request_head_bytes : RequestHead → List ℕ
request_head_bytes head = number_bytes 4 request_magic ++ number_bytes 2 head.flags
    ++ number_bytes 2 (request_number head.kind) ++ number_bytes 8 head.handle ++ number_bytes 8 head.offset
    ++ number_bytes 4 head.length

-- bit 0 of the flags: what is written lasts before the answer
abbrev pub asks_to_last : RequestHead → Bool
asks_to_last head = head.flags % 2 == 1

-- how many bytes follow the head: those of a WRITE, and none of another
abbrev pub payload_length : RequestKind → ℕ → ℕ
payload_length Write length = length
payload_length Read length = 0
payload_length Disconnect length = 0
payload_length Flush length = 0
payload_length (Other number) length = 0

-- a request with its payload
pub record AskedRequest : Type 0 where
  pub head : RequestHead
  pub payload : List ℕ

-- these bytes begin with this request, and the rest follows
pub record AsksRequest (bytes : List ℕ) (asked : AskedRequest) (rest : List ℕ) : Type 0 where
  pub head : IsRequestHead asked.head
  pub payload : length asked.payload ≡ payload_length asked.head.kind asked.head.length
  pub whole : bytes ≡ request_head_bytes asked.head ++ asked.payload ++ rest
