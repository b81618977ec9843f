-- Which requests are carried out, and how the others are refused.
use Rattle.std.specs.Prelude.{◌+◌, ◌%◌, ◌^◌, Bool, ◌&&◌, nat_le, nat_lt, ◌==◌, not, Option, Some, None, if◌then◌else◌}
use Rattle.nbd_words.specs.declared.requests.RequestKind.{RequestKind}
use Rattle.nbd_words.specs.declared.requests.RequestKind.TheVariants.{Read, Write, Disconnect, Flush, Other}
use Rattle.nbd_words.specs.declared.requests.RequestHead.{RequestHead}
use Rattle.nbd_words.specs.declared.answers.Export.{Export}
use Rattle.nbd_words.specs.declared.answers.RequestError.{RequestError}
use Rattle.nbd_words.specs.declared.answers.RequestError.TheVariants.{NotPermitted, Invalid, NoSpace}

-- whole pages, at least one, and no more than 32 MiB of them
abbrev pub is_whole_pages : RequestHead → Bool
is_whole_pages head = (head.offset % 4096 == 0) && (head.length % 4096 == 0) && not (head.length == 0)
    && nat_le head.length (2 ^ 25)

-- no flag is set but bit 0
abbrev pub has_known_flags : RequestHead → Bool
has_known_flags head = nat_lt head.flags 2

-- it ends where the export ends, or before
abbrev pub is_within : Export → RequestHead → Bool
is_within export head = nat_le (head.offset + head.length) export.size

-- for pages of the export: refused where it isn't well formed, and otherwise by `past` where it goes past the end
abbrev pub pages_refusal : Export → RequestHead → RequestError → Option RequestError
pages_refusal export head past =
    if has_known_flags head && is_whole_pages head then (if is_within export head then None else Some past)
    else Some Invalid

-- the refusal of a request of a kind, or None where it is carried out
abbrev pub kind_refusal : Export → RequestHead → RequestKind → Option RequestError
kind_refusal export head Read = pages_refusal export head Invalid
kind_refusal export head Write =
    if export.read_only then Some NotPermitted else pages_refusal export head NoSpace
kind_refusal export head Disconnect = None
kind_refusal export head Flush = if has_known_flags head then None else Some Invalid
kind_refusal export head (Other number) = Some Invalid

-- the refusal of a request
abbrev pub refusal_of : Export → RequestHead → Option RequestError
refusal_of export head = kind_refusal export head head.kind
