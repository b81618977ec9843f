-- Whether a listing is asked for, and in which format.
use Rattle.std.specs.Prelude.{List, Bool, false, true, Option, Some, None, String}
use Rattle.std.specs.declared.alloc.Global.{Global}
use Rattle.command_words.specs.Words.{asked_in, list, Asked}
use Rattle.listing_text.specs.declared.format.ListFormat.{ListFormat}
use Rattle.listing_text.specs.declared.format.ListFormat.TheVariants.{Json, Lines, Tree}

-- the format that the options for JSON and for a tree say; they can't both be there
abbrev pub format_by : Bool → Bool → Option ListFormat
format_by false false = Some Lines
format_by true false = Some Json
format_by false true = Some Tree
format_by true true = None

abbrev pub list_asked : Option Asked → Option ListFormat
list_asked (Some (list image json tree)) = format_by json tree
list_asked _ = None

-- the format of the listing that the words ask for, if they ask for one
abbrev pub list_in : List (String Global) → Option ListFormat
list_in words = list_asked (asked_in words)
