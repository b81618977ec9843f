-- What the words behind the program's name ask for, by `clap`'s meaning of the program's command line.
use Rattle.std.specs.Prelude.{Bool, false, if◌then◌else◌, List, [], ◌∷◌, Option, None, codes, map, option_and_then}
use Rattle.std.specs.Prelude.{option_map, string_bytes, String}
use Rattle.std.specs.Option.{option_copied, option_map_or}
use Rattle.std.specs.Str.{bytes_eq}
use Rattle.std.specs.declared.alloc.Global.{Global}
use Rattle.clap.specs.Faults.{fault_of}
use Rattle.clap.specs.Kinds.{Kinds}
use Rattle.clap.specs.Simple.{subcommand_of}
use Rattle.clap.specs.Walk.{first_of, Row, Text}
use Rattle.command_words.specs.CommandLine.{command_line}
use Rattle.command_words.specs.declared.reading.CommandWords.{CommandWords}
use Rattle.command_words.specs.declared.reading.CommandWords.TheVariants as words
use Rattle.command_words.specs.declared.reading.FormatOptions.{FormatOptions}

-- the texts of the options of a new store, each of which may be missing: the bytes of a cluster, a number of metadata
-- pages, and the name and the uuid of a logical volume store
pub record FormatTexts : Type 0 where
  pub cluster : Option Text
  pub md_pages : Option Text
  pub lvol : Option Text
  pub uuid : Option Text

-- a command with the texts of what stands behind it; an option may be missing
pub data Asked : Type 0 where
  -- an image, a schedule, and whether it is to be by threads
  run : Text → Option Text → Bool → Asked
  -- an image, and what the new store is to be like
  format : Text → FormatTexts → Asked
  -- an image, and whether it is to be in JSON, and as a tree
  list : Text → Bool → Bool → Asked
  -- an image, a target, and a volume of the image
  export : Text → Text → Text → Asked
  -- a number and a size
  generate : Text → Text → Asked
  -- an image, a number and a size
  exercise : Text → Text → Text → Asked

-- an option without a value is there: what `clap` finds of it is the text `true`
abbrev pub has_flag : Text → List Row → Bool
has_flag name rows = option_map_or (λ text. bytes_eq text (codes "true")) (first_of name rows) false

abbrev pub run_asked : List Row → Option Asked
run_asked rows =
    option_map (λ image. run image (first_of (codes "schedule") rows) (has_flag (codes "threads") rows))
    (first_of (codes "IMAGE") rows)

abbrev pub options_by : List Row → FormatTexts
options_by rows = record {
  cluster = first_of (codes "cluster") rows;
  md_pages = first_of (codes "md-pages") rows;
  lvol = first_of (codes "lvol") rows;
  uuid = first_of (codes "uuid") rows;
}

abbrev pub format_by : List Row → Option Asked
format_by rows = option_map (λ image. format image (options_by rows)) (first_of (codes "IMAGE") rows)

abbrev pub list_by : List Row → Option Asked
list_by rows =
    option_map (λ image. list image (has_flag (codes "json") rows) (has_flag (codes "tree") rows))
    (first_of (codes "IMAGE") rows)

abbrev pub export_by : List Row → Option Asked
export_by rows =
    option_and_then
    (λ image. option_and_then (λ target. option_map (export image target) (first_of (codes "VOLUME") rows))
    (first_of (codes "TARGET") rows)) (first_of (codes "IMAGE") rows)

abbrev pub generate_by : List Row → Option Asked
generate_by rows =
    option_and_then (λ number. option_map (generate number) (first_of (codes "SIZE") rows))
    (first_of (codes "NUMBER") rows)

abbrev pub exercise_by : List Row → Option Asked
exercise_by rows =
    option_and_then
    (λ image. option_and_then (λ number. option_map (exercise image number) (first_of (codes "SIZE") rows))
    (first_of (codes "NUMBER") rows)) (first_of (codes "IMAGE") rows)

-- the command that a subcommand is, with what was found behind it
abbrev pub asked_by : Text → List Row → Option Asked
asked_by name rows =
    if bytes_eq name (codes "run") then run_asked rows
    else (if bytes_eq name (codes "format") then format_by rows
    else (if bytes_eq name (codes "list") then list_by rows
    else (if bytes_eq name (codes "export") then export_by rows
    else (if bytes_eq name (codes "generate") then generate_by rows
    else (if bytes_eq name (codes "exercise") then exercise_by rows else None)))))

-- the kinds of error with which `clap` refuses the words, or answers that they ask for help or the version; none where
-- it takes them
abbrev pub refusal_of : List (String Global) → Kinds
refusal_of words = fault_of command_line (map string_bytes words)

-- what was found, unless there is a kind of error
abbrev pub unless_refused : Kinds → Option (Text × List Row) → Option (Text × List Row)
unless_refused [] found = found
unless_refused (kind ∷ kinds) found = None

-- the subcommand that the words name, and what was found behind it, where `clap` takes them
abbrev pub found_in : List (String Global) → Option (Text × List Row)
found_in words = unless_refused (refusal_of words) (subcommand_of command_line (map string_bytes words))

-- the command that the words ask for
unfoldable pub asked_in : List (String Global) → Option Asked
asked_in words = option_and_then (λ found. asked_by found.0 found.1) (found_in words)

-- the options as they were read
abbrev pub texts_of : FormatOptions → FormatTexts
texts_of options = record {
  cluster = option_copied options.cluster;
  md_pages = option_copied options.md_pages;
  lvol = option_copied options.lvol;
  uuid = option_copied options.uuid;
}

-- a command as it was read
abbrev pub as_read : CommandWords → Asked
as_read (words.Run image schedule threads) = run image.now (option_copied schedule) threads
as_read (words.Format image options) = format image.now (texts_of options)
as_read (words.List image json tree) = list image.now json tree
as_read (words.Export image target volume) = export image.now target.now volume.now
as_read (words.Generate number size) = generate number.now size.now
as_read (words.Exercise image number size) = exercise image.now number.now size.now
