-- What a word says by the form that it has to have, and what is wrong with a word that doesn't have it.
use Rattle.std.specs.Prelude.{ℕ, ◌==◌, ◌++◌, if◌then◌else◌, List, [], ◌∷◌, Bool, true, false, Option, Some, None}
use Rattle.std.specs.Prelude.{Result, Ok, Err, slice_index}
use Rattle.std.specs.Option.{option_map}
use Rattle.uuid.specs.Text.{parsed}
use Rattle.volume_model.specs.declared.command.VolumeRef.{VolumeRef}
use Rattle.volume_model.specs.declared.command.VolumeRef.TheVariants.{Head, Named}
use Rattle.script_lang.specs.declared.fault.LineKind.{LineKind}
use Rattle.script_lang.specs.declared.fault.LineKind.TheVariants as kind
use Rattle.script_lang.specs.declared.form.Form.{Form}
use Rattle.script_lang.specs.declared.form.Form.TheVariants as form
use Rattle.script_lang.specs.declared.form.Value.{Value}
use Rattle.script_lang.specs.declared.form.Value.TheVariants as value
use Rattle.script_lang.specs.Words.{number_in, count_in, head_in, name_in, thickness_in, key_in, value_in}

-- a volume, by its head or by its name
abbrev pub volume_in : List ℕ → Option VolumeRef
volume_in word =
    if slice_index word 0 == 64 then option_map Head (head_in word) else option_map Named (name_in word)

-- what a word of this form says
abbrev pub says_word : Form → List ℕ → Option Value
says_word form.Volume word = option_map value.Volume (volume_in word)
says_word form.Name word = option_map value.Name (name_in word)
says_word form.Number word = option_map value.Number (number_in word)
says_word form.Count word = option_map value.Number (count_in word)
says_word form.Thickness word = option_map value.Thick (thickness_in word)
says_word form.Uuid word = option_map value.Uuid (parsed word)
says_word form.Key word = option_map value.Text (key_in word)
says_word form.Value word = option_map value.Text (value_in word)

-- what is wrong with a word that isn't of this form
abbrev pub kind_of_form : Form → LineKind
kind_of_form form.Volume = kind.Volume
kind_of_form form.Name = kind.Volume
kind_of_form form.Number = kind.Number
kind_of_form form.Count = kind.Number
kind_of_form form.Thickness = kind.Form
kind_of_form form.Uuid = kind.Uuid
kind_of_form form.Key = kind.KeyValue
kind_of_form form.Value = kind.KeyValue

abbrev pub is_form : LineKind → Bool
is_form kind.Form = true
is_form _ = false

-- of two faults in a line, in their order: the first, but `Form` before all others
abbrev pub worse : LineKind → LineKind → LineKind
worse first later = if is_form later then later else first

-- a fault after others, if there are any
abbrev pub fault_after : Option LineKind → LineKind → LineKind
fault_after None later = later
fault_after (Some first) later = worse first later

-- a word by its form
abbrev pub or_kind : Form → Option Value → Result (List Value) LineKind
or_kind form (Some value) = Ok (value ∷ [])
or_kind form None = Err (kind_of_form form)

-- what words say, and then what further words say
abbrev pub joined : Result (List Value) LineKind → Result (List Value) LineKind → Result (List Value) LineKind
joined (Ok values) (Ok more) = Ok (values ++ more)
joined (Ok values) (Err kind) = Err kind
joined (Err kind) (Ok more) = Err kind
joined (Err kind) (Err later) = Err (worse kind later)

-- each word by its form, as far as there are words
abbrev pub says_values : List Form → List (List ℕ) → Result (List Value) LineKind
says_values [] words = Ok []
says_values (form ∷ forms) [] = Ok []
says_values (form ∷ forms) (word ∷ words) =
    joined (or_kind form (says_word form word)) (says_values forms words)

-- a value before others; none where it is missing
abbrev pub onto : Option Value → List Value → List Value
onto None more = []
onto (Some value) more = value ∷ more

-- values one by one, up to the first that is missing
abbrev pub listed : Option Value → Option Value → Option Value → Option Value → List Value
listed first second third fourth = onto first (onto second (onto third (onto fourth [])))

-- what words said, or what is wrong with one of them
abbrev pub said_or_wrong : List Value → Option LineKind → Result (List Value) LineKind
said_or_wrong values None = Ok values
said_or_wrong values (Some kind) = Err kind
