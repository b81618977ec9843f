-- The commands of a verb and the values of its words.
use Rattle.std.specs.Prelude.{ℕ, ◌+◌, ◌%◌, ◌^◌, nat_lt, if◌then◌else◌, List, [], ◌∷◌, Bool, true, false, Option, Some}
use Rattle.std.specs.Prelude.{None, Result, Ok, Err, map, count_by}
use Rattle.std.specs.List.{range_with_len}
use Rattle.volume_model.specs.declared.command.VolumeRef.{VolumeRef}
use Rattle.volume_model.specs.declared.command.PageWord.TheVariants.{Fill}
use Rattle.volume_model.specs.declared.command.Command.{Command}
use Rattle.volume_model.specs.declared.command.Command.TheVariants as c
use Rattle.script_lang.specs.declared.fault.LineKind.{LineKind}
use Rattle.script_lang.specs.declared.fault.LineKind.TheVariants as kind
use Rattle.script_lang.specs.declared.form.Value.{Value}
use Rattle.script_lang.specs.declared.form.Value.TheVariants.{Volume, Name, Number, Thick, Uuid, Text}
use Rattle.script_lang.specs.declared.verb.Verb.{Verb}
use Rattle.script_lang.specs.declared.verb.Verb.TheVariants as v

-- page i of a write, from 0, has 512 copies of the word plus i, modulo 2^64
abbrev pub write_at : VolumeRef → ℕ → ℕ → ℕ → Command
write_at volume page word i = c.Write volume (page + i) (Fill ((word + i) % 2 ^ 64))

abbrev pub read_at : VolumeRef → ℕ → ℕ → Command
read_at volume page i = c.Read volume (page + i)

-- a command for each of the pages, which end below 2^64
abbrev pub page_by_page : ℕ → ℕ → (ℕ → Command) → Result (List Command) LineKind
page_by_page page count command =
    if nat_lt (page + count) (2 ^ 64) then Ok (map command (range_with_len 0 count)) else Err kind.Number

-- verbs that stand alone
abbrev pub plain : Verb → Option Command
plain v.Flush = Some c.Flush
plain v.List = Some c.List
plain v.Df = Some c.Df
plain _ = None

-- `VOL`
abbrev pub command_on_volume : Verb → VolumeRef → Option Command
command_on_volume v.Sync volume = Some (c.Sync volume)
command_on_volume v.Inflate volume = Some (c.Inflate volume)
command_on_volume v.Decouple volume = Some (c.Decouple volume)
command_on_volume v.Delete volume = Some (c.Delete volume)
command_on_volume v.ReadOnly volume = Some (c.ReadOnly volume)
command_on_volume v.Info volume = Some (c.Info volume)
command_on_volume _ volume = None

-- `VOL NUMBER`
abbrev pub on_slots : Verb → VolumeRef → ℕ → Option Command
on_slots v.Resize volume slots = Some (c.Resize volume slots)
on_slots _ volume slots = None

-- `VOL NAME`
abbrev pub on_name : Verb → VolumeRef → List ℕ → Option Command
on_name v.Snapshot volume name = Some (c.Snapshot volume name)
on_name v.Clone volume name = Some (c.Clone volume name)
on_name v.Rename volume name = Some (c.Rename volume name)
on_name _ volume name = None

-- `VOL KEY`
abbrev pub on_key : Verb → VolumeRef → List ℕ → Option Command
on_key v.DelX volume key = Some (c.DelX volume key)
on_key v.GetX volume key = Some (c.GetX volume key)
on_key _ volume key = None

-- `VOL KEY VALUE`
abbrev pub on_value : Verb → VolumeRef → List ℕ → List ℕ → Option Command
on_value v.SetX volume key value = Some (c.SetX volume key value)
on_value v.Put volume key value = Some (c.Put volume key value)
on_value _ volume key value = None

-- `NAME NUMBER thin|thick`, and perhaps a uuid
abbrev pub creation : Verb → List ℕ → ℕ → Bool → Option (List ℕ) → Option Command
creation v.Create name slots thick uuid = Some (c.Create name slots thick uuid)
creation _ name slots thick uuid = None

-- the command of a verb on a volume, with the values of the words after it
abbrev pub command_on : Verb → VolumeRef → List Value → Option Command
command_on verb volume [] = command_on_volume verb volume
command_on verb volume (Number slots ∷ []) = on_slots verb volume slots
command_on verb volume (Name name ∷ []) = on_name verb volume name
command_on verb volume (Text key ∷ []) = on_key verb volume key
command_on verb volume (Text key ∷ Text value ∷ []) = on_value verb volume key value
command_on verb volume _ = None

-- the command of a verb that makes a volume, with the values of the words after its name
abbrev pub command_of_name : Verb → List ℕ → List Value → Option Command
command_of_name verb name (Number slots ∷ Thick thick ∷ []) = creation verb name slots thick None
command_of_name verb name (Number slots ∷ Thick thick ∷ Uuid uuid ∷ []) = creation verb name slots thick (Some uuid)
command_of_name verb name _ = None

-- the command of a verb that is one command
abbrev pub command_said : Verb → List Value → Option Command
command_said verb [] = plain verb
command_said verb (Volume volume ∷ values) = command_on verb volume values
command_said verb (Name name ∷ values) = command_of_name verb name values
command_said verb _ = None

abbrev pub alone : Option Command → Result (List Command) LineKind
alone (Some command) = Ok (command ∷ [])
alone None = Err kind.Form

-- `VOL PAGE COUNT WORD`
abbrev pub write_commands : List Value → Result (List Command) LineKind
write_commands (Volume volume ∷ Number page ∷ Number count ∷ Number word ∷ []) =
    page_by_page page count (write_at volume page word)
write_commands _ = Err kind.Form

-- `VOL PAGE COUNT`
abbrev pub read_commands : List Value → Result (List Command) LineKind
read_commands (Volume volume ∷ Number page ∷ Number count ∷ []) = page_by_page page count (read_at volume page)
read_commands _ = Err kind.Form

-- the commands of a verb and its values
abbrev pub commands_of : Verb → List Value → Result (List Command) LineKind
commands_of v.Write values = write_commands values
commands_of v.Read values = read_commands values
commands_of verb values = alone (command_said verb values)

-- a command that reads or writes a page
abbrev pub is_page : Command → Bool
is_page (c.Write volume page word) = true
is_page (c.Read volume page) = true
is_page _ = false

-- how many pages commands read and write
abbrev pub count_of_pages : List Command → ℕ
count_of_pages commands = count_by is_page commands
