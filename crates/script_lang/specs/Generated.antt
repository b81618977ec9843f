-- The generated scripts: four lines that make volumes, and then lines that are drawn.
use Rattle.std.specs.Prelude.{ℕ, ◌+◌, ◌-◌, ◌<◌, nat_lt, if◌then◌else◌, List, [], ◌∷◌, ◌++◌, false, None, map, decimal}
use Rattle.std.specs.Prelude.{codes}
use Rattle.std.specs.List.{flat_map, range_with_len}
use Rattle.volume_model.specs.declared.command.VolumeRef.TheVariants.{Named}
use Rattle.volume_model.specs.declared.command.PageWord.TheVariants.{Fill}
use Rattle.volume_model.specs.declared.command.Command.{Command}
use Rattle.volume_model.specs.declared.command.Command.TheVariants as c
use Rattle.script_lang.specs.declared.generated.GeneratedCommand.{GeneratedCommand}
use Rattle.script_lang.specs.declared.generated.GeneratedCommand.TheVariants.{Create, Write, Read, Flush, Put}
use Rattle.script_lang.specs.declared.generated.GeneratedLine.{GeneratedLine}
use Rattle.script_lang.specs.declared.line.LineRequest.{LineRequest}
use Rattle.script_lang.specs.Generator.{drawn, before_line}

-- the second draw gives the kind of line, and further draws in order what it asks for
abbrev pub drawn_command : ℕ → GeneratedCommand
drawn_command x =
    if nat_lt (drawn x 2 8) 4 then Write (drawn x 1 4) (drawn x 3 32) (drawn x 4 32768)
    else (if nat_lt (drawn x 2 8) 6 then Read (drawn x 3 4) (drawn x 4 32)
    else (if nat_lt (drawn x 2 8) 7 then Flush
    else Put (drawn x 1 4) (drawn x 3 1000)))

-- the line that is drawn from a state; the first draw gives the channel
abbrev pub drawn_line : ℕ → GeneratedLine
drawn_line x = record { channel = drawn x 1 4; command = drawn_command x }

-- the line that makes the volume of a channel
abbrev pub making_line : ℕ → GeneratedLine
making_line channel = record { channel = channel; command = Create channel }

-- a line, from 0
abbrev pub generated_line : ℕ → ℕ → GeneratedLine
generated_line number line = if nat_lt line 4 then making_line line else drawn_line (before_line number (line - 4))

abbrev pub volume_name : ℕ → List ℕ
volume_name volume = 118 ∷ decimal volume

-- the words after the channel
abbrev pub words_of : GeneratedCommand → List ℕ
words_of (Create volume) = codes " create " ++ volume_name volume ++ codes " 8 thin"
words_of (Write volume page word) =
    codes " write " ++ volume_name volume ++ codes " " ++ decimal page ++ codes " 1 " ++ decimal word
words_of (Read volume page) = codes " read " ++ volume_name volume ++ codes " " ++ decimal page ++ codes " 1"
words_of Flush = codes " flush"
words_of (Put volume value) = codes " put " ++ volume_name volume ++ codes " k t:" ++ decimal value

-- the text of a line, without its LF
abbrev pub text_of : GeneratedLine → List ℕ
text_of line = decimal line.channel ++ words_of line.command

-- the command that a line is
abbrev pub generated_command : GeneratedCommand → Command
generated_command (Create volume) = c.Create (volume_name volume) 8 false None
generated_command (Write volume page word) = c.Write (Named (volume_name volume)) page (Fill word)
generated_command (Read volume page) = c.Read (Named (volume_name volume)) page
generated_command Flush = c.Flush
generated_command (Put volume value) = c.Put (Named (volume_name volume)) (codes "k") (decimal value)

-- what a line asks for
abbrev pub request_of : GeneratedLine → LineRequest
request_of line = record { channel = line.channel; commands = generated_command line.command ∷ [] }

-- the text of the first lines, each with its LF
abbrev pub generated_lines : ℕ → ℕ → List ℕ
generated_lines number lines =
    flat_map (λ line. text_of (generated_line number line) ++ codes "\n") (range_with_len 0 lines)

-- what the first lines ask for
abbrev pub generated_requests : ℕ → ℕ → List LineRequest
generated_requests number lines = map (λ line. request_of (generated_line number line)) (range_with_len 0 lines)

-- the whole text: four lines that make the volumes, and those that are drawn
abbrev pub generated : ℕ → ℕ → List ℕ
generated number size = generated_lines number (size + 4)

-- numbers as they are drawn
abbrev pub AreDrawn : GeneratedCommand → Type 0
AreDrawn (Create volume) = volume < 4
AreDrawn (Write volume page word) = (volume < 4) × (page < 32) × (word < 32768)
AreDrawn (Read volume page) = (volume < 4) × (page < 32)
AreDrawn Flush = Unit {0}
AreDrawn (Put volume value) = (volume < 4) × (value < 1000)
