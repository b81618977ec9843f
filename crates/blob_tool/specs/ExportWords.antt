-- Which volume is to be exported, if the words ask for that.
use Rattle.std.specs.Prelude.{List, Option, Some, None, String}
use Rattle.std.specs.declared.alloc.Global.{Global}
use Rattle.command_words.specs.Words.{asked_in, export, Asked}
use Rattle.script_lang.specs.Forms.{volume_in}
use Rattle.volume_model.specs.declared.command.VolumeRef.{VolumeRef}

abbrev pub export_asked : Option Asked → Option VolumeRef
export_asked (Some (export image target volume)) = volume_in volume
export_asked _ = None

-- the volume that the words ask to export, if they ask for one and name it as a script does
abbrev pub export_in : List (String Global) → Option VolumeRef
export_in words = export_asked (asked_in words)
