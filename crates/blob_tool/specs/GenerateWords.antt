-- What `generate` is asked for with.
use Rattle.std.specs.Prelude.{ℕ, ◌^◌, List, Option, Some, None, String, option_and_then}
use Rattle.std.specs.Option.{option_map}
use Rattle.std.specs.declared.alloc.Global.{Global}
use Rattle.command_words.specs.Words.{asked_in, generate, Asked}
use Rattle.script_lang.specs.Words.{number_below}
use Rattle.blob_tool.specs.declared.generate_words.GeneratedScript.{GeneratedScript}

-- a script's number is below 2^31, and it has at most 65,000 drawn lines
abbrev pub generated_script_in : List ℕ → List ℕ → Option GeneratedScript
generated_script_in number size =
    option_and_then (λ n. option_map (λ s. record { number = n; size = s }) (number_below 65001 size))
    (number_below (2 ^ 31) number)

abbrev pub generate_asked : Option Asked → Option GeneratedScript
generate_asked (Some (generate number size)) = generated_script_in number size
generate_asked _ = None

-- the script for which the words ask
abbrev pub generate_in : List (String Global) → Option GeneratedScript
generate_in words = generate_asked (asked_in words)
