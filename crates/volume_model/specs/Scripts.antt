-- Scripts, as lists of commands by channels.
use Rattle.std.specs.Prelude.{ℕ, ◌+◌, List, [], ◌∷◌, length}
use Rattle.volume_model.specs.declared.command.Command.{Command}

-- how many commands all channels have together
abbrev pub commands_in : List (List Command) → ℕ
commands_in [] = 0
commands_in (commands ∷ more) = length commands + commands_in more
