-- One more command of a channel is one more in all.
use Rattle.std.proofs.Common.{◌≡◌, ℕ, zero, suc, ◌+◌, ◌<◌, ◌≤◌, List, [], ◌∷◌, ◌++◌, length, slice_set, slice_index_or}
use Rattle.std.proofs.Common.{arith, length-append}
use Rattle.volume_model.specs.Scripts.{commands_in}
use Rattle.volume_model.specs.declared.command.Command.{Command}

-- for `Script::push`: one command more in one channel is one more in all
pub commands_in_push : (lists : List (List Command)) (channel : ℕ) (command : Command) (d : List Command)
    → channel < length lists
    → commands_in (slice_set lists channel (slice_index_or lists channel d ++ command ∷ [])) ≡ commands_in lists + 1
commands_in_push [] channel command d h = absurd (omega (arith, h))
commands_in_push (commands ∷ more) zero command d h = omega (arith, length-append commands (command ∷ []))
commands_in_push (commands ∷ more) (suc channel) command d h =
    omega (arith, commands_in_push more channel command d (omega (arith, h)))

-- without the commands of one channel there are no more in all
pub commands_in_take : (lists : List (List Command)) (channel : ℕ)
    → commands_in (slice_set lists channel []) ≤ commands_in lists
commands_in_take [] channel = omega arith
commands_in_take (commands ∷ more) zero = omega arith
commands_in_take (commands ∷ more) (suc channel) = omega (arith, commands_in_take more channel)
