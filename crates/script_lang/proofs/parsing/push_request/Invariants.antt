use Rattle.std.proofs.Common.{◌≡◌, ◌+◌, length}
use Rattle.std.specs.Prelude.{fold}
use Rattle.std.specs.Vec.Iter.{into_iter_items, into_iter_len}
use Rattle.volume_model.specs.Scripts.{commands_in}
use Rattle.script_lang.specs.Script.{with_command}
use Rattle.script_lang.proofs.parsing.push_request.Given as goal

abbrev pub invariant-loop-command : goal.invariant-loop-command
invariant-loop-command l =
    (fold (with_command l.fn.request.channel) l.script (into_iter_items l.left) ≡ fold
    (with_command l.fn.request.channel) l.fn.script l.fn.request.commands)
    × (commands_in l.script + length (into_iter_items l.left) ≡ commands_in l.fn.script + length l.fn.request.commands)

abbrev pub decreases-loop-command : goal.decreases-loop-command
decreases-loop-command l = into_iter_len l.left
