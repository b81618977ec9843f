use Rattle.std.proofs.Common.{◌≡◌, ◌≤◌, take}
use Rattle.script_lang.specs.Commands.{count_of_pages}
use Rattle.script_lang.proofs.parsing.pages_of.Given as goal

abbrev pub invariant-loop-command : goal.invariant-loop-command
invariant-loop-command l = (l.pages ≡ count_of_pages (take l.command-index l.commands)) × (l.pages ≤ l.command-index)
