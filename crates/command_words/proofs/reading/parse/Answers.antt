use Rattle.std.proofs.Common.{◌∙◌}
use Rattle.command_words.proofs.Parsed.{found, refused, taken}
use Rattle.command_words.proofs.reading.parse.Goals as goal

pub returns-in-Ok-clause-taken : goal.returns-in-Ok-clause-taken
returns-in-Ok-clause-taken c =
    taken c.args.words.now _ c.in_ok-command_line.ensures c.in-Ok.ensures.kinds

pub returns-in-Ok-clause-found : goal.returns-in-Ok-clause-found
returns-in-Ok-clause-found c =
    found c.args.words.now _ c.in_ok-command_line.ensures c.in-Ok.matches c.in-Ok.ensures.matches
    (taken c.args.words.now _ c.in_ok-command_line.ensures c.in-Ok.ensures.kinds)

pub returns-clause-refused : goal.returns-clause-refused
returns-clause-refused c =
    refused c.args.words.now _ c.in_ok-command_line.ensures _ c.in-Err.ensures.kinds
    (λ out. c.in_default.not-OutOfMemory (c.kind.ensures ∙ out))
