use Rattle.std.proofs.Common.{ap₂, ◌∙◌}
use Rattle.std.proofs.lemmas.Result.{IfOk-weaker}
use Rattle.clap.specs.Simple.{with_subcommand}
use Rattle.command_words.proofs.command_line.command_line.Goals as goal

pub returns : goal.returns
returns c =
    IfOk-weaker c.subcommand-2.result _ _
    (λ r added. added.shape c.in_ok-exercise_line.ensures.local
    ∙ ap₂ with_subcommand
    (c.in_ok-subcommand.ensures.shape c.in_ok-generate_line.ensures.local
    ∙ ap₂ with_subcommand c.in_ok-with_stores.ensures c.in_ok-generate_line.ensures.shape)
    c.in_ok-exercise_line.ensures.shape)
    c.subcommand-2.ensures
