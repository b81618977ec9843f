use Rattle.std.proofs.Common.{ap₂, ◌∙◌}
use Rattle.std.proofs.lemmas.Result.{IfOk-weaker}
use Rattle.clap.specs.Simple.{with_subcommand}
use Rattle.command_words.proofs.command_line.with_stores.Goals as goal

pub returns : goal.returns
returns c =
    IfOk-weaker c.subcommand-4.result _ _
    (λ r added. added.shape c.in_ok-export_line.ensures.local
    ∙ ap₂ with_subcommand
    (c.in_ok-subcommand-3.ensures.shape c.in_ok-list_line.ensures.local
    ∙ ap₂ with_subcommand
    (c.in_ok-subcommand-2.ensures.shape c.in_ok-format_line.ensures.local
    ∙ ap₂ with_subcommand
    (c.in_ok-subcommand.ensures.shape c.in_ok-run_line.ensures.local
    ∙ ap₂ with_subcommand c.in_ok-without_commands.ensures c.in_ok-run_line.ensures.shape)
    c.in_ok-format_line.ensures.shape)
    c.in_ok-list_line.ensures.shape)
    c.in_ok-export_line.ensures.shape)
    c.subcommand-4.ensures
