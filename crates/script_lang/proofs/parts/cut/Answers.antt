use Rattle.script_lang.proofs.Cuts.{cut_at, cut_nowhere}
use Rattle.std.proofs.Common.{rules}
use Rattle.std.specs.Prelude.{◌==◌}
use Rattle.script_lang.proofs.parts.cut.Goals as goal

pub returns-in-Some-clause-cut : goal.returns-in-Some-clause-cut
returns-in-Some-clause-cut c = cut_at (λ b. b == c.args.separator) c.args.text.now c.in-Some.at (search rules)

pub returns-in-None-clause-cut : goal.returns-in-None-clause-cut
returns-in-None-clause-cut c = cut_nowhere (λ b. b == c.args.separator) c.args.text.now (search rules)
