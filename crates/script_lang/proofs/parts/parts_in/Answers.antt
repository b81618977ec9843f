use Rattle.std.proofs.Common.{◌+◌, sym, ap, ◌∙◌}
use Rattle.std.specs.Prelude.{◌==◌}
use Rattle.std.proofs.lemmas.List.Splits.{length-slice_split}
use Rattle.script_lang.proofs.parts.parts_in.Goals as goal

pub returns : goal.returns
returns c = ap (λ n. n + 1) c.separators.ensures.count
    ∙ sym (length-slice_split (λ b. b == c.args.separator) c.args.text.now)
