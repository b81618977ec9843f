use Rattle.std.proofs.Common.{◌∷◌, sym, ap, ◌∙◌, arith}
use Rattle.std.proofs.lemmas.Fmt.{decimal_digit}
use Rattle.script_lang.proofs.generated.name.Goals as goal

pub returns : goal.returns
returns c = c.new.ensures ∙ ap (λ digits. 118 ∷ digits) (sym (decimal_digit c.args.volume (omega arith)))
