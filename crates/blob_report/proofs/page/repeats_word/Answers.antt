use Rattle.std.proofs.Common.{◌∙◌, ◌<◌, get_or, ℕ, rules}
use mathlib.Core.Path.{ap₂}
use Rattle.std.specs.Str.{bytes_eq}
use Rattle.blob_report.proofs.RepeatedWords.{repeats_word}
use Rattle.blob_report.proofs.page.repeats_word.Goals as goal

pub returns : goal.returns
returns c =
    let page = c.args.page.now in
    let small : (i : ℕ) → get_or page i 0 < 256 = λ i. (let h = c.fits-page i in search rules) in
    c.eq.ensures ∙ ap₂ bytes_eq c.split_at.ensures.back c.split_at-2.ensures.front ∙ repeats_word page c.told-page small
