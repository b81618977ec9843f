use Rattle.std.proofs.Common.{◌≡◌}
use Rattle.std.specs.Option.{option_copied}
use Rattle.script_lang.specs.Parts.{parts, size_left}
use Rattle.script_lang.specs.Lines.{are_words, is_spaced}
use Rattle.script_lang.proofs.line.is_spaced.Given as goal

abbrev pub invariant-loop-word : goal.invariant-loop-word
invariant-loop-word l = is_spaced l.fn.line ≡ are_words (parts l.words.separator (option_copied l.words.rest))

abbrev pub decreases-loop-word : goal.decreases-loop-word
decreases-loop-word l = size_left (option_copied l.words.rest)
