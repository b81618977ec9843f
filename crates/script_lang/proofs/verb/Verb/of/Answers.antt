use Rattle.std.proofs.Common.{◌∙◌, rules, tests}
use Rattle.std.proofs.lemmas.Iterator.{YieldsList-from_slice}
use Rattle.std.proofs.lemmas.Iterator.Search.{find_from_yields_List}
use Rattle.script_lang.specs.Verbs.{is_verb, verb_in, verbs}
use Rattle.script_lang.proofs.verb.Verb.of.Goals as goal

pub returns : goal.returns
unfolding verb_in
returns c =
    c.copied.ensures
    ∙ find_from_yields_List (is_verb c.args.word.now) _ _ c.find.result c.find.ensures.ran
    (YieldsList-from_slice verbs (search rules)) (λ x b q k. search (rules, tests))
