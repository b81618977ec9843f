use Rattle.std.proofs.Common.{◌≡◌, false, sym, ◌∙◌, rules}
use Rattle.std.proofs.lemmas.Bool.{false≢true}
use Rattle.lvol_store.specs.Names.{is_name}
use Rattle.lvol_store.proofs.Named.{is_name-from_IsName}
use Rattle.lvol_store.proofs.words.check_name.Goals as goal

pub returns-else-is_name-clause-bad : goal.returns-else-is_name-clause-bad
returns-else-is_name-clause-bad c n =
    let no : is_name c.args.text.now ≡ false = search rules in
    false≢true (sym no ∙ is_name-from_IsName c.args.text.now n)
