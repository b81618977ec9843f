use Rattle.std.proofs.Common.{rules}
use Rattle.blob_meta.proofs.MapEdits.{replaced_by, replaced_by_none}
use Rattle.blob_meta.proofs.recovery.replace.Goals as goal

pub returns-in_ok-insert-in-Some : goal.returns-in_ok-insert-in-Some
returns-in_ok-insert-in-Some c =
    replaced_by c.args.metas.now c.insert.new.self c.args.replacement.now _ c.in_ok-insert-in-Some.ensures.ok
    (search rules)

pub returns-in-None : goal.returns-in-None
returns-in-None c =
    replaced_by_none c.args.metas.now c.remove-erased.new.self c.args.replacement.now c.remove-erased.ensures.removed
    (search rules)
