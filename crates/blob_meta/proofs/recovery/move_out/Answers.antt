use Rattle.std.proofs.Common.{sym}
use Rattle.blob_meta.proofs.MapEdits.{left_behind, moved_in}
use Rattle.blob_meta.proofs.recovery.move_out.Goals as goal

pub returns-in_ok-insert-clause-left : goal.returns-in_ok-insert-clause-left
returns-in_ok-insert-clause-left c =
    left_behind c.args.metas.now c.remove.new.self c.args.head c.remove.ensures.removed

pub returns-in_ok-insert-clause-taken : goal.returns-in_ok-insert-clause-taken
returns-in_ok-insert-clause-taken c =
    moved_in c.args.metas.now c.args.taken.now c.insert.new.self c.args.head c.in-Some.meta
    (sym c.in-Some.ensures.value) c.in_ok-insert.ensures.ok

pub returns-in_default-clause-left : goal.returns-in_default-clause-left
returns-in_default-clause-left c =
    left_behind c.args.metas.now c.remove.new.self c.args.head c.remove.ensures.removed
