use Rattle.std.proofs.Common.{sym, subst, ◌++◌, ◌∷◌, []}
use Rattle.page_disk.specs.Record.{IsIndex}
use Rattle.page_disk.specs.declared.record.Call.{Call}
use Rattle.page_disk.proofs.Index.{after_write, after_flush}
use Rattle.page_disk.proofs.memory_disk.note.Goals as goal

pub returns-in-Ok-clause-index : goal.returns-in-Ok-clause-index
returns-in-Ok-clause-index c =
    subst (λ (x : Call). IsIndex (c.args.calls.now ++ x ∷ []) c.insert.new.self.entries) (sym c.in-Write.is)
    (after_write c.args.calls.now c.in-Write.page c.in-Write.content c.in-Write.kind
    c.args.newest.now.entries c.insert.new.self.entries c.in-Ok.ensures.updates.0 c.requires.index)

pub returns-in-Flush-clause-index : goal.returns-in-Flush-clause-index
returns-in-Flush-clause-index c =
    subst (λ (x : Call). IsIndex (c.args.calls.now ++ x ∷ []) c.args.newest.now.entries) (sym c.in-Flush.is)
    (after_flush c.args.calls.now c.args.newest.now.entries c.requires.index)
