use Rattle.std.proofs.Common.{sym, ap, ◌∙◌}
use Rattle.std.specs.FinMap as map
use Rattle.std.proofs.lemmas.Result.{on_ok_weaker, on_err_weaker}
use Rattle.blob_meta.proofs.MapOfEntries.{map_of, get-entries, entries-put}
use Rattle.blob_meta.proofs.head_map.HeadMap.insert.Goals as goal

pub returns-clause-ok : goal.returns-clause-ok
returns-clause-ok g c =
    on_ok_weaker c.insert_entry.result (λ is.
    ap map_of is ∙ entries-put c.self.inside.entries.items c.args.head c.args.value c.self.invariant.in_order
    ∙ ap (λ m. map.insert m c.args.head c.args.value) c.self.view_is) c.insert_entry.ensures.ok

pub returns-clause-absent : goal.returns-clause-absent
returns-clause-absent g c =
    on_err_weaker c.insert_entry.result (λ none.
    ap (λ m. map.get m c.args.head) (sym c.self.view_is)
    ∙ get-entries c.self.inside.entries.items c.args.head c.self.invariant.in_order ∙ none)
    c.insert_entry.ensures.absent
