use Rattle.running_store.proofs.Resolved.{is_unmarked}
use Rattle.running_store.proofs.running.Running.is_unmarked.Goals as goal

pub returns : goal.returns
returns g c = is_unmarked c.args.self.now.metas c.args.self.now.marked c.requires c.next_from.result
    c.next_from.ensures.some c.next_from.ensures.none c.is_none.result c.is_none.ensures
