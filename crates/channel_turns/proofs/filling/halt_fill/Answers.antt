use Rattle.std.proofs.Common.{ap}
use Rattle.store_model.specs.Rows.{Row}
use Rattle.running_store.specs.Running.{view_of}
use Rattle.channel_turns.proofs.FillClaimed.{fill_halted}
use Rattle.channel_turns.proofs.filling.halt_fill.Goals as goal

pub returns-clause-case : goal.returns-clause-case
returns-clause-case g c =
    let waits = c.requires.posted.waits in
    let left = ap (λ (x : Row). x.left) waits.row in
    fill_halted g.D.PageDisk (view_of c.args.running.now) c.args.channel c.requires.posted c.requires.order.seventeen
    c.requires.unused c.requires.fill (c.requires.fills waits.command waits.rest left) c.args.at c.requires.stopped
    (view_of c.log.new.running) (c.log.ensures.logged waits.command waits.rest left)
