use Rattle.std.proofs.Common.{None, ap}
use Rattle.std.specs.Option.{option_map}
use Rattle.running_store.specs.Jobs.{job_seen}
use Rattle.running_store.specs.Running.{view_of}
use Rattle.running_store.specs.StoreView.{StoreView}
use Rattle.channel_turns.proofs.FillClaimed.{fill_ended, fill_row_ended}
use Rattle.channel_turns.proofs.filling.end_fill.Goals as goal

pub returns-clause-case : goal.returns-clause-case
returns-clause-case g c =
    fill_ended g.D.PageDisk (view_of c.args.running.now) c.requires.order.seventeen
    (ap (λ o. option_map job_seen o) c.requires.no_job) _
    (ap (λ (v : StoreView g.row.D.Denot). record v { filling = None }) c.give_back.ensures.given_back)

pub returns-clause-row : goal.returns-clause-row
returns-clause-row g c =
    fill_row_ended (view_of c.args.running.now) (record (view_of c.give_back.new.running) { filling = None })
    c.requires.order.seventeen
    (ap (λ (v : StoreView g.row.D.Denot). record v { filling = None }) c.give_back.ensures.given_back)
