use Rattle.std.proofs.Common.{subst}
use Rattle.running_store.specs.StoreView.{state_of}
use Rattle.md_thread.specs.Tasks.{ServesMessage}
use Rattle.md_thread.proofs.FillsEnded.{served_ends}
use Rattle.md_thread.proofs.StandsNow.{unused}
use Rattle.md_thread.proofs.filling.between_slots.Goals as goal

pub returns-in-Fills-clause-moves : goal.returns-in-Fills-clause-moves
returns-in-Fills-clause-moves g c = λ low posted.
    (subst (ServesMessage g.D.PageDisk c.args.plant.now.at c.serve.new.plant.at c.args.msg.channel) c.in-Fills.is
    (c.serve.ensures.turn low posted.stage)).1

pub returns-in-Done-clause-moves : goal.returns-in-Done-clause-moves
returns-in-Done-clause-moves g c = λ low posted.
    let d = g.D.PageDisk in
    served_ends d.tells (state_of d c.args.plant.now.at) (state_of d c.serve.new.plant.at) c.args.msg.channel
    posted.unclaimed (unused d c.state_turns.ensures c.args.plant.now c.keeps.ensures c.requires.over)
    (subst (ServesMessage d c.args.plant.now.at c.serve.new.plant.at c.args.msg.channel) c.in-Done.is
    (c.serve.ensures.turn low posted.stage))
