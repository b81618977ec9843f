use Rattle.channels.specs.Actors.{actor_in_run}
use Rattle.channels.proofs.Stepping.{steps, still_driven}
use Rattle.channels.proofs.driver.Driver.step.Goals as goal

pub returns-clause-step : goal.returns-clause-step
returns-clause-step g c =
    steps g.D.PageDisk c.steps_are_moves.ensures c.rows_stay_plain.ensures c.moves_keep_facts.ensures c.args.self.now
    c.acts.new.self c.requires.driven c.keeps.ensures c.keeps-2.ensures c.acts.ensures.store
    (actor_in_run c.args.actor) c.acts.ensures.step c.state_turns.ensures

pub returns-clause-driven : goal.returns-clause-driven
returns-clause-driven g c =
    still_driven g.D.PageDisk c.steps_are_moves.ensures c.rows_stay_plain.ensures c.moves_keep_facts.ensures
    c.args.self.now c.acts.new.self c.requires.driven c.keeps.ensures c.keeps-2.ensures c.acts.ensures.store
    (actor_in_run c.args.actor) c.acts.ensures.step c.state_turns.ensures c.acts.ensures.channels c.acts.ensures.fill
