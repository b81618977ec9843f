use Rattle.std.proofs.Common.{◌≡◌, ℕ, ◌<◌, ap, sym, subst}
use Rattle.store_model.specs.Filling.{unused_row}
use Rattle.store_model.specs.Repairing.{IsRepaired}
use Rattle.store_model.specs.Rows.{fill_row}
use Rattle.store_core.specs.StoreInvariant.{StoreInvariant}
use Rattle.running_store.specs.StoreView.{rows_of, state_of, WithOpening}
use Rattle.run_moves.specs.DrivenStore.{DrivenStore}
use Rattle.run_moves.specs.DriverSteps.{StoreFollows}
use Rattle.channels.specs.Actors.{actors_in_run}
use Rattle.channels.specs.Driving.{driven}
use Rattle.channels.specs.RunEnds.{ended_row}
use Rattle.channels.proofs.Leading.{stepwise_leads}
use Rattle.channels.proofs.Ending.{row_over, row_unused}
use Rattle.channels.proofs.stepwise.run_stepwise.Goals as goal

pub returns-clause-follows : goal.returns-clause-follows
returns-clause-follows g c =
    let d = g.D.PageDisk in
    record {
      last = driven d c.run.new.self;
      is = ap (λ (p : WithOpening g.row.D.Denot). state_of d p.at) (sym c.into_parts-plant.ensures.0);
      follows = subst (λ (w : DrivenStore). StoreFollows d.tells (actors_in_run c.args.schedule.now) w
          (driven d c.run.new.self)) c.new-driver.ensures.starts c.run.ensures.follows;
    }

pub returns-clause-leads : goal.returns-clause-leads
returns-clause-leads g c =
    stepwise_leads g.D.PageDisk.tells (actors_in_run c.args.schedule.now) _ _ (returns-clause-follows g c)

pub returns-clause-ended : goal.returns-clause-ended
returns-clause-ended g c =
    let d = g.D.PageDisk in
    let v = c.run.new.self in
    let kept = subst (StoreInvariant d) c.into_parts-plant.ensures.0 c.keeps.ensures in
    subst (λ (p : WithOpening g.row.D.Denot). (channel : ℕ) → channel < 16 → rows_of p.at.rows channel ≡ ended_row)
    (sym c.into_parts-plant.ensures.0)
    (row_over d v.plant kept v.channels v.queue v.metadata c.run.ensures.follows.ended_then)

pub returns-clause-repaired : goal.returns-clause-repaired
returns-clause-repaired g c =
    subst (λ (p : WithOpening g.row.D.Denot). IsRepaired (state_of g.D.PageDisk p.at))
    (sym c.into_parts-plant.ensures.0) c.run.ensures.driven.repaired

pub returns-clause-unused : goal.returns-clause-unused
returns-clause-unused g c =
    let d = g.D.PageDisk in
    let v = c.run.new.self in
    let kept = subst (StoreInvariant d) c.into_parts-plant.ensures.0 c.keeps.ensures in
    subst (λ (p : WithOpening g.row.D.Denot). rows_of p.at.rows fill_row ≡ unused_row)
    (sym c.into_parts-plant.ensures.0)
    (row_unused d v.plant kept v.channels v.queue v.metadata c.run.ensures.follows.ended_then c.state_turns.ensures)
