use Rattle.std.proofs.Common.{◌≡◌, IsSome, subst, sym}
use Rattle.job_begins.specs.declared.inserting.InsertTurn.TheVariants.{Logged}
use Rattle.running_store.specs.GivingBack.{halting}
use Rattle.running_store.specs.TurnMade.{TurnMade}
use Rattle.running_store.specs.Running.{view_of, with_opening}
use Rattle.running_store.specs.Requests.{IsInsertPosted}
use Rattle.store_model.specs.Repairing.{IsRepaired}
use Rattle.running_store.specs.StoreView.{WithOpening, state_of}
use Rattle.store_core.proofs.InsertKept.{holds_posted, insert_low, inserting_or_not}
use Rattle.store_core.proofs.FillKept.{fill_kept}
use Rattle.store_core.proofs.Posting.{kept_running}
use Rattle.store_core.proofs.plant.Plant.begin_insert.Goals as goal

pub begin_insert_or_halt-requires-clause-row : goal.begin_insert_or_halt-requires-clause-row
begin_insert_or_halt-requires-clause-row g c = insert_low (view_of c.self.inside.running) c.args.msg
    c.self.invariant.1.seventeen
    (subst (λ (b : WithOpening g.row.D.Denot). IsInsertPosted b.at.rows c.args.msg) (sym c.self.view_is)
    c.requires.posted)

pub begin_insert_or_halt-requires-clause-repaired : goal.begin_insert_or_halt-requires-clause-repaired
begin_insert_or_halt-requires-clause-repaired g c =
    subst (λ (b : WithOpening g.row.D.Denot). IsRepaired (state_of g.D.PageDisk b.at)) (sym c.self.view_is)
    c.requires.repaired

pub begin_insert_or_halt-requires-clause-posted : goal.begin_insert_or_halt-requires-clause-posted
begin_insert_or_halt-requires-clause-posted g c = holds_posted g.D.PageDisk
    (with_opening c.self.inside.running c.self.inside.opening.value c.self.inside.right.value.name)
    c.self.invariant.0 c.args.msg
    (subst (λ (b : WithOpening g.row.D.Denot). IsInsertPosted b.at.rows c.args.msg) (sym c.self.view_is)
    c.requires.posted)

pub begin_insert_or_halt-requires-clause-running : goal.begin_insert_or_halt-requires-clause-running
begin_insert_or_halt-requires-clause-running g c = kept_running g.D.PageDisk
    (with_opening c.self.inside.running c.self.inside.opening.value c.self.inside.right.value.name)
    c.self.invariant.0

pub begin_insert_or_halt-requires-clause-fill : goal.begin_insert_or_halt-requires-clause-fill
begin_insert_or_halt-requires-clause-fill g c = fill_kept g.D.PageDisk
    (with_opening c.self.inside.running c.self.inside.opening.value c.self.inside.right.value.name)
    c.self.invariant.0

pub invariant_of-self : goal.invariant_of-self
invariant_of-self g c =
    let p = (with_opening c.self.inside.running c.self.inside.opening.value c.self.inside.right.value.name) in
    let q = view_of c.begin_insert_or_halt.new.running in (
      inserting_or_not g.D.PageDisk p q c.args.msg.channel c.begin_insert_or_halt.result
          (λ k made. c.goes_on.ensures p q k c.self.invariant.0 made)
          c.begin_insert_or_halt.ensures.begins c.begin_insert_or_halt.ensures.halted,
      c.begin_insert_or_halt.ensures.order,
    )

pub returns-clause-halted : goal.returns-clause-halted
returns-clause-halted g c = subst (λ (b : WithOpening g.row.D.Denot). IsSome b.at.stopped
    → (c.begin_insert_or_halt.result ≡ Logged)
    × TurnMade g.D.PageDisk b.at (view_of c.begin_insert_or_halt.new.running) (halting c.args.msg.channel))
    c.self.view_is c.begin_insert_or_halt.ensures.halted
