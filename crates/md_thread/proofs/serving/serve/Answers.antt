use Rattle.store_model.specs.Cases as kind
use Rattle.store_model.specs.Rows.{Row}
use Rattle.job_begins.specs.Begins.{row_begun}
use Rattle.running_store.specs.Steps.{decided}
use Rattle.running_store.specs.StoreView.{rows_of}
use Rattle.md_thread.proofs.MessageTurns.{by_answer, by_begin, by_insert, by_refusal, inserting_alone}
use Rattle.md_thread.proofs.SomeTurns.{some_begin, some_insert, some_logged}
use Rattle.md_thread.proofs.StandsNow.{posted_filled, unfilled}
use Rattle.md_thread.proofs.TurnsRepaired.{led, turned}
use Rattle.md_thread.proofs.serving.serve.Goals as goal

pub returns-in-Insert-clause-turn : goal.returns-in-Insert-clause-turn
returns-in-Insert-clause-turn g c = λ low posted.
    let p = c.args.plant.now.at in
    let q = c.begin_insert.new.self.at in
    let only = inserting_alone p.rows q.rows p.filling c.args.msg.channel low c.begin_insert.result
    c.begin_insert.ensures.rows in
    by_insert g.D.PageDisk p q c.args.msg.channel c.args.msg.serial posted only.0 only.1 low c.begin_insert.result
    c.begin_insert.ensures.begins c.begin_insert.ensures.halted

pub returns-in-Answer-clause-turn : goal.returns-in-Answer-clause-turn
returns-in-Answer-clause-turn g c = λ low posted.
    let row : Row = rows_of c.args.plant.now.at.rows c.args.msg.channel in
    by_answer g.D.PageDisk c.args.plant.now.at c.answer.new.self.at c.args.msg.channel c.args.msg.serial posted
    (decided row) c.answer.ensures.row c.answer.ensures.answered c.answer.ensures.halted

pub returns-in-Refuse-clause-turn : goal.returns-in-Refuse-clause-turn
returns-in-Refuse-clause-turn g c = λ low posted.
    let row : Row = rows_of c.args.plant.now.at.rows c.args.msg.channel in
    by_refusal g.D.PageDisk c.args.plant.now.at c.refuse.new.self.at c.args.msg.channel c.args.msg.serial posted
    (decided row) c.refuse.ensures.row c.refuse.ensures.refused c.refuse.ensures.halted

pub returns-in-Begin-clause-turn : goal.returns-in-Begin-clause-turn
returns-in-Begin-clause-turn g c = λ low posted.
    let row : Row = rows_of c.args.plant.now.at.rows c.args.msg.channel in
    by_begin g.D.PageDisk c.args.plant.now.at c.begin_job.new.self.at c.args.msg.channel c.args.msg.serial posted
    (row_begun c.begin_job.result row) c.begin_job.ensures.row c.begin_job.result c.begin_job.ensures.begins
    c.begin_job.ensures.halted

pub answer-requires-clause-unfilled : goal.answer-requires-clause-unfilled
answer-requires-clause-unfilled g c =
    unfilled g.D.PageDisk c.state_turns.ensures c.args.plant.now c.keeps.ensures
    (c.requires.over c.in-Answer.ensures.0) c.args.msg.channel

pub refuse-requires-clause-unfilled : goal.refuse-requires-clause-unfilled
refuse-requires-clause-unfilled g c =
    unfilled g.D.PageDisk c.state_turns.ensures c.args.plant.now c.keeps.ensures
    (c.requires.over c.in-Refuse.ensures.0) c.args.msg.channel

pub begin_job-requires-clause-unfilled : goal.begin_job-requires-clause-unfilled
begin_job-requires-clause-unfilled g c =
    unfilled g.D.PageDisk c.state_turns.ensures c.args.plant.now c.keeps.ensures
    (c.requires.over c.in-Begin.ensures.0) c.args.msg.channel

pub returns-in-Claim-clause-turn : goal.returns-in-Claim-clause-turn
returns-in-Claim-clause-turn g c = λ low posted.
    let task = c.in-Claim.ensures in
    let p = c.args.plant.now.at in (
      posted_filled g.D.PageDisk c.state_turns.ensures c.args.plant.now c.keeps.ensures c.args.msg task.0
          (λ command rest left. (task.2 command rest left).asks),
      c.claim_slot.ensures.moves,
    )

pub returns-in-Insert-clause-repaired : goal.returns-in-Insert-clause-repaired
returns-in-Insert-clause-repaired g c =
    let d = g.D.PageDisk in
    turned d c.state_turns.ensures c.args.plant.now c.begin_insert.new.self c.keeps.ensures
    (some_insert d c.args.plant.now.at c.begin_insert.new.self.at c.begin_insert.result c.args.msg.channel
    c.begin_insert.ensures.begins
    c.begin_insert.ensures.halted) c.requires.repaired

pub returns-in-Insert-clause-leads : goal.returns-in-Insert-clause-leads
returns-in-Insert-clause-leads g c =
    let d = g.D.PageDisk in
    led _ _ _ (some_insert d c.args.plant.now.at c.begin_insert.new.self.at c.begin_insert.result c.args.msg.channel
    c.begin_insert.ensures.begins
    c.begin_insert.ensures.halted)

pub returns-in-Answer-clause-repaired : goal.returns-in-Answer-clause-repaired
returns-in-Answer-clause-repaired g c =
    let d = g.D.PageDisk in
    turned d c.state_turns.ensures c.args.plant.now c.answer.new.self c.keeps.ensures
    (some_logged d c.args.plant.now.at c.answer.new.self.at kind.answers c.answer.ensures.answered
    c.answer.ensures.halted) c.requires.repaired

pub returns-in-Answer-clause-leads : goal.returns-in-Answer-clause-leads
returns-in-Answer-clause-leads g c =
    let d = g.D.PageDisk in
    led _ _ _ (some_logged d c.args.plant.now.at c.answer.new.self.at kind.answers c.answer.ensures.answered
    c.answer.ensures.halted)

pub returns-in-Refuse-clause-repaired : goal.returns-in-Refuse-clause-repaired
returns-in-Refuse-clause-repaired g c =
    let d = g.D.PageDisk in
    turned d c.state_turns.ensures c.args.plant.now c.refuse.new.self c.keeps.ensures
    (some_logged d c.args.plant.now.at c.refuse.new.self.at kind.refuses c.refuse.ensures.refused
    c.refuse.ensures.halted) c.requires.repaired

pub returns-in-Refuse-clause-leads : goal.returns-in-Refuse-clause-leads
returns-in-Refuse-clause-leads g c =
    let d = g.D.PageDisk in
    led _ _ _ (some_logged d c.args.plant.now.at c.refuse.new.self.at kind.refuses c.refuse.ensures.refused
    c.refuse.ensures.halted)

pub returns-in-Begin-clause-repaired : goal.returns-in-Begin-clause-repaired
returns-in-Begin-clause-repaired g c =
    let d = g.D.PageDisk in
    turned d c.state_turns.ensures c.args.plant.now c.begin_job.new.self c.keeps.ensures
    (some_begin d c.args.plant.now.at c.begin_job.new.self.at c.begin_job.result c.begin_job.ensures.begins
    c.begin_job.ensures.halted) c.requires.repaired

pub returns-in-Begin-clause-leads : goal.returns-in-Begin-clause-leads
returns-in-Begin-clause-leads g c =
    let d = g.D.PageDisk in
    led _ _ _ (some_begin d c.args.plant.now.at c.begin_job.new.self.at c.begin_job.result c.begin_job.ensures.begins
    c.begin_job.ensures.halted)
