use Rattle.std.proofs.Common.{◌<◌, length, refl, sym, ap, subst, arith}
use Rattle.std.specs.Option.{option_map}
use Rattle.volume_model.specs.declared.command.Command.{Command}
use Rattle.volume_model.specs.declared.reply.Reply.TheVariants.{Memory}
use Rattle.store_model.specs.Cases.{df_of}
use Rattle.running_store.specs.Jobs.{job_seen}
use Rattle.running_store.specs.Running.{view_of}
use Rattle.running_store.specs.StoreView.{state_of}
use Rattle.metadata_turns.specs.Infos.{IsQuestion, Tells}
use Rattle.metadata_turns.proofs.AnswerMade.{answer_made}
use Rattle.metadata_turns.proofs.Answered.{answered_memory}
use Rattle.metadata_turns.proofs.PostedFirst.{of_posted, posted_read}
use Rattle.metadata_turns.proofs.Told.{answered_question, asks_in_memory, parents_fit, tells_free}
use Rattle.metadata_turns.proofs.answering.answer_question.Goals as goal

pub reply_to-requires-clause-parents : goal.reply_to-requires-clause-parents
reply_to-requires-clause-parents g c =
    let old = c.args.running.now in
    parents_fit (state_of g.D.PageDisk (view_of old)) c.requires.running c.requires.runs old.metas
    c.requires.order.resolves.resolves old.live refl

pub reply_to-requires-clause-question : goal.reply_to-requires-clause-question
reply_to-requires-clause-question g c =
    subst IsQuestion (sym (posted_read c.requires.posted c.deref.ensures.value c.first_of-command.ensures))
    (of_posted c.requires.posted c.requires.asks)

pub returns-in-Err-clause-case : goal.returns-in-Err-clause-case
returns-in-Err-clause-case g c =
    let d = g.D.PageDisk in
    let old = c.args.running.now in
    let waits = c.requires.posted.waits in
    let low : c.args.channel < length old.rows.items = omega (arith, c.requires.channel, c.requires.order.seventeen) in
    let in_memory = asks_in_memory waits.command (of_posted c.requires.posted c.requires.asks) in
    let well = c.requires.running.facts.well c.requires.runs in
    let x = answered_memory c.requires.running.first (state_of d (view_of old)) waits.command well in_memory in
    answer_made d (view_of old) (view_of c.log-in-Err.new.running) c.args.channel low c.requires.posted
    c.requires.unfilled c.requires.runs
    (ap (λ o. option_map job_seen o) c.requires.no_job) Memory _ old.live in_memory x (λ df is. absurd (cc is)) refl
    (of_posted c.requires.posted c.log-in-Err.ensures.logged)

pub returns-in-Ok-clause-case : goal.returns-in-Ok-clause-case
returns-in-Ok-clause-case g c =
    let d = g.D.PageDisk in
    let old = c.args.running.now in
    let p = state_of d (view_of old) in
    let waits = c.requires.posted.waits in
    let low : c.args.channel < length old.rows.items = omega (arith, c.requires.channel, c.requires.order.seventeen) in
    let question = of_posted c.requires.posted c.requires.asks in
    let reply = c.in-Ok.reply in
    let tells : Tells old.metas old.live old.sup (df_of p) waits.command reply =
    subst (λ (k : Command). Tells old.metas old.live old.sup (df_of p) k reply)
    (posted_read c.requires.posted c.deref.ensures.value c.first_of-command.ensures) c.in-Ok.ensures in
    let resolves = c.requires.order.resolves.resolves in
    answer_made d (view_of old) (view_of c.log.new.running) c.args.channel low c.requires.posted
    c.requires.unfilled c.requires.runs
    (ap (λ o. option_map job_seen o) c.requires.no_job) reply _ old.live (asks_in_memory waits.command question)
    (answered_question p c.requires.running c.requires.runs old.metas resolves old.live refl waits.command reply
    question tells)
    (tells_free p c.requires.running c.requires.runs old.metas resolves old.live refl waits.command reply question
    tells)
    refl (of_posted c.requires.posted c.log.ensures.logged)
