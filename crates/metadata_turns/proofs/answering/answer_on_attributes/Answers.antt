use Rattle.std.proofs.Common.{◌<◌, length, refl, sym, ◌∙◌, ap, subst, arith}
use Rattle.std.specs.Option.{option_copied, option_map}
use Rattle.blob_meta.specs.Asked.{asked_volume, IsOnAttributes}
use Rattle.volume_model.specs.declared.command.Command.{Command}
use Rattle.volume_model.specs.declared.reply.Reply.TheVariants.{Memory}
use Rattle.store_model.specs.Cases.{IsInMemory}
use Rattle.store_model.specs.Shown.{fixed_of}
use Rattle.store_model.specs.StoreState.{shown}
use Rattle.metadata_turns.specs.Answering.{ComesTo, IsFound}
use Rattle.running_store.specs.Jobs.{job_seen}
use Rattle.running_store.specs.Running.{view_of}
use Rattle.running_store.specs.StoreView.{state_of}
use Rattle.metadata_turns.proofs.AnswerMade.{answer_made}
use Rattle.metadata_turns.proofs.Answered.{answered_by, answered_memory, live_kept, not_df}
use Rattle.metadata_turns.proofs.PostedFirst.{of_posted, posted_read}
use Rattle.metadata_turns.proofs.Found.{asks_volume, is_live_of, named_asked, shows_live}
use Rattle.metadata_turns.proofs.answering.answer_on_attributes.Goals as goal

pub effect_of-requires-clause-in_memory : goal.effect_of-requires-clause-in_memory
effect_of-requires-clause-in_memory g c =
    subst IsInMemory (sym (posted_read c.requires.posted c.deref.ensures.value c.first_of-command.ensures))
    (of_posted c.requires.posted c.requires.asked).1

pub effect_of-requires-clause-attributes : goal.effect_of-requires-clause-attributes
effect_of-requires-clause-attributes g c =
    subst IsOnAttributes (sym (posted_read c.requires.posted c.deref.ensures.value c.first_of-command.ensures))
    (of_posted c.requires.posted c.requires.asked).0

pub asked_volume-requires : goal.asked_volume-requires
asked_volume-requires g c =
    asks_volume c.first_of-command.result.now
    (subst IsOnAttributes (sym (posted_read c.requires.posted c.deref.ensures.value c.first_of-command.ensures))
    (of_posted c.requires.posted c.requires.asked).0)

pub effect_of-requires-clause-live : goal.effect_of-requires-clause-live
effect_of-requires-clause-live g c =
    let old = c.args.running.now in
    is_live_of (state_of g.D.PageDisk (view_of old)) c.requires.running c.requires.runs old.metas
    c.requires.order.resolves.resolves
    old.live refl
    c.first_of-command.result.now c.find-head.result (option_copied c.live_at-live.result)
    (record {
      volume = c.asked_volume.result.now;
      asked = c.asked_volume.ensures;
      there = c.find-head.ensures.some;
      not_there = c.find-head.ensures.none;
      meant = c.find-head.ensures.meant;
      live_is = c.live_at-live.ensures;
    })

pub returns-in-Err-clause-case : goal.returns-in-Err-clause-case
returns-in-Err-clause-case g c =
    let d = g.D.PageDisk in
    let old = c.args.running.now in
    let waits = c.requires.posted.waits in
    let low : c.args.channel < length old.rows.items = omega (arith, c.requires.channel, c.requires.order.seventeen) in
    let on = of_posted c.requires.posted c.requires.asked in
    let well = c.requires.running.facts.well c.requires.runs in
    let x = answered_memory c.requires.running.first (state_of d (view_of old)) waits.command well on.1 in
    answer_made d (view_of old) (view_of c.log-in-Err.new.running) c.args.channel low c.requires.posted
    c.requires.unfilled c.requires.runs
    (ap (λ o. option_map job_seen o) c.requires.no_job) Memory _ old.live on.1 x (λ df is. absurd (cc is)) refl
    (of_posted c.requires.posted c.log-in-Err.ensures.logged)

pub returns-in-Ok-clause-case : goal.returns-in-Ok-clause-case
returns-in-Ok-clause-case g c =
    let d = g.D.PageDisk in
    let waits = c.requires.posted.waits in
    let old = c.args.running.now in
    let p = state_of d (view_of old) in
    let reply = c.in-Ok.field-0.reply in
    let low : c.args.channel < length old.rows.items = omega (arith, c.requires.channel, c.requires.order.seventeen) in
    let on = of_posted c.requires.posted c.requires.asked in
    let well = c.requires.running.facts.well c.requires.runs in
    let command_is = posted_read c.requires.posted c.deref.ensures.value c.first_of-command.ensures in
    let o = option_copied c.live_at-live.result in
    let head = c.find-head.result in
    let comes : ComesTo old.metas old.sup head o waits.command c.in-Ok.field-0 =
    subst (λ (k : Command). ComesTo old.metas old.sup head o k c.in-Ok.field-0) command_is c.in-Ok.ensures in
    let found : IsFound old.metas old.sup old.live waits.command head o =
    record {
      volume = c.asked_volume.result.now;
      asked = ap asked_volume (sym command_is) ∙ c.asked_volume.ensures;
      there = c.find-head.ensures.some;
      not_there = c.find-head.ensures.none;
      meant = c.find-head.ensures.meant;
      live_is = c.live_at-live.ensures;
    } in
    let shows = shows_live p c.requires.running c.requires.runs old.metas c.requires.order.resolves.resolves
    old.live refl waits.command head o found
    in
    let meant = named_asked (fixed_of p.super) (shown p) waits.command found.volume found.asked
    ∙ found.meant (fixed_of p.super) (shown p) shows.shows in
    let x = answered_by c.requires.running.first p old.metas waits.command head o c.in-Ok.field-0 well on.1 meant
    found.live_is shows comes in
    let kept = live_kept old.live c.keep_live.new.live c.in-Ok.field-0.live c.keep_live.ensures.none
    c.keep_live.ensures.some in
    answer_made d (view_of old) (view_of c.log.new.running) c.args.channel low c.requires.posted
    c.requires.unfilled c.requires.runs
    (ap (λ o. option_map job_seen o) c.requires.no_job) reply c.in-Ok.field-0.live c.keep_live.new.live on.1 x
    (λ df is. absurd (not_df (fixed_of p.super) (shown p) waits.command reply on x.allowed df is)) kept
    (of_posted c.requires.posted c.log.ensures.logged)
