use Rattle.std.proofs.Common.{Some, sym, ◌∙◌, ap, subst}
use Rattle.running_store.specs.StoreView.{state_of, WithOpening}
use Rattle.run_moves.specs.DriverSteps.{ChannelTurn, PostingTurn}
use Rattle.volume_model.specs.declared.reply.Msg.{Msg as AMsg}
use Rattle.channels.specs.ChannelState.{ChannelState}
use Rattle.channels.specs.ChannelSteps.{posted, turned, IsHeldUp}
use Rattle.md_thread.specs.Leading.{stays}
use Rattle.md_thread.proofs.TurnsRepaired.{led}
use Rattle.channels.proofs.Keeping.{channel_kind, posting_kind}
use Rattle.channels.proofs.NextSteps.{nothing_unsent}
use Rattle.channels.proofs.channel.Channel.turn.Goals.{in-Waiting, in-Again, in-Send}
use Rattle.channels.proofs.channel.Channel.turn.Goals as goal

pub returns-clause-moved : goal.returns-clause-moved
returns-clause-moved g c moved =
    let channel = ap (λ (s : ChannelState). s.channel) c.self.view_is in
    let p = state_of g.D.PageDisk c.args.plant.now.at in
    let q = state_of g.D.PageDisk c.own_turn.new.plant.at in
    elim c.match-own_turn.branch [
      | in-Waiting w ↦ absurd (let bad = sym w.turn-is ∙ moved in cc bad)
      | in-Again w ↦
          turned (subst (ChannelTurn g.D.PageDisk.tells p q) channel (c.own_turn.ensures.turns w.in-Again.is))
          (ap (λ s. s.unsent) w.self-inside-is ∙ ap (λ (s : ChannelState). s.unsent) c.self.view_is
          ∙ nothing_unsent c.args.self.now c.requires.next)
      | in-Send w ↦
          let x = c.own_turn.ensures.posts w.in-Send.msg w.in-Send.is in
          posted (subst (PostingTurn g.D.PageDisk.tells p q) channel x.turn)
          (ap (λ s. s.unsent) w.self-inside-is ∙ ap (λ (m : AMsg). Some m.serial) x.message)
    ]

pub returns-clause-leads : goal.returns-clause-leads
returns-clause-leads g c =
    elim c.match-own_turn.branch [
      | in-Waiting w ↦
          stays (ap (λ (x : WithOpening g.row.D.Denot). state_of g.D.PageDisk x.at)
          (c.own_turn.ensures.waiting w.in-Waiting.is))
      | in-Again w ↦ led _ _ _ (channel_kind _ _ _ _ (c.own_turn.ensures.turns w.in-Again.is))
      | in-Send w ↦
          let x = c.own_turn.ensures.posts w.in-Send.msg w.in-Send.is in led _ _ _ (posting_kind _ _ _ _ x.turn)
    ]

pub returns-clause-idle : goal.returns-clause-idle
returns-clause-idle g c idle =
    let channel = ap (λ (s : ChannelState). s.channel) c.self.view_is in
    elim c.match-own_turn.branch [
      | in-Waiting w ↦
          subst (IsHeldUp (state_of g.D.PageDisk c.args.plant.now.at)) channel
          (c.own_turn.ensures.waits w.in-Waiting.is)
      | in-Again w ↦ absurd (let bad = sym w.turn-is ∙ idle in cc bad)
      | in-Send w ↦ absurd (let bad = sym w.turn-is ∙ idle in cc bad)
    ]
