use Rattle.std.proofs.Common.{◌≡◌, None, Some, sym, ◌∙◌, ap, refl, subst}
use Rattle.running_store.specs.Requests.{IsPostedBy}
use Rattle.running_store.specs.StoreView.{state_of}
use Rattle.md_thread.specs.contracts.state.MdState.{the_view}
use Rattle.md_thread.specs.Holding.{MetadataState}
use Rattle.md_thread.specs.Tasks.{ServesMessage}
use Rattle.md_thread.specs.Turns.{ServiceMade}
use Rattle.md_thread.specs.declared.serving.Served.TheVariants as served
use Rattle.md_thread.proofs.Services.{asked_done, asked_ended, asked_on, done, ended, went_on}
use Rattle.md_thread.proofs.state.MdState.serve.Goals as goal

pub returns-in-Fills-GoesOn-clause-made : goal.returns-in-Fills-GoesOn-clause-made
returns-in-Fills-GoesOn-clause-made g c = λ low posted.
    let d = g.D.PageDisk in
    let p = c.args.plant.now.at in
    let q = c.serve.new.plant.at in
    let is = c.in-Fills-GoesOn.is ∙ ap served.Fills c.in-Fills-GoesOn.field-0-is in
    subst
    (λ (x : MetadataState). (IsPostedBy p.rows c.args.msg → x.fill ≡ None)
    → ServiceMade d.tells (state_of d p) (state_of d q) c.args.msg x
    (record (the_view c.self.inside) { fill = Some c.args.msg })) c.self.view_is
    (λ none. went_on d p q (the_view c.self.inside) c.args.msg low posted none
    (subst (ServesMessage d p q c.args.msg.channel) is (c.serve.ensures.turn low posted))) c.requires.unfilled

pub returns-in-Fills-GoesOn-clause-asked : goal.returns-in-Fills-GoesOn-clause-asked
returns-in-Fills-GoesOn-clause-asked g c = λ low posted kept other fills.
    let d = g.D.PageDisk in
    let p = c.args.plant.now.at in
    let q = c.serve.new.plant.at in
    let is = c.in-Fills-GoesOn.is ∙ ap served.Fills c.in-Fills-GoesOn.field-0-is in
    asked_on d p q c.args.self.now c.args.msg low posted c.requires.unfilled
    (subst (ServesMessage d p q c.args.msg.channel) is (c.serve.ensures.turn low posted)) other fills

pub returns-in-Fills-Ended-clause-made : goal.returns-in-Fills-Ended-clause-made
returns-in-Fills-Ended-clause-made g c = λ low posted.
    let d = g.D.PageDisk in
    let p = c.args.plant.now.at in
    let is = c.in-Fills-Ended.is ∙ ap served.Fills c.in-Fills-Ended.field-0-is in
    ended d p c.serve.new.plant.at c.args.self.now c.args.msg low posted c.requires.unfilled
    (subst (ServesMessage d p c.serve.new.plant.at c.args.msg.channel) is (c.serve.ensures.turn low posted))

pub returns-in-Fills-Ended-clause-asked : goal.returns-in-Fills-Ended-clause-asked
returns-in-Fills-Ended-clause-asked g c = λ low posted kept other fills.
    let d = g.D.PageDisk in
    let p = c.args.plant.now.at in
    let is = c.in-Fills-Ended.is ∙ ap served.Fills c.in-Fills-Ended.field-0-is in
    asked_ended d p c.serve.new.plant.at c.args.self.now c.args.msg low posted c.requires.unfilled
    (subst (ServesMessage d p c.serve.new.plant.at c.args.msg.channel) is (c.serve.ensures.turn low posted)).0 other
    fills

pub returns-in-Done-clause-made : goal.returns-in-Done-clause-made
returns-in-Done-clause-made g c = λ low posted.
    let d = g.D.PageDisk in
    let p = c.args.plant.now.at in
    done d p c.serve.new.plant.at c.args.self.now c.args.msg low posted c.requires.unfilled
    (subst (ServesMessage d p c.serve.new.plant.at c.args.msg.channel) c.in-Done.is (c.serve.ensures.turn low posted))

pub returns-in-Done-clause-asked : goal.returns-in-Done-clause-asked
returns-in-Done-clause-asked g c = λ low posted kept other fills.
    let d = g.D.PageDisk in
    let p = c.args.plant.now.at in
    asked_done d p c.serve.new.plant.at c.args.self.now c.args.msg low posted c.requires.unfilled kept
    (subst (ServesMessage d p c.serve.new.plant.at c.args.msg.channel) c.in-Done.is (c.serve.ensures.turn low posted))
    other
    fills

pub returns-in-Fills-GoesOn-clause-stale : goal.returns-in-Fills-GoesOn-clause-stale
returns-in-Fills-GoesOn-clause-stale g c = λ stale.
    absurd (let bad = sym (c.serve.ensures.stale stale).1 ∙ c.in-Fills-GoesOn.is in cc bad)

pub returns-in-Fills-Ended-clause-stale : goal.returns-in-Fills-Ended-clause-stale
returns-in-Fills-Ended-clause-stale g c = λ stale.
    absurd (let bad = sym (c.serve.ensures.stale stale).1 ∙ c.in-Fills-Ended.is in cc bad)

pub returns-in-Done-clause-stale : goal.returns-in-Done-clause-stale
returns-in-Done-clause-stale g c = λ stale. ((c.serve.ensures.stale stale).0, refl)
