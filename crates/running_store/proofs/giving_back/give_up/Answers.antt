use Rattle.std.proofs.Common.{◌≡◌, ℕ, Option, sym, ◌∙◌, ap}
use Rattle.running_store.specs.GivingBack.{filled_on}
use Rattle.running_store.specs.Running.{view_of}
use Rattle.running_store.specs.Stages.{stage_seen}
use Rattle.running_store.specs.StoreView.{StoreView}
use Rattle.running_store.proofs.FillEntered.{fill_entered, fill_rows}
use Rattle.running_store.proofs.WorkLogged.{filled_work}
use Rattle.running_store.proofs.giving_back.give_up.Goals as goal

pub returns-in-Some-clause-logged : goal.returns-in-Some-clause-logged
returns-in-Some-clause-logged g c =
    let p = view_of c.args.running.now in
    let mid = view_of c.give_back.new.running in
    let same : mid.filling ≡ p.filling =
    ap (λ (a : StoreView g.row.D.Denot). a.filling) c.give_back.ensures.given_back in
    let w = filled_work p.filling p.rows c.args.row c.in-Some.channel c.requires.works
    (ap (λ (o : Option ℕ). filled_on o c.args.row) (sym same) ∙ sym c.filled_on.ensures ∙ c.in-Some.is) in
    fill_entered p mid c.requires.order.seventeen c.args.row (stage_seen c.args.next) c.give_back.ensures.given_back
    w.1 c.in-Some.channel w.2 w.0 (view_of c.log.new.running) c.args.reply
    (g.D.PageDisk.clock c.log.new.running.disk) c.log.ensures.logged

pub returns-in-Some-clause-rows : goal.returns-in-Some-clause-rows
returns-in-Some-clause-rows g c =
    let p = view_of c.args.running.now in
    let mid = view_of c.give_back.new.running in
    let same : mid.filling ≡ p.filling =
    ap (λ (a : StoreView g.row.D.Denot). a.filling) c.give_back.ensures.given_back in
    let w = filled_work p.filling p.rows c.args.row c.in-Some.channel c.requires.works
    (ap (λ (o : Option ℕ). filled_on o c.args.row) (sym same) ∙ sym c.filled_on.ensures ∙ c.in-Some.is) in
    fill_rows p mid c.requires.order.seventeen c.args.row (stage_seen c.args.next) c.give_back.ensures.given_back
    w.1 c.in-Some.channel w.2 w.0 c.log.new.running.rows.items c.log.ensures.row
