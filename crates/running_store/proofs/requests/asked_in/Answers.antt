use Rattle.std.proofs.Common.{None, ◌≡◌, [], length, sym, ap, ◌∙◌}
use Rattle.std.proofs.lemmas.Bool.{ltb-true}
use Rattle.std.proofs.lemmas.List.{get_or_default}
use Rattle.store_model.specs.Rows.{Row, Ended}
use Rattle.running_store.specs.StoreView.{rows_of}
use Rattle.running_store.proofs.Requested.{posted_so}
use Rattle.running_store.proofs.requests.asked_in.Goals as goal

pub asked_of-requires : goal.asked_of-requires
asked_of-requires c = λ unclaimed none.
    let row : c.in-Some.row.now ≡ rows_of c.args.rows.now c.args.msg.channel =
    c.in-Some.ensures.lookup.1 ∙ get_or_default c.args.rows.now c.args.msg.channel c.in-Some.row.now
    (record { left = []; stage = Ended; claim = None })
    (ltb-true c.args.msg.channel (length c.args.rows.now) (sym c.in-Some.ensures.lookup.0)) in
    let posted =
    posted_so c.in-Some.row.now.stage c.in-Some-posted.serial (sym c.posted.ensures ∙ c.in-Some-posted.is) in
    c.requires c.args.msg.channel c.in-Some-posted.serial (ap (λ (r : Row). r.stage) (sym row) ∙ posted)
    (ap (λ (r : Row). r.claim) (sym row) ∙ unclaimed) (ap (λ (r : Row). r.left) (sym row) ∙ none)
