use Rattle.std.proofs.Common.{◌≡◌, ◌++◌, length, ap, ◌∙◌, arith}
use Rattle.std.proofs.lemmas.List.{take_all}
use Rattle.nbd_reader.specs.declared.fault.ReadFault.TheVariants.{Cut}
use Rattle.nbd_reader.proofs.Said.{cut_passed, request_long, front_of, short_payload, gives_request}
use Rattle.nbd_reader.proofs.requests.next_request.Goals as goal

pub returns-then-count-lt28-clause-cut : goal.returns-then-count-lt28-clause-cut
returns-then-count-lt28-clause-cut g c = λ e t.
    let ended : length (g.S.Source.left c.args.source.now) ≡ c.in_ok-count.count =
    c.in_ok-count.ensures.end t (omega arith) in (
      λ z. absurd (omega (arith, ap length z)),
      λ asked rest q. absurd (omega (arith, request_long (g.S.Source.left c.args.source.now) asked rest q)),
    )

pub returns-in_err-payload-clause-cut : goal.returns-in_err-payload-clause-cut
returns-in_err-payload-clause-cut g c = λ e t.
    let n : c.in_ok-count.count ≡ 28 = omega (arith, c.in_ok-count.ensures.within) in
    let long : length c.fill.new.into ≡ c.in_ok-count.count = omega arith in
    let left_is : g.S.Source.left c.args.source.now ≡ c.fill.new.into ++ g.S.Source.left c.fill.new.source =
    front_of _ _ c.fill.new.into c.in_ok-count.count long (c.in_ok-count.ensures.bytes t)
    (take_all c.in_ok-count.count c.fill.new.into (omega arith)) (c.in_ok-count.ensures.taken t) in
    let same : c.in_err-payload.field-0.0 ≡ Cut =
    cut_passed c.from_residual-in_err-payload.result c.in_err-payload.field-0.0
    c.from_residual-in_err-payload.ensures.1 e in (
      λ z. absurd (omega (arith, ap length z, (c.in_ok-count.ensures.taken t).within)),
      short_payload _ (g.S.Source.left c.fill.new.source) c.in_ok-head.head c.in_ok-head.ensures.named
          (left_is ∙ ap (λ x. x ++ g.S.Source.left c.fill.new.source) c.in_ok-head.ensures.found)
          (let lt = c.in_err-payload.ensures.cut (cc) t in omega (arith, lt, c.payload_length.ensures)),
    )

pub returns-clause-request : goal.returns-clause-request
returns-clause-request g c = λ t.
    let n : c.in_ok-count.count ≡ 28 = omega (arith, c.in_ok-count.ensures.within) in
    let long : length c.fill.new.into ≡ c.in_ok-count.count = omega arith in
    let left_is : g.S.Source.left c.args.source.now ≡ c.fill.new.into ++ g.S.Source.left c.fill.new.source =
    front_of _ _ c.fill.new.into c.in_ok-count.count long (c.in_ok-count.ensures.bytes t)
    (take_all c.in_ok-count.count c.fill.new.into (omega arith)) (c.in_ok-count.ensures.taken t) in
    gives_request _ (g.S.Source.left c.fill.new.source) _ c.in_ok-head.head c.in_ok-payload.payload
    c.payload_length.result c.in_ok-head.ensures.named
    (left_is ∙ ap (λ x. x ++ g.S.Source.left c.fill.new.source) c.in_ok-head.ensures.found) c.payload_length.ensures
    (c.in_ok-payload.ensures.taken t) (c.in_ok-payload.ensures.given t)
