use Rattle.std.proofs.Common.{◌≡◌, ◌++◌, length, ap, ◌∙◌, arith}
use Rattle.std.proofs.lemmas.List.{take_all}
use Rattle.nbd_reader.specs.declared.fault.ReadFault.TheVariants.{Cut}
use Rattle.nbd_reader.proofs.Said.{cut_passed, option_long, front_of, short_bytes}
use Rattle.nbd_reader.proofs.options.next_option.Goals as goal

pub returns-then-count-lt16-clause-cut : goal.returns-then-count-lt16-clause-cut
returns-then-count-lt16-clause-cut g c = λ e t.
    let ended : length (g.S.Source.left c.args.source.now) ≡ c.in_ok-count.count =
    c.in_ok-count.ensures.end t (omega arith) in (
      λ z. absurd (omega (arith, ap length z)),
      λ asked rest q. absurd (omega (arith, option_long (g.S.Source.left c.args.source.now) asked rest q)),
    )

pub returns-in_err-bytes-clause-cut : goal.returns-in_err-bytes-clause-cut
returns-in_err-bytes-clause-cut g c = λ e t.
    let n : c.in_ok-count.count ≡ 16 = omega (arith, c.in_ok-count.ensures.within) in
    let long : length c.fill.new.into ≡ c.in_ok-count.count = omega arith in
    let left_is : g.S.Source.left c.args.source.now ≡ c.fill.new.into ++ g.S.Source.left c.fill.new.source =
    front_of _ _ c.fill.new.into c.in_ok-count.count long (c.in_ok-count.ensures.bytes t)
    (take_all c.in_ok-count.count c.fill.new.into (omega arith)) (c.in_ok-count.ensures.taken t) in
    let same : c.in_err-bytes.field-0.0 ≡ Cut =
    cut_passed c.from_residual-in_err-bytes.result c.in_err-bytes.field-0.0
    c.from_residual-in_err-bytes.ensures.1 e in (
      λ z. absurd (omega (arith, ap length z, (c.in_ok-count.ensures.taken t).within)),
      short_bytes _ (g.S.Source.left c.fill.new.source) c.in_ok-head.head c.in_ok-head.ensures.named
          (left_is ∙ ap (λ x. x ++ g.S.Source.left c.fill.new.source) c.in_ok-head.ensures.found)
          (c.in_err-bytes.ensures.cut (cc) t),
    )
