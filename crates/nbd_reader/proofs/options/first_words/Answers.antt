use Rattle.std.proofs.Common.{◌++◌, ap, ◌∙◌, arith}
use Rattle.nbd_reader.proofs.Said.{whole_front, other_flags}
use Rattle.nbd_reader.proofs.options.first_words.Goals as goal

pub returns-in-Some-clause-flags : goal.returns-in-Some-clause-flags
returns-in-Some-clause-flags g c = λ t.
    whole_front _ (g.S.Source.left c.take_all.new.source) c.take_all.new.into (c.in_ok-take_all.ensures.taken t)
    (c.in_ok-take_all.ensures.bytes t)
    ∙ ap (λ x. x ++ g.S.Source.left c.take_all.new.source) c.in-Some.ensures.found

pub returns-in-None-clause-magic : goal.returns-in-None-clause-magic
returns-in-None-clause-magic g c = λ e t.
    other_flags _ (g.S.Source.left c.take_all.new.source) c.take_all.new.into
    (whole_front _ (g.S.Source.left c.take_all.new.source) c.take_all.new.into (c.in_ok-take_all.ensures.taken t)
    (c.in_ok-take_all.ensures.bytes t)) (omega arith) c.in-None.ensures.none
