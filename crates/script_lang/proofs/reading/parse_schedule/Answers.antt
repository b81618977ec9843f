use Rattle.std.proofs.Common.{◌≡◌, ◌+◌, get_or, Some, None, refl, sym, ap, subst, rules, arith}
use Rattle.script_lang.specs.Reading.{ended, reading_after, HasRoom}
use Rattle.script_lang.specs.Schedules.{IsFirstBadByte}
use Rattle.script_lang.proofs.ScheduleAnswers.{begun, one_more, bad_byte, refused_byte, bad_end, refused_end, found}
use Rattle.script_lang.proofs.ScheduleAnswers.{only, place_small}
use Rattle.script_lang.proofs.reading.parse_schedule.Goals as goal

pub loop-byte-init : goal.loop-byte-init
loop-byte-init c = (refl, begun c.args.text.now c.new-reading.result c.new-reading.ensures)

pub returns-then-not-branch-clause-refused : goal.returns-then-not-branch-clause-refused
returns-then-not-branch-clause-refused c =
    let none : reading_after c.loop-byte.reading (get_or c.args.text.now c.loop-byte.byte-index 0) ≡ None =
    search rules in
    refused_byte c.args.text.now c.loop-byte.byte-index c.loop-byte.reading c.loop-byte.invariant.1 (omega arith) none

pub returns-then-not-branch-clause-why : goal.returns-then-not-branch-clause-why
returns-then-not-branch-clause-why c =
    let none : reading_after c.loop-byte.reading (get_or c.args.text.now c.loop-byte.byte-index 0) ≡ None =
    search rules in
    subst (IsFirstBadByte c.args.text.now) (sym c.loop-byte.invariant.0)
    (bad_byte c.args.text.now c.loop-byte.byte-index c.loop-byte.reading c.loop-byte.invariant.1 (omega arith) none)

pub loop-byte-preserved : goal.loop-byte-preserved
loop-byte-preserved c =
    let some : reading_after c.loop-byte.reading (get_or c.args.text.now c.loop-byte.byte-index 0)
    ≡ Some c.byte.new.self = search rules in
    let room : HasRoom c.byte.new.self = search rules in (
      ap (λ n. n + 1) c.loop-byte.invariant.0,
      one_more c.args.text.now c.loop-byte.byte-index c.loop-byte.reading c.byte.new.self c.loop-byte.invariant.1
          (omega arith) some room,
    )

pub returns-then-not-branch-2-clause-refused : goal.returns-then-not-branch-2-clause-refused
returns-then-not-branch-2-clause-refused c =
    let none : ended c.loop-byte.reading ≡ None = search rules in
    refused_end c.args.text.now c.loop-byte.byte-index c.loop-byte.reading c.loop-byte.invariant.1 (omega arith) none

pub returns-then-not-branch-2-clause-why : goal.returns-then-not-branch-2-clause-why
returns-then-not-branch-2-clause-why c =
    let none : ended c.loop-byte.reading ≡ None = search rules in
    subst (IsFirstBadByte c.args.text.now) (sym c.loop-byte.invariant.0)
    (bad_end c.args.text.now c.loop-byte.byte-index c.loop-byte.reading c.loop-byte.invariant.1 (omega arith) none)

pub returns-clause-found : goal.returns-clause-found
returns-clause-found c =
    let some : ended c.loop-byte.reading ≡ Some c.end.new.self.schedule = search rules in
    found c.args.text.now c.loop-byte.byte-index c.loop-byte.reading c.end.new.self.schedule c.loop-byte.invariant.1
    (omega arith) some

pub returns-clause-one : goal.returns-clause-one
returns-clause-one c =
    let some : ended c.loop-byte.reading ≡ Some c.end.new.self.schedule = search rules in
    only c.args.text.now c.loop-byte.byte-index c.loop-byte.reading c.end.new.self.schedule c.loop-byte.invariant.1
    (omega arith) some

pub overflow_add-at : goal.overflow_add-at
overflow_add-at c = omega (
  arith,
  place_small c.args.text.now c.loop-byte.byte-index c.loop-byte.reading c.loop-byte.invariant.1 (omega arith),
  c.loop-byte.invariant.0,
)
