use Rattle.std.proofs.Common.{◌≡◌}
use Rattle.script_lang.proofs.ScheduleAnswers.{IsReadTo}
use Rattle.script_lang.proofs.reading.parse_schedule.Given as goal

abbrev pub invariant-loop-byte : goal.invariant-loop-byte
invariant-loop-byte l = (l.at ≡ l.byte-index) × IsReadTo l.text l.byte-index l.reading
