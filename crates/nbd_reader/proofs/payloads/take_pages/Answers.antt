use Rattle.std.proofs.Common.{◌≡◌, ◌++◌, arith, rules}
use Rattle.nbd_reader.specs.Reading.{pages_bytes}
use Rattle.nbd_reader.proofs.TakenBytes.{held_more}
use Rattle.nbd_reader.proofs.payloads.take_pages.Goals as goal

pub loop-done-preserved : goal.loop-done-preserved
loop-done-preserved g c =
    let more : pages_bytes c.hold.new.pages.items ≡ pages_bytes c.loop-done.pages.items ++ c.take_all.new.into =
    search rules in
    held_more g.S.Source.tells _ (g.S.Source.left c.loop-done.source) (g.S.Source.left c.take_all.new.source) _ _
    c.take_all.new.into c.loop-done.done _ (g.S.Source.faults c.loop-done.source)
    (g.S.Source.faults c.take_all.new.source) c.loop-done.invariant (omega arith) c.in_ok-take_all.ensures.taken
    c.in_ok-take_all.ensures.bytes more c.take_all.ensures.later
