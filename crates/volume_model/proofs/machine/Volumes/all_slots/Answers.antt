use Rattle.std.proofs.Common.{arith}
use Rattle.volume_model.specs.Machine.{volumes_in}
use Rattle.volume_model.specs.Volumes.{slots_at}
use Rattle.volume_model.proofs.Heads.{sum_more}
use Rattle.volume_model.proofs.machine.Volumes.all_slots.Goals as goal

pub loop-head-preserved : goal.loop-head-preserved
loop-head-preserved c =
    let more = sum_more (slots_at c.args.self.now.fixed (volumes_in c.args.self.now)) c.loop-head.head in
    (omega (arith, more, c.slots_at.ensures, c.from-all.ensures), omega (arith, c.from-all.ensures))
