use Rattle.channels.proofs.Starting.{StartsSoFar}
use Rattle.channels.proofs.first_channels.channels_of.Given as goal

-- the channels so far are at the stages of their rows
abbrev pub invariant-loop-channel : goal.invariant-loop-channel
invariant-loop-channel g l = StartsSoFar l.plant.at.filling l.plant.at.rows l.channel l.channels
