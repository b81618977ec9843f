use Rattle.run_work.proofs.ChannelKeeps.{channel_keeps}
use Rattle.run_work.proofs.Ending.{starts}
use Rattle.run_work.proofs.Keeping.{message_is_posted, metadata_keeps, step_keeps, turn_keeps}
use Rattle.run_work.proofs.moves_keep_facts.Goals as goal

pub returns : goal.returns
returns c = record {
  start = starts;
  channel = channel_keeps;
  metadata = metadata_keeps;
  turn = turn_keeps;
  step = step_keeps;
  posted = message_is_posted;
}
