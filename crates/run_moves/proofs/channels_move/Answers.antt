use Rattle.run_moves.proofs.ChannelLogs.{logging_turns}
use Rattle.run_moves.proofs.ChannelWrites.{message_moves, row_moves, waiting_turns, writing_turns}
use Rattle.run_moves.proofs.channels_move.Goals as goal

pub returns : goal.returns
returns c = record {
  logging = logging_turns;
  writing = writing_turns;
  waiting = waiting_turns;
  row = row_moves;
  message = message_moves;
}
