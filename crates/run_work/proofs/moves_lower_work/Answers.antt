use Rattle.run_work.proofs.Lowering.{channel_lowers, metadata_lowers, step_lowers, turn_lowers}
use Rattle.run_work.proofs.moves_lower_work.Goals as goal

pub returns : goal.returns
returns c = record {
  channel = channel_lowers;
  metadata = metadata_lowers;
  turn = turn_lowers;
  step = step_lowers;
}
