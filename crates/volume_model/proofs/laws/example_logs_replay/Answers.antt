use Rattle.volume_model.proofs.ExampleLogsReplay.{thin_volume, snapshot_with_clone, names_move, surviving, two_channels}
use Rattle.volume_model.proofs.laws.example_logs_replay.Goals as goal

pub returns-clause-thin : goal.returns-clause-thin
returns-clause-thin c = thin_volume

pub returns-clause-snapshot : goal.returns-clause-snapshot
returns-clause-snapshot c = snapshot_with_clone

pub returns-clause-names : goal.returns-clause-names
returns-clause-names c = names_move

pub returns-clause-surviving : goal.returns-clause-surviving
returns-clause-surviving c = surviving

pub returns-clause-channels : goal.returns-clause-channels
returns-clause-channels c = two_channels
