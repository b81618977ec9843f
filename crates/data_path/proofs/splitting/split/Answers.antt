use Rattle.std.proofs.Common.{arith}
use Rattle.data_path.proofs.Splits.{is_split}
use Rattle.data_path.proofs.splitting.split.Goals as goal

pub returns : goal.returns
returns c = is_split c.args.cluster_pages c.requires.some c.args.count c.args.page c.args.count (omega arith)
