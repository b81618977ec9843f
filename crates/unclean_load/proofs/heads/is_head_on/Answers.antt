use Rattle.std.proofs.Common.{rules}
use Rattle.unclean_load.proofs.Places.{gave_head}
use Rattle.unclean_load.proofs.heads.is_head_on.Goals as goal

pub returns-clause-found : goal.returns-clause-found
returns-clause-found g c =
    gave_head g.D.PageDisk c.args.sup.now c.args.disk.now c.args.place c.read.new.into c.is_head.result (search rules)
    c.requires.low (search rules)
