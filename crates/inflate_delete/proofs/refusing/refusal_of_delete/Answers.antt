use Rattle.std.proofs.Common.{refl}
use Rattle.inflate_delete.proofs.DeleteRefused.{delete_refused}
use Rattle.inflate_delete.proofs.refusing.refusal_of_delete.Goals as goal

pub returns-clause-first : goal.returns-clause-first
returns-clause-first c = delete_refused c.args.metas.now c.args.sup.now c.args.volume c.args.old.now
    c.args.clones.now c.is_super.result c.is_locked_by.result _ c.is_short_between.result c.first_of.result
    c.requires.there c.requires.clones c.is_super.ensures c.is_locked_by.ensures refl c.is_short_between.ensures
    c.first_of.ensures.first
