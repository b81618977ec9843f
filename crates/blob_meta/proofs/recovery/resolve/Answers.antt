use Rattle.std.proofs.Common.{sym, subst}
use Rattle.blob_meta.specs.Repairs.{has_kept_mark, is_removed, AreHeadsWhere, AreRepairs}
use Rattle.blob_meta.proofs.ResolvedInSteps.{removed_in_steps, repairs_in_steps, resolved_in_steps}
use Rattle.blob_meta.proofs.recovery.resolve.Goals as goal

pub returns-clause-repairs : goal.returns-clause-repairs
returns-clause-repairs c = repairs_in_steps c.args.metas c.as_slice.result.now c.as_slice-2.result.now
    (subst (AreHeadsWhere c.args.metas has_kept_mark) (sym c.as_slice.ensures) c.in_ok-marked.ensures.kept)
    (subst (AreHeadsWhere c.args.metas is_removed) (sym c.as_slice-2.ensures) c.in_ok-marked.ensures.removed)
    c.new-repairs.result c.push_liftings.new.list c.push_erasures.new.list c.new-repairs.ensures
    c.in_ok-push_liftings.ensures c.in_ok-push_erasures.ensures

pub returns-clause-removed : goal.returns-clause-removed
returns-clause-removed c = removed_in_steps c.args.metas c.as_slice.result.now c.as_slice-3.result.now
    (subst (AreHeadsWhere c.args.metas has_kept_mark) (sym c.as_slice.ensures) c.in_ok-marked.ensures.kept)
    (subst (AreHeadsWhere c.args.metas is_removed) (sym c.as_slice-3.ensures) c.in_ok-marked.ensures.removed)
    c.in_ok-removed.removed c.in_ok-removed.ensures.taken

pub returns-clause-metas : goal.returns-clause-metas
returns-clause-metas c = resolved_in_steps c.args.metas c.as_slice.result.now c.as_slice-3.result.now
    (subst (AreHeadsWhere c.args.metas has_kept_mark) (sym c.as_slice.ensures) c.in_ok-marked.ensures.kept)
    (subst (AreHeadsWhere c.args.metas is_removed) (sym c.as_slice-3.ensures) c.in_ok-marked.ensures.removed)
    c.take_out.new.metas c.in_ok-removed.ensures.left c.as_slice-4.result.now
    (subst (AreRepairs c.args.metas) (sym c.as_slice-4.ensures) (returns-clause-repairs c))
    c.replace_all.new.metas c.in_ok-replace_all.ensures
