use Rattle.std.proofs.Common.{below_more, ◌+◌, drop, arith, sym, ap, ◌∙◌}
use Rattle.std.specs.Option.{option_or}
use Rattle.descriptors.specs.Runs.{slots_in}
use Rattle.blob_meta.proofs.ClustersOutside.{first_outside, next_run}
use Rattle.blob_meta.proofs.checks.outside_of_runs.Goals as goal

pub returns-in-Some-clause-first : goal.returns-in-Some-clause-first
returns-in-Some-clause-first c =
    sym (c.loop-run.invariant.none
    ∙ next_run c.args.fixed c.args.clusters c.args.runs.now c.loop-run.run-index _ (omega arith)
    ∙ ap (λ o. option_or o
    (first_outside c.args.fixed c.args.clusters (slots_in (drop (c.loop-run.run-index + 1) c.args.runs.now))))
    (sym c.in-Some.ensures.first))

pub loop-run-preserved : goal.loop-run-preserved
loop-run-preserved c =
    record {
      none = c.loop-run.invariant.none
          ∙ next_run c.args.fixed c.args.clusters c.args.runs.now c.loop-run.run-index _ (omega arith)
          ∙ ap (λ o. option_or o
          (first_outside c.args.fixed c.args.clusters (slots_in (drop (c.loop-run.run-index + 1) c.args.runs.now))))
          (sym c.in_default.ensures.first);
      reach = below_more _ _ c.loop-run.invariant.reach c.in_default.ensures.reaches;
    }
