use Rattle.std.proofs.Common.{◌∙◌, sym}
use Rattle.blob_tool.proofs.Mending.{mends, mends_more, no_job_runs, running_job}
use Rattle.blob_tool.proofs.repairing.finish_job.Goals as goal

pub loop-plant-preserved : goal.loop-plant-preserved
loop-plant-preserved g c =
    let laws = c.repairs_come_to_an_end.ensures in
    let i = c.loop-plant.invariant in
    let job = running_job c.loop-plant.plant.at.job (sym c.job_runs.ensures ∙ c.loop-plant-test.true) in
    record {
      kept = c.keeps-in-loop-plant.ensures;
      mends = λ marks mending. mends_more g.D.PageDisk laws c.loop-plant.plant i.kept marks c.args.plant.now.at
          (i.mends marks mending) job.0 job.1 c.job_turn.new.self.at c.job_turn.ensures.case;
      opening = c.job_turn.ensures.opening ∙ i.opening;
      own = c.job_turn.ensures.right.0 ∙ i.own ∙ sym c.job_turn.ensures.right.1;
      same = c.job_turn.ensures.right.1 ∙ i.same;
    }

pub returns-clause-mended : goal.returns-clause-mended
returns-clause-mended g c n mending =
    mends g.D.PageDisk c.repairs_come_to_an_end.ensures n c.args.plant.now.at c.loop-plant.plant.at
    (c.loop-plant.invariant.mends n mending)
    (no_job_runs c.loop-plant.plant.at.job (sym c.job_runs.ensures ∙ c.loop-plant-test.false))
