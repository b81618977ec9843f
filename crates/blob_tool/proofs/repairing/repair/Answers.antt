use Rattle.std.proofs.Common.{◌∙◌, subst, sym}
use Rattle.blob_tool.specs.Repairing.{EndsOrMendsOne}
use Rattle.blob_tool.proofs.Mending.{both_made}
use Rattle.blob_tool.proofs.repairing.repair.Goals as goal

pub returns-in-Some-clause-ended : goal.returns-in-Some-clause-ended
returns-in-Some-clause-ended g c =
    let d = g.D.PageDisk in
    let x = c.in-Some.ensures.goes_on in
    record {
      made = both_made d c.repairs_come_to_an_end.ensures c.args.plant.now.at c.loop-end.plant.at
          c.mend_one.new.plant.at c.loop-end.invariant.made x.made;
      ended = x.ended;
    }

pub loop-end-preserved : goal.loop-end-preserved
loop-end-preserved g c =
    let d = g.D.PageDisk in
    let i = c.loop-end.invariant in
    let x = subst (EndsOrMendsOne d c.loop-end.plant.at c.mend_one.new.plant.at) c.in_default.is
    c.mend_one.ensures.goes_on in
    record {
      made = both_made d c.repairs_come_to_an_end.ensures c.args.plant.now.at c.loop-end.plant.at
          c.mend_one.new.plant.at i.made x.0;
      runs = x.1;
      opening = c.mend_one.ensures.opening ∙ i.opening;
      own = c.mend_one.ensures.right.0 ∙ i.own ∙ sym c.mend_one.ensures.right.1;
      same = c.mend_one.ensures.right.1 ∙ i.same;
    }
