use Rattle.std.proofs.Common.{◌∙◌, sym}
use Rattle.repair_runs.specs.RepairRuns.{marks_left}
use Rattle.running_store.specs.StoreView.{state_of}
use Rattle.blob_tool.proofs.Mending.{fewer_marks, mends_begun, repairs_ended, stops_mending}
use Rattle.blob_tool.proofs.repairing.mend_one.Goals as goal

pub returns-in-Clean-clause-goes_on : goal.returns-in-Clean-clause-goes_on
returns-in-Clean-clause-goes_on g c =
    repairs_ended g.D.PageDisk c.repairs_come_to_an_end.ensures c.args.plant.now c.keeps.ensures
    c.begin_repair.new.self.at c.requires.runs c.requires.no_job c.in-Clean.ensures.case.0 c.in-Clean.ensures.case.1

pub finish_job-requires-clause-mending : goal.finish_job-requires-clause-mending
finish_job-requires-clause-mending g c =
    let p = state_of g.D.PageDisk c.args.plant.now.at in
    let q = state_of g.D.PageDisk c.begin_repair.new.self.at in
    (marks_left p, (c.repairs_come_to_an_end.ensures.begun p q c.in-Began.ensures.case.0).mending)

pub returns-in-Some-clause-goes_on : goal.returns-in-Some-clause-goes_on
returns-in-Some-clause-goes_on g c =
    let d = g.D.PageDisk in
    let laws = c.repairs_come_to_an_end.ensures in
    let p = c.args.plant.now.at in
    let q = c.begin_repair.new.self.at in
    let r = c.finish_job.new.plant.at in
    let marks = marks_left (state_of d p) in
    let begins = c.in-Began.ensures.case.0 in
    let mended = c.finish_job.ensures.mended marks (laws.begun (state_of d p) (state_of d q) begins).mending in
    record {
      made = mends_begun d laws p q r marks begins mended;
      ended = stops_mending d q r marks c.in-Some.field-0 mended (sym c.stopped.ensures ∙ c.in-Some.is);
    }

pub returns-in-None-clause-goes_on : goal.returns-in-None-clause-goes_on
returns-in-None-clause-goes_on g c =
    let d = g.D.PageDisk in
    let laws = c.repairs_come_to_an_end.ensures in
    let p = c.args.plant.now.at in
    let q = c.begin_repair.new.self.at in
    let r = c.finish_job.new.plant.at in
    let marks = marks_left (state_of d p) in
    let begins = c.in-Began.ensures.case.0 in
    let mended = c.finish_job.ensures.mended marks (laws.begun (state_of d p) (state_of d q) begins).mending in
    let runs = sym c.stopped.ensures ∙ c.in-None.is in
    (mends_begun d laws p q r marks begins mended, runs, fewer_marks d q r marks mended runs)
