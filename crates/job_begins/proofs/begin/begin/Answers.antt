use Rattle.std.proofs.Common.{◌<◌, length, Some, refl, sym, ap, subst, ◌∙◌, arith}
use Rattle.std.specs.Prelude.{slice_set}
use Rattle.store_model.specs.Cases.{Begins}
use Rattle.store_model.specs.Rows.{InJob, Row}
use Rattle.store_model.specs.StoreState.{JobState}
use Rattle.running_store.specs.Blobs.{blobs_of, WillBeKept}
use Rattle.running_store.specs.Jobs.{job_seen, IsHeaded}
use Rattle.running_store.specs.Running.{view_of}
use Rattle.running_store.specs.StoreView.{rows_of, state_of}
use Rattle.running_store.specs.declared.job.RunningJob.{RunningJob}
use Rattle.running_store.proofs.JobLeft.{seen_with_mark}
use Rattle.running_store.specs.declared.running.Running.{Running}
use Rattle.running_store.proofs.OrderKept.{job_on, order_kept, room_with}
use Rattle.job_begins.proofs.JobBegin.{indexed_row, refused}
use Rattle.job_begins.proofs.begin.begin.Goals as goal

pub returns-in-Ok-clause-began : goal.returns-in-Ok-clause-began
returns-in-Ok-clause-began g c = λ _.
    let d = g.D.PageDisk in
    let q = view_of c.job_asked.new.running in
    let low : c.args.channel < length q.rows = omega (
      arith,
      c.requires.can.within,
      c.job_asked.ensures.order.seventeen,
    ) in
    let row = c.serve.ensures ∙ ap (λ (r : Row). record r { stage = InJob })
    (indexed_row q.rows c.args.channel low c.index_mut.result.now c.index_mut.ensures.value) in (
      subst (λ (r : Row). Begins (state_of d (view_of c.args.running.now)) (state_of d (record q {
        rows = slice_set q.rows c.args.channel r;
        job = Some (job_seen c.with_mark.result);
      }))) (sym row)
          (subst (λ (j : RunningJob). Begins (state_of d (view_of c.args.running.now)) (state_of d (record q {
            rows = slice_set q.rows c.args.channel (record (rows_of q.rows c.args.channel) { stage = InJob });
            job = Some (job_seen j);
          }))) (sym c.with_mark.ensures)
          (subst (λ (j : JobState). Begins (state_of d (view_of c.args.running.now)) (state_of d (record q {
            rows = slice_set q.rows c.args.channel (record (rows_of q.rows c.args.channel) { stage = InJob });
            job = Some j;
          }))) (sym (seen_with_mark c.in-Ok.job c.in-Ok.ensures.unmarked q.clean)) c.in-Ok.ensures.begins)),
      c.job_asked.ensures.disk,
    )

pub returns-in-Ok-clause-order : goal.returns-in-Ok-clause-order
returns-in-Ok-clause-order g c =
    let q = c.job_asked.new.running in
    let order = c.job_asked.ensures.order in
    let low : c.args.channel < length q.rows.items = omega (arith, c.requires.can.within, order.seventeen) in
    order_kept g.D.PageDisk q order refl refl (room_with g.D.PageDisk q order c.args.channel c.serve.new.self
    c.index_mut.result.now low (ap (λ (r : Row). length r.left) (sym c.index_mut.ensures.value)
    ∙ sym (ap (λ (r : Row). length r.left) c.serve.ensures))) order.no_page order.no_cluster
    (job_on g.D.PageDisk q order (subst IsHeaded (sym c.with_mark.ensures) c.in-Ok.ensures.headed)
    (subst (WillBeKept (blobs_of q)) (sym c.with_mark.ensures) c.in-Ok.ensures.kept))

pub returns-in-Err-clause-logged : goal.returns-in-Err-clause-logged
returns-in-Err-clause-logged g c = λ _.
    let p = view_of c.args.running.now in
    let posted = c.requires.can.posted in
    let waits = posted.waits in
    let low : c.args.channel < length p.rows = omega (arith, c.requires.can.within, c.requires.can.order.seventeen) in
    refused g.D.PageDisk p c.args.channel low posted c.requires.can.runs c.requires.can.unfilled c.in-Err.reply
    (c.in-Err.ensures.lack waits.command waits.rest (ap (λ (r : Row). r.left) waits.row))
    (view_of c.job_asked.new.running) (view_of c.log.new.running)
    (ap (λ (r : Running g.row.D.Denot). view_of r) c.in-Err.ensures.same) c.log.ensures.logged
