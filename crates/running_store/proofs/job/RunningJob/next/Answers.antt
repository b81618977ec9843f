use Rattle.std.proofs.Common.{◌≡◌, false, List, ◌∷◌, refl, sym, ◌∙◌, ap, subst}
use Rattle.running_store.specs.Jobs.{job_left, phases_in, MayFollow}
use Rattle.running_store.specs.declared.job.RunningJob.{RunningJob}
use Rattle.running_store.specs.declared.replacements.LaidReplacement.{LaidReplacement}
use Rattle.running_store.proofs.JobLeft.{next_erases, next_writes}
use Rattle.running_store.proofs.job.RunningJob.next.Goals as goal
use Rattle.running_store.proofs.job.RunningJob.next.Goals.{in-Writes, in-Erases}

pub returns-clause-seen : goal.returns-clause-seen
returns-clause-seen c =
    let j : RunningJob = record {
      serves = c.args.serves;
      marks = false;
      work = c.match-change.work;
      old = c.in_ok-change.field-0.old;
      later = c.pop_front.new.self;
    } in
    let x = c.in_ok-change.field-0 in
    let items : c.args.later.items ≡ x ∷ j.later.items = c.in_ok-change.ensures.items in
    let may : MayFollow j.serves (x ∷ j.later.items) = subst (MayFollow j.serves) items c.requires in
    elim c.match-change.branch [
      | in-Writes w ↦ next_writes j x w.in-Writes.planned w.in-Writes.is refl w.work-is refl may
      | in-Erases w ↦ next_erases j x w.in-Erases.erasure w.in-Erases.is refl w.work-is refl
    ] ∙ ap (λ (l : List LaidReplacement). job_left j.serves (phases_in l)) (sym items)
