use Rattle.std.proofs.Common.{◌≡◌, ◌≤◌, ◌<◌, [], ◌∷◌, List, ℕ, slice_index, length, refl, sym, subst, arith}
use Rattle.std.proofs.lemmas.Result.{IfOk-weaker}
use Rattle.blob_meta.specs.declared.job.Job.{Job}
use Rattle.std.specs.FinMap as map
use Rattle.inflate_delete.specs.DeletePlans.{IsDeleteJob, IsJobBeside}
use Rattle.inflate_delete.proofs.deleting.delete.Goals as goal

one_item : (ks : List ℕ) → 1 ≤ length ks → length ks < 2 → ks ≡ slice_index ks 0 ∷ []
one_item [] some few = absurd (omega arith)
one_item (k ∷ []) some few = refl
one_item (k ∷ l ∷ ks) some few = absurd (omega arith)

pub returns-in-Some : goal.returns-in-Some
returns-in-Some c =
    let ks = c.args.clones.now in
    let one = one_item ks c.in-len1.len_at_least (let few = c.requires.few in omega arith) in
    IfOk-weaker c.delete_job.result _ (IsDeleteJob c.args.metas.now c.args.volume)
    (λ (job : Job) is. record {
      old = c.args.old.now;
      there = c.requires.there;
      clones = ks;
      clones_are = c.requires.clones;
      job_is = subst (λ (xs : List ℕ). IsJobBeside (map.get c.args.metas.now) c.args.volume c.args.old.now xs job)
          (sym one)
          (c.in-Some.heir.now, sym c.in-Some.ensures, is);
    })
    c.delete_job.ensures
