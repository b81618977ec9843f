use Rattle.std.proofs.Common.{refl, inl, ◌∙◌}
use Rattle.std.proofs.lemmas.Result.{err_from_is_err_and}
use Rattle.volume_model.proofs.machine.Volumes.create.Goals as goal

pub returns-in_err-may_create : goal.returns-in_err-may_create
returns-in_err-may_create c = let p = err_from_is_err_and c.from_residual.result c.from_residual.ensures.1 in
    rw (p.1, p.2) (refl, inl (c.in_err-may_create.ensures.err c.args.thick c.args.uuid))

pub returns : goal.returns
returns c =
    let put = c.in_ok-add.ensures.ok in
    record {
      fixed = put.fixed;
      step = record {
        allowed = (
          c.in_ok-may_create.ensures.ok c.args.thick c.args.uuid,
          (c.in_ok-made.ensures.below, c.in_ok-made.ensures.least.free),
        );
        after =
            λ k. put.after k ∙ rw (
              c.in_ok-zeros.ensures,
              c.pages_in.ensures,
              c.in_ok-two_xattrs.ensures,
              c.in_ok-two_xattrs-2.ensures,
            ) refl;
      };
      least = c.in_ok-made.ensures.least;
      answered = tt;
    }
