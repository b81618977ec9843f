use Rattle.std.proofs.Common.{refl}
use Rattle.std.proofs.lemmas.Result.{err_from_is_err_and}
use Rattle.volume_model.proofs.Edits.{edited, fixed}
use Rattle.volume_model.specs.Volumes.{Volume, page_of}
use Rattle.std.proofs.Math.ListN.{set}
use Rattle.volume_model.specs.Plain.{volume_in_row}
use Rattle.volume_model.proofs.machine.Volumes.write.Goals as goal

pub returns-in_err-head-clause-answer : goal.returns-in_err-head-clause-answer
returns-in_err-head-clause-answer c = let p = err_from_is_err_and c.from_residual.result c.from_residual.ensures.1 in
    rw (p.1, p.2) (refl, c.in_err-head.ensures.cause c.args.word.now)

pub returns-clause-answer : goal.returns-clause-answer
returns-clause-answer c =
    let go = c.in_ok-head.ensures.cause c.args.word.now in
    let change = λ (x : Volume). record x { pages = set x.pages c.args.page (page_of c.args.word.now) } in
    record {
      fixed = fixed _ _ _ c.args.volume.now c.in_ok-head.head (volume_in_row c.take-x.result) _ change
          c.take-x.ensures.rest c.put.ensures;
      step = record {
        allowed = (go.passed, tt);
        after =
            edited _ _ _ c.args.volume.now c.in_ok-head.head (volume_in_row c.take-x.result) _ change
            c.take-x.ensures.rest c.put.ensures go.meant c.take-x.ensures.value (rw c.page_of.ensures refl);
      };
      least = tt;
      answered = tt;
    }
