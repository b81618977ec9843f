use Rattle.store_model.proofs.Grown.{whole_from, reached_at, from_still, at_still, idle_from, failed_from, failed_at}
use Rattle.volume_model.specs.declared.reply.Reply.TheVariants.{Fault}
use Rattle.store_model.proofs.laws.growing.Goals as goal

pub returns : goal.returns
returns c =
    let idle = c.refusal_settles_nothing.ensures in
    record {
      whole = whole_from;
      reached = reached_at;
      still = from_still;
      still_at = at_still;
      idle = λ s first log e image is x. idle_from s first log e is (idle e is) image x;
      failed = λ s first log done least image is may le x.
          failed_from s first log done is may (idle (record done { reply = Fault }) tt) least image le x;
      failed_at = λ s first log done image is may x. failed_at s first log done is may image x;
    }
