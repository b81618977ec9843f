use Rattle.std.proofs.Common.{◌∙◌, sym}
use Rattle.std.proofs.lemmas.Bool.{false≢true}
use Rattle.channels.specs.Driving.{driven, unsent_of}
use Rattle.channels.proofs.MetadataActing.{acts_due}
use Rattle.channels.proofs.QueueLooked.{kept_before}
use Rattle.channels.proofs.driver.Driver.turns_or_looks.Goals as goal

pub returns-in_default-clause-step : goal.returns-in_default-clause-step
returns-in_default-clause-step g c = λ moved.
    let d = g.D.PageDisk in
    let w = c.args.self.now in
    let is = c.requires.driven in
    acts_due c.what_is_due.ensures d.tells (driven d w) _
    (c.md_turn-turn.ensures.step moved (kept_before d w is c.moves_keep_facts.ensures) (unsent_of w.channels) w.queue
    (λ found. absurd (false≢true (sym is.fill.looks ∙ found))))

pub returns-in_default-clause-keeps : goal.returns-in_default-clause-keeps
returns-in_default-clause-keeps g c = λ _.
    record {
      looks = c.md_turn-turn.ensures.looked;
      asked = c.md_turn-turn.ensures.asked
          (kept_before g.D.PageDisk c.args.self.now c.requires.driven c.moves_keep_facts.ensures);
    }

pub returns-in-Idle-clause-looks : goal.returns-in-Idle-clause-looks
returns-in-Idle-clause-looks g c = λ idle.
    let kept = kept_before g.D.PageDisk c.args.self.now c.requires.driven c.moves_keep_facts.ensures in
    let turn = c.md_turn-turn.ensures in
    let take = c.md_take.ensures in
    record {
      same = (turn.idle idle).0;
      between = c.md_turn-turn.new.self;
      looks = turn.looks idle kept;
      none = (turn.idle idle).1;
      asked = turn.asked kept;
      state = take.state;
      taken = take.taken;
      empty = take.empty;
      unchanged = take.unchanged;
    }
