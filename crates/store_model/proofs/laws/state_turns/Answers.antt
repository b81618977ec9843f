use Rattle.store_model.proofs.Repairing.{repaired_stays, repaired_unmarked}
use Rattle.store_model.proofs.FillRuns.{fill_stands}
use Rattle.store_model.proofs.JobWritable.{job_writable}
use Rattle.store_model.proofs.StateBegins.{begins_well, run_more, turn_keeps}
use Rattle.store_model.proofs.StateAgrees.{behind_recovers}
use Rattle.store_model.proofs.laws.state_turns.Goals as goal

pub returns : goal.returns
returns c = record {
  begin = begins_well;
  keep = turn_keeps (record {
    refusals = c.refusal_changes_nothing.ensures;
    repairs = record {
      cut_off = c.repairs_may_be_cut_off.ensures.same;
      give = c.repairs_give_what_is_resolved.ensures;
      unremoved = c.resolved_blobs_have_no_marks.ensures.removed;
      made = c.resolved_blobs_have_no_marks.ensures.made;
    };
  });
  go_on = run_more;
  fill_stands = fill_stands;
  repaired_stays = λ told s first script p q kind facts t r. repaired_stays told s first script p q kind facts t r;
  repaired_unmarked = repaired_unmarked;
  writable = λ s first script p command changes commit placed facts runs unmarked asked claimed least one_each low.
      job_writable (record { s = s; placed = placed; first = first; script = script; p = p; facts = facts })
      unmarked runs command commit claimed least changes asked one_each low;
  recovers = λ s first script p image placed facts told runs store says same.
      behind_recovers s first script p facts told runs placed image store says same;
}
