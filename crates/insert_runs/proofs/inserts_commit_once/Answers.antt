use Rattle.store_model.proofs.Known.{Known}
use Rattle.insert_runs.proofs.InsertsOfRuns.{once, rises}
use Rattle.insert_runs.proofs.PutInSlots.{claim, held, puts}
use Rattle.insert_runs.proofs.WantedTurns.{wants_no_more}
use Rattle.insert_runs.proofs.inserts_commit_once.Goals as goal

pub returns : goal.returns
returns c = record {
  puts = λ told s first script p q placed facts turn.
      let known : Known =
      record { s = s; placed = placed; first = first; script = script; p = p; facts = facts } in
      (claim known told q turn, held known told q turn, puts known told q turn);
  stays = λ told s first script p q of placed facts turn. (wants_no_more
      (record { s = s; placed = placed; first = first; script = script; p = p; facts = facts }) told q of turn).wanted;
  rise = λ told s first script p q kinds placed facts run. rises told s first script placed
      (λ a b of known turn. c.state_turns.ensures.keep told s first script a b of placed known turn) kinds p q facts
      run;
  once = λ told s first script p q kinds placed facts run. once _ (rises told s first script placed
      (λ a b of known turn. c.state_turns.ensures.keep told s first script a b of placed known turn) kinds p q facts
      run);
}
