-- The job of an insert ends on a store that stops, or has stopped: the command that its row works for is logged.
use Rattle.std.proofs.Common.{◌≡◌, ℕ, ◌≤◌, Bool, false, length, Some, None, ap, arith, refl}
use Rattle.volume_model.specs.declared.reply.Reply.{Reply}
use Rattle.store_model.specs.Claiming.{given_back, IsInserting}
use Rattle.store_model.specs.Device.{Device}
use Rattle.store_model.specs.Rows.{Answered, Decided, Row}
use Rattle.store_model.specs.StoreState.{JobState, StoreState, waiting}
use Rattle.store_model.specs.RunInvariant.{RunInvariant}
use Rattle.store_model.proofs.FactsKept.{facts_kept, log_stays}
use Rattle.store_model.proofs.GivenBack.{EndsWork, IsLogged, logged_behind, logged_from}
use Rattle.store_model.proofs.Guarding.{none_guarded}
use Rattle.store_model.proofs.JobKept.{no_other}
use Rattle.store_model.proofs.Known.{Known}
use Rattle.store_model.proofs.Refusals.{RefusalsChangeNothing}
use Rattle.store_model.proofs.RowsKept.{row_same}
use Rattle.store_model.proofs.Shaped.{decided_may, shaped_with}

module _ (known : Known) (j : JobState) (is : known.p.job ≡ Some j) (inserting : IsInserting known.p j) (at : ℕ)
    (few : at ≤ length known.p.log) (frozen : ℕ → Bool) (none : (head : ℕ) → frozen head ≡ false) where
  open known use {s, placed, first, script, p, facts}
  open inserting use {row, serves}

  -- the stopped store, without the job
  abbrev pub halted : StoreState
  halted = record p { job = None; stopped = Some at; frozen = frozen }

  -- its row has given its claim back
  back : (d : Device) → p.device.clock ≤ d.clock
      → RunInvariant s first script (given_back (record halted { device = d }) row (Decided Answered))
  back d later =
      let now : StoreState = given_back (record halted { device = d }) row (Decided Answered) in
      let next : Row = record { left = (p.rows row).left; stage = Decided Answered; claim = None } in
      facts_kept known now refl refl (record {
        logs = log_stays known now refl refl refl (row_same p.rows row next (λ r. r.left) refl) later;
        well = λ runs. absurd (cc runs);
        shaped = shaped_with p facts.shaped now row next refl
            (no_other known j is row (ap (λ x. waiting x j.todo) serves) now) (decided_may now row next.left)
            (λ job channel bad is_for waits. absurd (cc bad));
        guarded = none_guarded now none;
        halted = λ n halts. let e : at ≡ n = cc halts in omega (arith, e, few);
        unfinished = λ job bad. absurd (cc bad);
      })

  pub insert_stops : RefusalsChangeNothing → (reply : Reply) (d : Device) (q : StoreState) → p.device.clock ≤ d.clock
      → EndsWork reply → IsLogged halted row (Decided Answered) reply d q → RunInvariant s first script q
  insert_stops quiet reply d q later ends t =
      logged_behind quiet known (record halted { device = d }) row (Decided Answered) decided_may (λ bad. cc bad)
      (back d later) reply q (logged_from d t) ends
