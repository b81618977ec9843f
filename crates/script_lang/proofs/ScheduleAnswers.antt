-- A schedule's text that is read up to a place, and what is answered there.
use Rattle.std.proofs.Common.{◌≡◌, ℕ, ◌+◌, ◌*◌, ◌<◌, ◌≤◌, ◌^◌, List, [], ◌∷◌, length, get_or, take, drop, Some, None}
use Rattle.std.proofs.Common.{refl, sym, ap, ◌∙◌, subst, take-append-drop, inl, inr, arith}
use Rattle.std.proofs.lemmas.List.{take_more, take_all, length-take-le}
use Rattle.script_lang.specs.declared.schedule.Actor.{Actor}
use Rattle.script_lang.specs.declared.reading.Place.TheVariants.{Start}
use Rattle.script_lang.specs.declared.reading.Reading.{Reading}
use Rattle.script_lang.specs.Schedules.{IsSchedule, IsNoSchedule, BeginsSchedule, IsFirstBadByte}
use Rattle.script_lang.specs.Reading.{reading, ended, reading_after, HasRoom}
use Rattle.script_lang.proofs.ScheduleReads.{run, run_then, run_one, run_none, one_schedule, no_end, stopped}
use Rattle.script_lang.proofs.ScheduleLengths.{front_length}
use Rattle.script_lang.proofs.ScheduleTexts.{Reads, none_read}
use Rattle.script_lang.proofs.ScheduleBytes.{byte_read}
use Rattle.script_lang.proofs.ScheduleEnds.{goes_on, schedule_read}

-- so many bytes are read
pub record IsReadTo (text : List ℕ) (n : ℕ) (r : Reading) : Type 0 where
  pub run_is : run (reading [] [] Start) (take n text) ≡ Some r
  pub reads : Reads (take n text) r
  pub room : HasRoom r

pub begun : (text : List ℕ) (r : Reading) → r ≡ reading [] [] Start → IsReadTo text 0 r
begun text r e = subst (IsReadTo text 0) (sym e) (record { run_is = refl; reads = none_read; room = omega arith })

pub one_more : (text : List ℕ) (n : ℕ) (r s : Reading) → IsReadTo text n r → n < length text
    → reading_after r (get_or text n 0) ≡ Some s → HasRoom s → IsReadTo text (n + 1) s
one_more text n r s h lt e room =
    let b = get_or text n 0 in
    let t = take_more text n 0 lt in
    record {
      run_is = ap (run (reading [] [] Start)) t
          ∙ run_then (take n text) (b ∷ []) (reading [] [] Start) r (Some s) h.run_is (run_one r s b e);
      reads = subst (λ (xs : List ℕ). Reads xs s) (sym t) (byte_read (take n text) r s b h.room h.reads e);
      room = room;
    }

nothing_follows : (text : List ℕ) (n : ℕ) (r : Reading) → IsReadTo text n r → n < length text
    → reading_after r (get_or text n 0) ≡ None → BeginsSchedule (take (n + 1) text) → ⊥
nothing_follows text n r h lt e =
    let b = get_or text n 0 in
    stopped (take (n + 1) text) (ap (run (reading [] [] Start)) (take_more text n 0 lt)
    ∙ run_then (take n text) (b ∷ []) (reading [] [] Start) r None h.run_is (run_none r b e))

pub bad_byte : (text : List ℕ) (n : ℕ) (r : Reading) → IsReadTo text n r → n < length text
    → reading_after r (get_or text n 0) ≡ None → IsFirstBadByte text n
bad_byte text n r h lt e = record {
  within = omega arith;
  before = goes_on (take n text) r h.room h.reads;
  stops = inl (nothing_follows text n r h lt e);
}

pub refused_byte : (text : List ℕ) (n : ℕ) (r : Reading) → IsReadTo text n r → n < length text
    → reading_after r (get_or text n 0) ≡ None → IsNoSchedule text
refused_byte text n r h lt e steps s =
    nothing_follows text n r h lt e (record {
      rest = drop (n + 1) text;
      steps = steps;
      schedule = subst (λ (t : List ℕ). IsSchedule t steps) (sym (take-append-drop (n + 1) text)) s;
    })

whole_run : (text : List ℕ) (n : ℕ) (r : Reading) → IsReadTo text n r → length text ≤ n
    → run (reading [] [] Start) text ≡ Some r
whole_run text n r h all = ap (run (reading [] [] Start)) (sym (take_all n text all)) ∙ h.run_is

pub refused_end : (text : List ℕ) (n : ℕ) (r : Reading) → IsReadTo text n r → length text ≤ n → ended r ≡ None
    → IsNoSchedule text
refused_end text n r h all e = no_end text r (whole_run text n r h all) e

pub bad_end : (text : List ℕ) (n : ℕ) (r : Reading) → IsReadTo text n r → n ≡ length text → ended r ≡ None
    → IsFirstBadByte text n
bad_end text n r h all e = record {
  within = omega arith;
  before = goes_on (take n text) r h.room h.reads;
  stops = inr (all, refused_end text n r h (omega arith) e);
}

pub found : (text : List ℕ) (n : ℕ) (r : Reading) (steps : List Actor) → IsReadTo text n r → length text ≤ n
    → ended r ≡ Some steps → IsSchedule text steps
found text n r steps h all e =
    subst (λ (t : List ℕ). IsSchedule t steps) (take_all n text all)
    (schedule_read (take n text) r steps h.room h.reads e)

pub only : (text : List ℕ) (n : ℕ) (r : Reading) (steps : List Actor) → IsReadTo text n r → length text ≤ n
    → ended r ≡ Some steps → (other : List Actor) → IsSchedule text other → other ≡ steps
only text n r steps h all e other s = one_schedule text r steps other (whole_run text n r h all) e s

-- a place that is read up to
pub place_small : (text : List ℕ) (n : ℕ) (r : Reading) → IsReadTo text n r → n ≤ length text → n < 9 * 2 ^ 16
place_small text n r h within =
    let small = front_length (take n text) (goes_on (take n text) r h.room h.reads) in
    let all = length-take-le n text within in
    omega (arith, small, all)
