-- A text that was read is a schedule where it may end, and begins one everywhere.
use Rattle.std.proofs.Common.{◌≡◌, ℕ, ◌+◌, ◌*◌, ◌≤◌, ◌^◌, true, leb, List, [], ◌∷◌, ◌++◌, length, Some, refl, sym}
use Rattle.std.proofs.Common.{subst, length-append, inl, inr, arith}
use Rattle.std.proofs.lemmas.Bool.Decides.{nat_tests}
use Rattle.std.proofs.lemmas.List.{append-nil}
use Rattle.script_lang.specs.declared.schedule.Actor.{Actor}
use Rattle.script_lang.specs.declared.schedule.Actor.TheVariants.{Metadata}
use Rattle.script_lang.specs.declared.reading.Place.{Place}
use Rattle.script_lang.specs.declared.reading.Place.TheVariants.{Start, Named, Times}
use Rattle.script_lang.specs.declared.reading.Reading.{Reading}
use Rattle.script_lang.specs.Schedules.{repeated, IsSchedule, BeginsSchedule}
use Rattle.script_lang.proofs.Schedules.{length-repeated}
use Rattle.script_lang.proofs.ScheduleReads.{count_digit}
use Rattle.script_lang.specs.Reading.{reading, after_count, ended_at, ended, HasRoomAt, HasRoom}
use Rattle.script_lang.proofs.ScheduleTexts.{Steps, ReadsAt, Reads, when_some, the_same, ended_parts}
use Rattle.script_lang.proofs.ScheduleBytes.{start_read, count_read_on}

ended_few : (done xs : Steps) (place : Place) (steps : Steps) → HasRoomAt done xs place
    → ended_at done xs place ≡ Some steps
    → length steps ≤ 2 ^ 16
ended_few done xs Start steps room e = absurd (cc)
ended_few done xs (Named actor) steps room e =
    let all = xs ++ actor ∷ [] in
    subst (λ (s : Steps). length s ≤ 2 ^ 16) (the_same _ _ e)
    (omega (arith, length-append done (repeated 1 all), length-repeated 1 all, length-append xs (actor ∷ []), room))
ended_few done xs (Times n) steps room e =
    let w = when_some (leb 1 n) _ _ e in
    subst (λ (s : Steps). length s ≤ 2 ^ 16) (the_same _ _ w.1)
    (omega (arith, length-append done (repeated n xs), length-repeated n xs, room.3))

-- where a text may end it is a schedule
pub schedule_read : (text : List ℕ) (r : Reading) (steps : List Actor) → HasRoom r → Reads text r → ended r ≡ Some steps
    → IsSchedule text steps
schedule_read text r steps room h e = record {
  parts = ended_parts text r.schedule r.actors r.place steps room h e;
  few = ended_few r.schedule r.actors r.place steps room e;
}

ends_here : (text : List ℕ) (r : Reading) (steps : Steps) → HasRoom r → Reads text r → ended r ≡ Some steps
    → BeginsSchedule text
ends_here text r steps room h e = record {
  rest = [];
  steps = steps;
  schedule = subst (λ (t : List ℕ). IsSchedule t steps) (sym (append-nil text)) (schedule_read text r steps room h e);
}

ends_after : (text : List ℕ) (r : Reading) (b : ℕ) (steps : Steps) → HasRoom r → Reads (text ++ b ∷ []) r
    → ended r ≡ Some steps → BeginsSchedule text
ends_after text r b steps room h e =
    record { rest = b ∷ []; steps = steps; schedule = schedule_read (text ++ b ∷ []) r steps room h e }

goes_on_at : (text : List ℕ) (done xs : Steps) (place : Place) → HasRoomAt done xs place → ReadsAt text done xs place
    → BeginsSchedule text
goes_on_at text done xs Start room h =
    let next = reading done xs (Named Metadata) in
    ends_after text next 109 (done ++ repeated 1 (xs ++ Metadata ∷ [])) room
    (start_read text done xs 109 next h refl) refl
goes_on_at text done xs (Named actor) room h =
    ends_here text (reading done xs (Named actor)) (done ++ repeated 1 (xs ++ actor ∷ [])) room h refl
goes_on_at text done xs (Times n) room h =
    elim h.is_count [
      | inl c ↦
          let next = reading done xs (Times 1) in
          let most : 1 * length xs ≡ length xs = omega arith in
          let fits : length done + 1 * length xs ≤ 2 ^ 16 = omega (arith, most, room.1) in
          let first : after_count done xs 0 49 ≡ Some next =
          count_digit done xs 0 1 1 (omega arith) (omega arith) (omega arith) (omega arith) fits in
          let one : after_count done xs n 49 ≡ Some next =
          subst (λ (k : ℕ). after_count done xs k 49 ≡ Some next) (sym c.0) first in
          ends_after text next 49 (done ++ repeated 1 xs) (room.0, room.1, omega arith, fits)
          (count_read_on text done xs n 49 next room.2 h one) refl
      | inr c ↦
          let least : leb 1 n ≡ true = grind (arith, nat_tests) in
          ends_here text (reading done xs (Times n)) (done ++ repeated n xs) room h (rw least refl)
    ]

-- with what was read some schedule begins
pub goes_on : (text : List ℕ) (r : Reading) → HasRoom r → Reads text r → BeginsSchedule text
goes_on text r room h = goes_on_at text r.schedule r.actors r.place room h
