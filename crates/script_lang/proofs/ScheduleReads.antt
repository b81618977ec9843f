-- The reading of a schedule's text against what schedules say.
use Rattle.std.proofs.Common.{◌≡◌, ℕ, ◌+◌, ◌-◌, ◌*◌, ◌/◌, ◌%◌, ◌<◌, ◌≤◌, ◌^◌, true, false, ltb, leb, eqb, List, [], ◌∷◌}
use Rattle.std.proofs.Common.{◌++◌, length, Option, Some, None, refl, sym, ap, ◌∙◌, subst, length-append, decimal, inl}
use Rattle.std.proofs.Common.{inr, mul-le-mul_right, arith}
use Rattle.std.specs.Option.{option_and_then}
use Rattle.std.proofs.lemmas.Bool.Decides.{nat_tests}
use Rattle.std.proofs.lemmas.Bool.{cases_lt, lt-ltb, le-leb}
use Rattle.std.proofs.lemmas.Fmt.{decimal_digit, decimal_step, decimal_by_steps}
use Rattle.script_lang.specs.declared.schedule.Actor.{Actor}
use Rattle.script_lang.specs.declared.schedule.Actor.TheVariants.{Channel}
use Rattle.script_lang.specs.declared.reading.Place.TheVariants.{Start, Named, Times}
use Rattle.script_lang.specs.declared.reading.Reading.{Reading}
use Rattle.script_lang.specs.Schedules.{repeated, IsActor, metadata, channel, AreActors, one_actor, more_actors, IsPart}
use Rattle.script_lang.specs.Schedules.{once, times, AreParts, one_part, more_parts, IsSchedule, IsNoSchedule}
use Rattle.script_lang.specs.Schedules.{BeginsSchedule}
use Rattle.script_lang.proofs.Schedules.{length-repeated}
use Rattle.script_lang.specs.Reading.{reading, with_comma, ended, reading_after}

abbrev Steps : Type 0
Steps = List Actor

-- how a text is read on
abbrev pub run : Reading → List ℕ → Option Reading
run r [] = Some r
run r (b ∷ text) = option_and_then (λ s. run s text) (reading_after r b)

same_some : {X : Type 0} (x y : X) → Some x ≡ Some y → x ≡ y
same_some x y e = cc

pub run_then : (xs ys : List ℕ) (r s : Reading) (o : Option Reading) → run r xs ≡ Some s → run s ys ≡ o
    → run r (xs ++ ys) ≡ o
run_then [] ys r s o e f = subst (λ x. run x ys ≡ o) (sym (same_some r s e)) f
run_then (b ∷ xs) ys r s o e f =
    elim (reading_after r b)
    as (λ m. option_and_then (λ x. run x xs) m ≡ Some s → option_and_then (λ x. run x (xs ++ ys)) m ≡ o) [
      | None ↦ λ e. absurd (cc)
      | Some next ↦ λ e. run_then xs ys next s o e f
    ] e

pub run_stops : (xs ys : List ℕ) (r : Reading) → run r xs ≡ None → run r (xs ++ ys) ≡ None
run_stops [] ys r e = absurd (cc)
run_stops (b ∷ xs) ys r e =
    elim (reading_after r b)
    as (λ m. option_and_then (λ x. run x xs) m ≡ None → option_and_then (λ x. run x (xs ++ ys)) m ≡ None) [
      | None ↦ λ e. refl
      | Some next ↦ λ e. run_stops xs ys next e
    ] e

-- one byte more
pub run_one : (r s : Reading) (b : ℕ) → reading_after r b ≡ Some s → run r (b ∷ []) ≡ Some s
run_one r s b e = ap (option_and_then (λ x. run x [])) e

pub run_none : (r : Reading) (b : ℕ) → reading_after r b ≡ None → run r (b ∷ []) ≡ None
run_none r b e = ap (option_and_then (λ x. run x [])) e

run_next : (xs ys : List ℕ) (b : ℕ) (r s t : Reading) (o : Option Reading) → run r xs ≡ Some s
    → reading_after s b ≡ Some t
    → run t ys ≡ o → run r (xs ++ b ∷ ys) ≡ o
run_next xs ys b r s t o e f g = run_then xs (b ∷ ys) r s o e (ap (option_and_then (λ x. run x ys)) f ∙ g)

-- numbers of channels, as they are printed
one_digit : (n : ℕ) → n < 10 → decimal n ≡ (48 + n) ∷ []
one_digit n lt = decimal_digit n lt

pub two_digits : (n : ℕ) → 10 ≤ n → n < 16 → decimal n ≡ 49 ∷ (38 + n) ∷ []
two_digits n ge lt =
    let q : n / 10 ≡ 1 = omega arith in
    let m : 48 + n % 10 ≡ 38 + n = omega arith in
    decimal_step n ge (omega arith)
    ∙ ap (λ k. decimal k ++ (48 + n % 10) ∷ []) q
    ∙ ap (λ ds. ds ++ (48 + n % 10) ∷ []) (decimal_digit 1 (omega arith))
    ∙ ap (λ (b : ℕ). 49 ∷ b ∷ []) m

start_digit : (done actors : Steps) (n : ℕ) → n < 10
    → reading_after (reading done actors Start) (48 + n) ≡ Some (reading done actors (Named (Channel n)))
start_digit done actors n lt =
    let e : 48 + n - 48 ≡ n = omega arith in
    let a : eqb (48 + n) 44 ≡ false = grind (arith, nat_tests) in
    let b : eqb (48 + n) 109 ≡ false = grind (arith, nat_tests) in
    let c : leb 48 (48 + n) ≡ true = grind (arith, nat_tests) in
    let d : leb (48 + n) 57 ≡ true = grind (arith, nat_tests) in
    rw a (rw b (rw c (rw d (rw e refl))))

second_digit : (done actors : Steps) (n : ℕ) → 10 ≤ n → n < 16
    → reading_after (reading done actors (Named (Channel 1))) (38 + n) ≡ Some (reading done actors (Named (Channel n)))
second_digit done actors n ge lt =
    let e : 38 + n - 38 ≡ n = omega arith in
    let a : eqb (38 + n) 44 ≡ false = grind (arith, nat_tests) in
    let b : eqb (38 + n) 43 ≡ false = grind (arith, nat_tests) in
    let f : eqb (38 + n) 42 ≡ false = grind (arith, nat_tests) in
    let c : leb 48 (38 + n) ≡ true = grind (arith, nat_tests) in
    let d : leb (38 + n) 53 ≡ true = grind (arith, nat_tests) in
    rw a (rw b (rw f (rw c (rw d (rw e refl)))))

-- an actor is read from where one is to begin
actor_read : (text : List ℕ) (actor : Actor) (done before : Steps) → IsActor text actor
    → run (reading done before Start) text ≡ Some (reading done before (Named actor))
actor_read _ _ done before metadata = refl
actor_read _ _ done before (channel n lt) =
    let begun = reading done before Start in
    let one = reading done before (Named (Channel 1)) in
    let all = reading done before (Named (Channel n)) in
    elim (cases_lt n 10) [
      | inl small ↦ rw (one_digit n small) (run_one begun all (48 + n) (start_digit done before n small))
      | inr large ↦
          rw (two_digits n large lt)
          (run_next [] ((38 + n) ∷ []) 49 begun begun one (Some all) refl
          (start_digit done before 1 (omega arith))
          (run_one one all (38 + n) (second_digit done before n large lt)))
    ]

plus : (done front : Steps) (last : Actor) → length done + length front + 2 ≤ 2 ^ 16
    → reading_after (reading done front (Named last)) 43 ≡ Some (reading done (front ++ last ∷ []) Start)
plus done front last room =
    let fits : leb (length done + length front + 2) (2 ^ 16) ≡ true = grind (arith, nat_tests) in rw fits refl

-- actors are read up to the last of them
record IsNamed (done : Steps) (text : List ℕ) (xs : Steps) : Type 0 where
  pub front : Steps
  pub last : Actor
  pub xs_are : xs ≡ front ++ last ∷ []
  pub read : run (reading done [] Start) text ≡ Some (reading done front (Named last))

actors_read : (text : List ℕ) (xs done : Steps) → AreActors text xs → length done + length xs ≤ 2 ^ 16
    → IsNamed done text xs
actors_read _ _ done (one_actor text actor h) room =
    record { front = []; last = actor; xs_are = refl; read = actor_read text actor done [] h }
actors_read _ _ done (more_actors text other xs actor h i) room =
    let n = length-append xs (actor ∷ []) in
    let w = actors_read text xs done h (omega (arith, n)) in
    let m : length xs ≡ length w.front + 1 = ap length w.xs_are ∙ length-append w.front (w.last ∷ []) in
    let joined : reading_after (reading done w.front (Named w.last)) 43 ≡ Some (reading done xs Start) =
    plus done w.front w.last (omega (arith, n, m, room)) ∙ ap (λ ys. Some (reading done ys Start)) (sym w.xs_are) in
    record {
      front = xs;
      last = actor;
      xs_are = refl;
      read = run_next text other 43 (reading done [] Start) (reading done w.front (Named w.last))
          (reading done xs Start)
          (Some (reading done xs (Named actor))) w.read joined (actor_read other actor done xs i);
    }

-- a digit of a count
pub count_digit : (done xs : Steps) (k d n : ℕ) → d < 10 → k * 10 + d ≡ n → 1 ≤ n → n ≤ 2 ^ 16
    → length done + n * length xs ≤ 2 ^ 16
    → reading_after (reading done xs (Times k)) (48 + d) ≡ Some (reading done xs (Times n))
count_digit done xs k d n lt is least most room =
    let e : k * 10 + (48 + d - 48) ≡ n = omega arith in
    let a : eqb (48 + d) 44 ≡ false = grind (arith, nat_tests) in
    let b : leb 48 (48 + d) ≡ true = grind (arith, nat_tests) in
    let c : leb (48 + d) 57 ≡ true = grind (arith, nat_tests) in
    let f : leb 1 n ≡ true = grind (arith, nat_tests) in
    let g : leb n (2 ^ 16) ≡ true = grind (arith, nat_tests) in
    let h : leb (length done + n * length xs) (2 ^ 16) ≡ true = le-leb _ _ room in
    rw a (rw b (rw c (rw e (rw f (rw g (rw h refl))))))

abbrev IsCounted : Steps → Steps → ℕ → List ℕ → Type 0
IsCounted done xs n ds = 1 ≤ n → n ≤ 2 ^ 16 → length done + n * length xs ≤ 2 ^ 16
    → run (reading done xs (Times 0)) ds ≡ Some (reading done xs (Times n))

count_read : (done xs : Steps) (n : ℕ) → n < 2 ^ 64 → IsCounted done xs n (decimal n)
count_read done xs n small =
    decimal_by_steps (IsCounted done xs)
    (λ k lt least most room. run_one (reading done xs (Times 0)) (reading done xs (Times k)) (48 + k)
    (count_digit done xs 0 k k lt (omega arith) least most room))
    (λ k ds ge before least most room.
    let fewer : k / 10 * length xs ≤ k * length xs = mul-le-mul_right (length xs) (omega arith) in
    run_then ds ((48 + k % 10) ∷ []) (reading done xs (Times 0)) (reading done xs (Times (k / 10)))
    (Some (reading done xs (Times k))) (before (omega arith) (omega arith) (omega (arith, fewer, room)))
    (run_one (reading done xs (Times (k / 10))) (reading done xs (Times k)) (48 + k % 10)
    (count_digit done xs (k / 10) (k % 10) k (omega arith) (omega arith) least most room)))
    n small

-- a part is read up to where it may end
record IsPartRead (done : Steps) (text : List ℕ) (steps : Steps) : Type 0 where
  pub at : Reading
  pub read : run (reading done [] Start) text ≡ Some at
  pub ends : ended at ≡ Some (done ++ steps)

part_read : (text : List ℕ) (steps done : Steps) → IsPart text steps → length done + length steps ≤ 2 ^ 16
    → IsPartRead done text steps
part_read _ _ done (once text xs h) room =
    let w = actors_read text xs done h (omega (arith, length-repeated 1 xs)) in
    record {
      at = reading done w.front (Named w.last);
      read = w.read;
      ends = ap (λ ys. Some (done ++ repeated 1 ys)) (sym w.xs_are);
    }
part_read _ _ done (times text xs n h least most) room =
    let all : length done + n * length xs ≤ 2 ^ 16 = omega (arith, length-repeated n xs, room) in
    let some : 1 * length xs ≤ n * length xs = mul-le-mul_right (length xs) least in
    let w = actors_read text xs done h (omega (arith, some, all)) in
    let star : reading_after (reading done w.front (Named w.last)) 42 ≡ Some (reading done xs (Times 0)) =
    ap (λ ys. Some (reading done ys (Times 0))) (sym w.xs_are) in
    let counts : leb 1 n ≡ true = grind (arith, nat_tests) in
    record {
      at = reading done xs (Times n);
      read = run_next text (decimal n) 42 (reading done [] Start) (reading done w.front (Named w.last))
          (reading done xs (Times 0)) (Some (reading done xs (Times n))) w.read star
          (count_read done xs n (omega arith) least most all);
      ends = rw counts refl;
    }

actors_some : (text : List ℕ) (xs : Steps) → AreActors text xs → 1 ≤ length xs
actors_some _ _ (one_actor text actor h) = omega arith
actors_some _ _ (more_actors text other xs actor h i) = omega (arith, length-append xs (actor ∷ []))

part_some : (text : List ℕ) (steps : Steps) → IsPart text steps → 1 ≤ length steps
part_some _ _ (once text xs h) = omega (arith, length-repeated 1 xs, actors_some text xs h)
part_some _ _ (times text xs n h least most) =
    let some : 1 * length xs ≤ n * length xs = mul-le-mul_right (length xs) least in
    omega (arith, length-repeated n xs, actors_some text xs h, some)

-- the parts of a schedule are read up to where the text may end
pub record AreRead (text : List ℕ) (steps : List Actor) : Type 0 where
  pub at : Reading
  pub read : run (reading [] [] Start) text ≡ Some at
  pub ends : ended at ≡ Some steps

parts_read : (text : List ℕ) (steps : Steps) → AreParts text steps → length steps ≤ 2 ^ 16 → AreRead text steps
parts_read _ _ (one_part text steps h) room =
    let w = part_read text steps [] h (omega arith) in record { at = w.at; read = w.read; ends = w.ends }
parts_read _ _ (more_parts text other steps later h i) room =
    let n = length-append steps later in
    let some = part_some other later i in
    let w = parts_read text steps h (omega (arith, n, room)) in
    let less : ltb (length steps) (2 ^ 16) ≡ true = lt-ltb _ _ (omega (arith, n, room, some)) in
    let comma : reading_after w.at 44 ≡ Some (reading steps [] Start) =
    ap (option_and_then with_comma) w.ends ∙ (rw less refl) in
    let p = part_read other later steps i (omega (arith, n, room)) in
    record {
      at = p.at;
      read = run_next text other 44 (reading [] [] Start) w.at (reading steps [] Start) (Some p.at) w.read comma p.read;
      ends = p.ends;
    }

pub is_read : (text : List ℕ) (steps : List Actor) → IsSchedule text steps → AreRead text steps
is_read text steps h = parts_read text steps h.parts h.few

-- what is read up to an end is the only schedule
pub one_schedule : (text : List ℕ) (r : Reading) (steps other : List Actor) → run (reading [] [] Start) text ≡ Some r
    → ended r ≡ Some steps → IsSchedule text other → other ≡ steps
one_schedule text r steps other read ends h =
    let w = is_read text other h in
    let same : w.at ≡ r = same_some _ _ (sym w.read ∙ read) in
    same_some _ _ (sym w.ends ∙ ap ended same ∙ ends)

pub no_end : (text : List ℕ) (r : Reading) → run (reading [] [] Start) text ≡ Some r → ended r ≡ None
    → IsNoSchedule text
no_end text r read ends steps h =
    let w = is_read text steps h in
    let same : w.at ≡ r = same_some _ _ (sym w.read ∙ read) in
    let no : Some steps ≡ None = sym w.ends ∙ ap ended same ∙ ends in
    absurd (cc)

pub stopped : (front : List ℕ) → run (reading [] [] Start) front ≡ None → BeginsSchedule front → ⊥
stopped front none g =
    let w = is_read (front ++ g.rest) g.steps g.schedule in
    let no : Some w.at ≡ None = sym w.read ∙ run_stops front g.rest (reading [] [] Start) none in
    absurd (cc)
