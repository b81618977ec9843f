-- How long the text of a schedule may be.
use Rattle.std.proofs.Common.{ℕ, ◌+◌, ◌*◌, ◌<◌, ◌≤◌, ◌^◌, List, [], ◌∷◌, ◌++◌, length, length-append, decimal}
use Rattle.std.proofs.Common.{mul-le-mul_right, arith}
use Rattle.std.proofs.lemmas.Fmt.{length-decimal-le}
use Rattle.script_lang.specs.declared.schedule.Actor.{Actor}
use Rattle.script_lang.specs.Schedules.{IsActor, metadata, channel, AreActors, one_actor, more_actors, IsPart, once}
use Rattle.script_lang.specs.Schedules.{times, AreParts, one_part, more_parts, BeginsSchedule}
use Rattle.script_lang.proofs.Schedules.{length-repeated}

actor_length : (text : List ℕ) (actor : Actor) → IsActor text actor → length text ≤ 2
actor_length _ _ metadata = omega arith
actor_length _ _ (channel n lt) = length-decimal-le 2 n (omega arith) (omega arith) (omega arith)

record IsShort (text : List ℕ) (steps : List Actor) (bytes : ℕ) : Type 0 where
  pub some : 1 ≤ length steps
  pub short : length text + 1 ≤ bytes * length steps

actors_length : (text : List ℕ) (xs : List Actor) → AreActors text xs → IsShort text xs 3
actors_length _ _ (one_actor text actor h) =
    record { some = omega arith; short = omega (arith, actor_length text actor h) }
actors_length _ _ (more_actors text other xs actor h i) =
    let w = actors_length text xs h in
    let n = length-append xs (actor ∷ []) in
    let m = length-append text (43 ∷ other) in
    record { some = omega (arith, n); short = omega (arith, n, m, w.short, actor_length other actor i) }

part_length : (text : List ℕ) (steps : List Actor) → IsPart text steps → IsShort text steps 9
part_length _ _ (once text xs h) =
    let w = actors_length text xs h in
    let n = length-repeated 1 xs in
    record { some = omega (arith, n, w.some); short = omega (arith, n, w.some, w.short) }
part_length _ _ (times text xs n h least most) =
    let w = actors_length text xs h in
    let m = length-repeated n xs in
    let all : 1 * length xs ≤ n * length xs = mul-le-mul_right (length xs) least in
    let t = length-append text (42 ∷ decimal n) in
    let d = length-decimal-le 5 n (omega arith) (omega arith) (omega arith) in
    record { some = omega (arith, m, all, w.some); short = omega (arith, m, all, w.some, w.short, t, d) }

parts_length : (text : List ℕ) (steps : List Actor) → AreParts text steps → IsShort text steps 9
parts_length _ _ (one_part text steps h) = part_length text steps h
parts_length _ _ (more_parts text other steps later h i) =
    let w = parts_length text steps h in
    let v = part_length other later i in
    let n = length-append steps later in
    let m = length-append text (44 ∷ other) in
    record { some = omega (arith, n, w.some); short = omega (arith, n, m, w.short, v.short) }

-- what a schedule begins with
pub front_length : (front : List ℕ) → BeginsSchedule front → length front < 9 * 2 ^ 16
front_length front g =
    let w = parts_length (front ++ g.rest) g.steps g.schedule.parts in
    omega (arith, length-append front g.rest, w.short, g.schedule.few)
