-- The steps of a schedule, part for part.
use Rattle.std.proofs.Common.{◌≡◌, ℕ, zero, suc, ◌+◌, ◌<◌, List, [], ◌∷◌, ◌++◌, length, take, get_or, refl, sym, ◌∙◌}
use Rattle.std.proofs.Common.{ap}
use Rattle.std.proofs.Common.{append_assoc, arith}
use Rattle.std.proofs.lemmas.List.{append-nil, map-append}
use Rattle.std.proofs.Math.Seq.{take-suc}
use Rattle.script_lang.specs.Schedules.{repeated, written_out}
use Rattle.script_lang.specs.declared.schedule.Actor.{Actor}
use Rattle.script_lang.specs.declared.schedule.Part.{Part}
use Rattle.channels.specs.Actors.{actor_in_run, actors_in_run}

-- once more
repeated-end : (n : ℕ) (actors : List Actor) → repeated n actors ++ actors ≡ repeated (suc n) actors
unfolding repeated
repeated-end zero actors = sym (append-nil actors)
repeated-end (suc n) actors =
    append_assoc actors (repeated n actors) actors ∙ ap (λ l. actors ++ l) (repeated-end n actors)

pub none_repeated : (actors : List Actor) → repeated 0 actors ≡ []
unfolding repeated
none_repeated actors = refl

pub none_written : written_out [] ≡ []
unfolding written_out
none_written = refl

-- once more, as actors of a run
pub repeated_more : (n : ℕ) (actors : List Actor)
    → actors_in_run (repeated n actors) ++ actors_in_run actors ≡ actors_in_run (repeated (suc n) actors)
repeated_more n actors = sym (map-append actor_in_run (repeated n actors) actors)
    ∙ ap actors_in_run (repeated-end n actors)

written-end : (parts : List Part) (part : Part)
    → written_out (parts ++ part ∷ []) ≡ written_out parts ++ repeated part.count part.actors
unfolding written_out
written-end [] part = append-nil (repeated part.count part.actors)
written-end (x ∷ parts) part = ap (λ l. repeated x.count x.actors ++ l) (written-end parts part)
    ∙ sym (append_assoc (repeated x.count x.actors) (written_out parts) (repeated part.count part.actors))

-- the next part's steps behind those of the parts so far
pub written_next : (parts : List Part) (n : ℕ) (d : Part) → n < length parts
    → actors_in_run (written_out (take n parts))
    ++ actors_in_run (repeated (get_or parts n d).count (get_or parts n d).actors)
    ≡ actors_in_run (written_out (take (n + 1) parts))
written_next parts n d low =
    let part : Part = get_or parts n d in
    let one : n + 1 ≡ suc n = omega arith in
    sym (ap (λ k. actors_in_run (written_out (take k parts))) one
    ∙ ap (λ l. actors_in_run (written_out l)) (take-suc parts n d low)
    ∙ ap actors_in_run (written-end (take n parts) part)
    ∙ map-append actor_in_run (written_out (take n parts)) (repeated part.count part.actors))

-- the next actor behind those so far
pub actors_next : (actors : List Actor) (n : ℕ) (d : Actor) → n < length actors
    → actors_in_run (take n actors) ++ actor_in_run (get_or actors n d) ∷ [] ≡ actors_in_run (take (n + 1) actors)
actors_next actors n d low =
    let one : n + 1 ≡ suc n = omega arith in
    sym (ap (λ k. actors_in_run (take k actors)) one ∙ ap actors_in_run (take-suc actors n d low)
    ∙ map-append actor_in_run (take n actors) (get_or actors n d ∷ []))
