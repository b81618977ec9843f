use Rattle.std.proofs.Common.{◌<◌, ◌∙◌, true, length, refl, sym, ap, subst, inl, inr}
use Rattle.std.proofs.Common.{arith}
use Rattle.pools.specs.Pool.{clear_in}
use Rattle.store_model.specs.Jobs.{with_clusters, AreForZeros}
use Rattle.store_model.specs.Places.{all_set}
use Rattle.store_model.proofs.Sets.{are_distinct}
use Rattle.job_begins.proofs.SlotsFilled.{some_claimed}
use Rattle.job_begins.proofs.JobPlaces.{clear_again, taken_in_use}
use Rattle.job_begins.proofs.SlotsOfZeros.{with_none}
use Rattle.job_begins.proofs.filling.fill_slots.Goals as goal

pub put_clusters-requires-clause-some : goal.put_clusters-requires-clause-some
put_clusters-requires-clause-some c = some_claimed c.args.clusters.now.bits c.in_ok-claimed.claimed c.requires.first
    c.in_ok-claimed.ensures.least

pub clear_places-requires-clause-distinct : goal.clear_places-requires-clause-distinct
clear_places-requires-clause-distinct c =
    are_distinct c.args.clusters.now.bits c.in_ok-claimed.claimed c.in_ok-claimed.ensures.least

pub clear_places-requires-clause-in_use : goal.clear_places-requires-clause-in_use
clear_places-requires-clause-in_use c =
    taken_in_use c.args.clusters.now.bits c.in_ok-claimed.claimed c.in_ok-claimed.ensures.least _
    c.in_ok-claimed.ensures.bits

pub returns-in-Err-clause-memory : goal.returns-in-Err-clause-memory
returns-in-Err-clause-memory c =
    clear_again c.args.clusters.now.bits c.in_ok-claimed.claimed c.in_ok-claimed.ensures.least _ _
    c.in_ok-claimed.ensures.bits c.clear_places.ensures.bits

pub returns-then-clear_count-count-clause-claimed : goal.returns-then-clear_count-count-clause-claimed
returns-then-clear_count-count-clause-claimed c =
    let clear = c.clear_count.ensures in
    let count = c.len-count.ensures in
    let fewer = c.if-clear_count-count.true in
    let few : clear_in c.args.clusters.now.bits < length c.args.slots.now = omega (arith, clear, count, fewer) in
    subst (AreForZeros c.args.clusters.now.bits c.args.slots.now) (sym c.new.ensures)
    (record { least = tt; count = inr (refl, few) })

pub returns-then-clear_count-count-clause-filled : goal.returns-then-clear_count-count-clause-filled
returns-then-clear_count-count-clause-filled c =
    sym (ap (with_clusters c.args.new.now c.args.slots.now) c.new.ensures
    ∙ with_none c.args.new.now c.args.slots.now)

pub returns-then-clear_count-count-clause-bits : goal.returns-then-clear_count-count-clause-bits
returns-then-clear_count-count-clause-bits c =
    sym (ap (λ l. all_set c.args.clusters.now.bits l true) c.new.ensures)

pub returns-in-Ok-clause-claimed : goal.returns-in-Ok-clause-claimed
returns-in-Ok-clause-claimed c =
    let count = c.len-count.ensures in
    let taken = c.in_ok-claimed.ensures.count in
    record {
      least = c.in_ok-claimed.ensures.least;
      count = inl (taken ∙ count);
    }
