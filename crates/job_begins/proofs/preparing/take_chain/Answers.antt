use Rattle.std.proofs.Common.{ℕ, List, true, ap, subst, ◌∙◌, length}
use Rattle.store_model.specs.Places.{AreLeastClear}
use Rattle.store_model.specs.Places.{all_set}
use Rattle.store_model.proofs.Sets.{are_distinct}
use Rattle.md_chain.proofs.Fitting.{some_parts}
use Rattle.md_chain.specs.Packing.{parts_of}
use Rattle.job_begins.proofs.JobPlaces.{behind_long, clear_again, some_taken, taken_in_use, taken_is}
use Rattle.job_begins.specs.Begins.{behind_in, IsChainLaid}
use Rattle.job_begins.proofs.preparing.take_chain.Goals as goal

pub clear_places-requires-clause-distinct : goal.clear_places-requires-clause-distinct
clear_places-requires-clause-distinct c =
    are_distinct c.args.pages.now.bits c.in_ok-taken.taken c.in_ok-taken.ensures.least

pub clear_places-requires-clause-in_use : goal.clear_places-requires-clause-in_use
clear_places-requires-clause-in_use c =
    taken_in_use c.args.pages.now.bits c.in_ok-taken.taken c.in_ok-taken.ensures.least _ c.in_ok-taken.ensures.bits

pub returns-clause-memory : goal.returns-clause-memory
returns-clause-memory c =
    clear_again c.args.pages.now.bits c.in_ok-taken.taken c.in_ok-taken.ensures.least _ _ c.in_ok-taken.ensures.bits
    c.clear_places.ensures.bits

pub behind_head-fresh-requires : goal.behind_head-fresh-requires
behind_head-fresh-requires c = rw c.as_slice.ensures (some_taken c.args.makes (length c.in_ok-taken.taken)
    (length (parts_of c.args.items.now)) (c.in_ok-taken.ensures.count ∙ c.pages_needed.ensures)
    (some_parts 4072 c.args.items.now))

pub returns-in-Ok-clause-taken : goal.returns-in-Ok-clause-taken
returns-in-Ok-clause-taken c =
    let bits = c.args.pages.now.bits in
    let taken = c.in_ok-taken.taken in
    let some = some_parts 4072 c.args.items.now in
    let long = c.in_ok-taken.ensures.count ∙ c.pages_needed.ensures in
    let is = taken_is bits c.args.makes c.args.head taken c.in_ok-taken.ensures.least c.requires.next
    (some_taken c.args.makes (length taken) (length (parts_of c.args.items.now)) long some) in
    record {
      fresh = behind_in c.args.makes taken;
      laid_on = subst (λ (l : List ℕ). IsChainLaid c.args.items.now c.args.head l c.in-Ok.laid)
          (c.behind_head-fresh.ensures ∙ ap (behind_in c.args.makes) c.as_slice.ensures) c.in-Ok.ensures;
      count = behind_long c.args.makes taken (length (parts_of c.args.items.now)) long some;
      least = subst (AreLeastClear bits) is c.in_ok-taken.ensures.least;
      taken = c.in_ok-taken.ensures.bits ∙ ap (λ l. all_set bits l true) is;
    }
