use Rattle.std.proofs.Common.{◌∙◌, sym}
use Rattle.store_model.proofs.Sets.{are_distinct}
use Rattle.job_begins.proofs.JobPlaces.{pool_again, taken_in_use}
use Rattle.job_begins.proofs.taking.job_on_pages.Goals as goal

pub clear_places-requires-clause-distinct : goal.clear_places-requires-clause-distinct
clear_places-requires-clause-distinct c =
    are_distinct c.args.pages.now.bits c.in_ok-taken.taken c.in_ok-taken.ensures.taken.least

pub clear_places-requires-clause-in_use : goal.clear_places-requires-clause-in_use
clear_places-requires-clause-in_use c =
    taken_in_use c.args.pages.now.bits c.in_ok-taken.taken c.in_ok-taken.ensures.taken.least _
    c.in_ok-taken.ensures.taken.set

pub returns-clause-same : goal.returns-clause-same
returns-clause-same c =
    pool_again c.args.pages.now c.clear_places.new.pool c.in_ok-taken.taken c.in_ok-taken.ensures.taken.least _
    c.in_ok-taken.ensures.taken.set c.clear_places.ensures.bits
    (c.clear_places.ensures.unclaimed ∙ sym c.requires.unclaimed)
