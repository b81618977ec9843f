use Rattle.std.proofs.Common.{refl, sym, ◌∙◌}
use Rattle.running_store.specs.Running.{view_of}
use Rattle.metadata_turns.proofs.BrokenDown.{broken_down, none_waiting, stopped_still, waits_either, waiting_works}
use Rattle.metadata_turns.proofs.job_turn.break_down.Goals as goal

pub give_up-requires-clause-works : goal.give_up-requires-clause-works
give_up-requires-clause-works g c =
    waiting_works g.D.PageDisk (view_of c.args.running.now) c.requires.running c.requires.work
    c.requires.order.seventeen
    c.in-Some.row
    (waits_either c.args.running.now.job c.in-Some.row (sym c.waiting_for-waiting.ensures ∙ c.in-Some.is))

pub returns-in-Some-clause-case : goal.returns-in-Some-clause-case
returns-in-Some-clause-case g c =
    broken_down g.D.PageDisk (view_of c.args.running.now) c.requires.running c.requires.work
    c.requires.order.seventeen c.in-Some.row c.args.at c.requires.stopped (view_of c.give_up.new.running)
    c.give_up.ensures.logged
    (waits_either c.args.running.now.job c.in-Some.row (sym c.waiting_for-waiting.ensures ∙ c.in-Some.is))

pub returns-in-Some-clause-stopped : goal.returns-in-Some-clause-stopped
returns-in-Some-clause-stopped g c =
    stopped_still g.D.PageDisk (view_of c.args.running.now) c.requires.running c.requires.work
    c.requires.order.seventeen c.in-Some.row c.args.at c.requires.stopped (view_of c.give_up.new.running)
    c.give_up.ensures.logged
    (waits_either c.args.running.now.job c.in-Some.row (sym c.waiting_for-waiting.ensures ∙ c.in-Some.is))

pub returns-in_default-clause-case : goal.returns-in_default-clause-case
returns-in_default-clause-case g c =
    none_waiting g.D.PageDisk (view_of c.args.running.now) c.args.running.now.job refl c.requires.runs
    (sym c.waiting_for-waiting.ensures ∙ c.in_default.is) c.args.at c.requires.stopped
