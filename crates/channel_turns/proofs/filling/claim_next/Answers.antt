use Rattle.std.proofs.Common.{ap, sym, ◌∙◌}
use Rattle.std.specs.Option.{option_map}
use Rattle.running_store.specs.Jobs.{job_seen}
use Rattle.running_store.specs.Running.{view_of}
use Rattle.channel_turns.proofs.FillClaimed.{asks_for_fill, fill_claimed, fill_lacks, found_so}
use Rattle.channel_turns.proofs.filling.claim_next.Goals as goal

pub filled_volume-volume-requires : goal.filled_volume-volume-requires
filled_volume-volume-requires g c =
    asks_for_fill g.D.PageDisk (view_of c.args.running.now) c.args.channel c.requires.posted c.requires.order.seventeen
    c.requires.unused c.args.slot c.requires.next c.requires.running c.requires.runs
    (ap (option_map job_seen) c.requires.no_job) c.requires.order.resolves _ c.as_slice.ensures.value
    c.first_of.result.now c.first_of.ensures

pub unreachable-requires : goal.unreachable-requires
unreachable-requires g c =
    let found = found_so g.D.PageDisk (view_of c.args.running.now) c.args.channel c.requires.posted
    c.requires.order.seventeen c.requires.unused c.args.slot c.requires.next c.requires.running c.requires.runs
    (ap (option_map job_seen) c.requires.no_job) c.requires.order.resolves _ c.as_slice.ensures.value
    c.first_of.result.now c.first_of.ensures c.filled_volume-volume.result.now c.filled_volume-volume.ensures
    c.find.result c.find.ensures.meant in
    let bad = sym c.in_default.is ∙ found in
    cc bad

pub returns-then-hold_least-clause-case : goal.returns-then-hold_least-clause-case
returns-then-hold_least-clause-case g c =
    fill_claimed g.D.PageDisk (view_of c.args.running.now) c.args.channel c.requires.posted c.requires.order.seventeen
    c.requires.unused c.args.slot c.requires.next c.requires.running c.requires.runs
    (ap (option_map job_seen) c.requires.no_job) c.requires.order.resolves _ c.as_slice.ensures.value
    c.first_of.result.now c.first_of.ensures c.filled_volume-volume.result.now c.filled_volume-volume.ensures
    c.find.result c.find.ensures.meant c.in-Some.head c.in-Some.is (view_of c.hold_least.new.running)
    (c.hold_least.ensures.held c.if-hold_least.true)

pub returns-else-hold_least-clause-case : goal.returns-else-hold_least-clause-case
returns-else-hold_least-clause-case g c =
    let full = c.hold_least.ensures.full c.if-hold_least.false in
    fill_lacks g.D.PageDisk (view_of c.args.running.now) c.args.channel c.requires.posted c.requires.order.seventeen
    c.requires.unused c.args.slot c.requires.next c.requires.running c.requires.runs
    (ap (option_map job_seen) c.requires.no_job) c.requires.order.resolves full.0 (view_of c.hold_least.new.running)
    full.1 (view_of c.log.new.running) c.log.ensures.logged
