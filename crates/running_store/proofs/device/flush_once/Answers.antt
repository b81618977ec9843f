use Rattle.page_disk.proofs.Moments.{started, goes_on, flushed}
use Rattle.running_store.proofs.device.flush_once.Goals as goal

pub returns-clause-any_moment : goal.returns-clause-any_moment
returns-clause-any_moment g c tells =
    let d = g.D.PageDisk in
    let law = g.met.D.PageDisk.telling tells in
    let first = c.args.disk.now in
    let last = c.flush.new.self in
    goes_on d first first last (d.images first) (started d first (d.images first) (law.since_now first))
    (c.flush.ensures.since tells)
    (flushed c.flush.result (d.now first) (d.images first) (d.images last) (law.reads_an_image first)
    (c.flush.ensures.ok tells) (c.flush.ensures.err tells))
