use Rattle.page_disk.proofs.Moments.{started}
use Rattle.running_store.proofs.device.read_at.Goals as goal

pub returns-in-None-clause-any_moment : goal.returns-in-None-clause-any_moment
returns-in-None-clause-any_moment g c tells =
    let d = g.D.PageDisk in
    started d c.args.disk.now (d.images c.args.disk.now) ((g.met.D.PageDisk.telling tells).since_now c.args.disk.now)
