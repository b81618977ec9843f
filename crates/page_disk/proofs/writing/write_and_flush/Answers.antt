use Rattle.page_disk.specs.Disk.{Image, Images, Written}
use Rattle.page_disk.specs.declared.disk.WriteKind.TheVariants.{Plain}
use Rattle.page_disk.proofs.Moments.{goes_on, flushed}
use Rattle.page_disk.proofs.writing.write_and_flush.Goals as goal

pub returns-clause-any_moment : goal.returns-clause-any_moment
returns-clause-any_moment g c tells =
    let d = g.D.PageDisk in
    let law = g.met.D.PageDisk.telling tells in
    let first = c.args.disk.now in
    let mid = c.write_page.new.disk in
    let P : Images = Written (d.images first) c.args.place Plain c.args.page.now in
    let so_far = c.write_page.ensures.any_moment tells in
    let held : (x : Image) → d.images mid x → P x =
    λ x left. so_far.each x (law.counts_now mid (d.clock first) x so_far.later left) in
    goes_on d first mid c.flush.new.self P so_far (c.flush.ensures.since tells)
    (λ x left. held x
    (flushed c.flush.result (d.now mid) (d.images mid) (d.images c.flush.new.self) (law.reads_an_image mid)
    (c.flush.ensures.ok tells) (c.flush.ensures.err tells) x left))
