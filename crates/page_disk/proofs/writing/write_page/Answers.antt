use Rattle.page_disk.specs.Disk.{Images, Written}
use Rattle.page_disk.specs.declared.disk.WriteKind.TheVariants.{Plain}
use Rattle.page_disk.proofs.Images.{written-elsewhere}
use Rattle.page_disk.proofs.Moments.{started, goes_on, kept_before, written}
use Rattle.page_disk.proofs.writing.write_page.Goals as goal

pub returns-clause-any_moment : goal.returns-clause-any_moment
returns-clause-any_moment g c tells =
    let d = g.D.PageDisk in
    let law = g.met.D.PageDisk.telling tells in
    let first = c.args.disk.now in
    let place = c.args.place in
    let page = c.args.page.now in
    let P : Images = Written (d.images first) place Plain page in
    let none =
    started d first P (λ x left. kept_before (d.images first) place Plain page x (law.since_now first x left)) in
    goes_on d first first c.write.new.self P none (c.write.ensures.since tells)
    (written c.write.result (d.now first) (d.now c.write.new.self) (d.images first)
    (d.images c.write.new.self) place Plain page (c.write.ensures.ok tells) (c.write.ensures.err tells))

pub returns-clause-elsewhere : goal.returns-clause-elsewhere
returns-clause-elsewhere g c tells =
    let d = g.D.PageDisk in
    written-elsewhere c.write.result (d.now c.args.disk.now) (d.now c.write.new.self) (d.images c.args.disk.now)
    (d.images c.write.new.self) c.args.place Plain c.args.page.now (c.write.ensures.ok tells) (c.write.ensures.err tells)
