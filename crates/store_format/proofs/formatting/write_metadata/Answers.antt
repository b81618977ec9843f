use Rattle.std.proofs.Common.{◌≡◌, subst}
use Rattle.page_disk.specs.declared.disk.WriteKind.TheVariants.{Whole}
use Rattle.page_runs.specs.Writing.{WritesOnly}
use Rattle.store_format.proofs.FirstPage.{first_page_told, first_written, one_page_written}
use Rattle.store_format.proofs.formatting.write_metadata.Goals as goal

pub returns-in-Some-clause-md : goal.returns-in-Some-clause-md
returns-in-Some-clause-md g c told =
    let d = g.D.PageDisk in
    first_page_told c.args.layout.now c.args.super_blob c.in-Some.page c.in-Some.is c.from.result c.from.ensures
    (d.now c.write_pages.new.disk) (d.now c.write.new.self) (d.images c.write_pages.new.disk)
    (d.images c.write.new.self) Whole c.write.result (c.in_ok-write_pages.ensures.filled told)
    (c.write.ensures.ok told)

pub returns-in-Some-clause-only : goal.returns-in-Some-clause-only
returns-in-Some-clause-only g c =
    let d = g.D.PageDisk in
    let w = c.write.ensures in
    first_written d c.args.layout.now.md_start c.args.layout.now.md_pages c.requires.some_page c.args.disk.now
    c.write_pages.new.disk c.write.new.self c.write_pages.ensures.only
    (subst (λ place. WritesOnly d (λ page. page ≡ place) c.write_pages.new.disk c.write.new.self) c.from.ensures
    (one_page_written d g.met.D.PageDisk.telling c.from.result Whole c.in-Some.page c.write.result
    c.write_pages.new.disk c.write.new.self w.ok w.err w.since w.later w.pages w.faults w.read_faults w.reads))
