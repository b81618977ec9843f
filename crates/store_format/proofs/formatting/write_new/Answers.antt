use Rattle.store_format.proofs.NewStore.{begins, behind_too, is_new_store, writes}
use Rattle.store_format.proofs.formatting.write_new.Goals as goal

store : goal.returns-clause-store
store g c =
    λ told. is_new_store c.args.layout.now c.args.super_blob
    (c.layouts_are_placed.ensures c.args.layout.now c.requires.planned)
    (g.D.PageDisk.now c.write_regions.new.disk) (g.D.PageDisk.now c.replace_page.new.disk) c.super_page.result
    (c.in_ok-replace_page.ensures.replaced told) c.super_page.ensures.bytes (c.in_ok-write_regions.ensures.regions told)

pub returns-clause-store : goal.returns-clause-store
returns-clause-store g c = store g c

pub returns-clause-behind : goal.returns-clause-behind
returns-clause-behind g c =
    λ told. behind_too c.args.layout.now c.args.super_blob
    (c.layouts_are_placed.ensures c.args.layout.now c.requires.planned)
    (g.D.PageDisk.now c.write_regions.new.disk) (g.D.PageDisk.now c.replace_page.new.disk)
    c.super_page.result (c.in_ok-replace_page.ensures.replaced told) (g.D.PageDisk.now c.args.disk.now)
    (c.write_regions.ensures.only.now told)

pub returns-clause-writes : goal.returns-clause-writes
returns-clause-writes g c =
    let r = c.replace_page.ensures in
    writes g.D.PageDisk g.met.D.PageDisk.telling c.args.layout.now c.args.super_blob
    (c.layouts_are_placed.ensures c.args.layout.now c.requires.planned) c.args.disk.now c.write_regions.new.disk
    c.replace_page.new.disk c.write_regions.ensures.only
    c.in_ok-write_regions.ensures.regions c.super_page.result c.super_page.ensures.bytes r.any_moment r.pages
    r.read_faults r.reads

pub returns-in_err-replace_page-clause-writes : goal.returns-in_err-replace_page-clause-writes
returns-in_err-replace_page-clause-writes g c =
    let r = c.replace_page.ensures in
    writes g.D.PageDisk g.met.D.PageDisk.telling c.args.layout.now c.args.super_blob
    (c.layouts_are_placed.ensures c.args.layout.now c.requires.planned) c.args.disk.now c.write_regions.new.disk
    c.replace_page.new.disk c.write_regions.ensures.only
    c.in_ok-write_regions.ensures.regions c.super_page.result c.super_page.ensures.bytes r.any_moment r.pages
    r.read_faults r.reads

pub returns-in_err-write_regions-clause-writes : goal.returns-in_err-write_regions-clause-writes
returns-in_err-write_regions-clause-writes g c =
    begins g.D.PageDisk c.args.layout.now c.args.super_blob c.args.disk.now c.write_regions.new.disk
    c.write_regions.ensures.only
