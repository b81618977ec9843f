use Rattle.std.specs.Option.{option_copied}
use Rattle.store_format.proofs.Loading.{few_md_pages, loads}
use Rattle.store_format.proofs.formatting.write_store.Goals as goal

pub returns-clause-loads : goal.returns-clause-loads
returns-clause-loads g c = λ told.
    let plan = c.args.layout.now in
    loads plan (option_copied c.args.named) (g.D.PageDisk.now c.write_new.new.disk) c.in_ok-super_blob.super_blob
    c.in_ok-super_blob.ensures.page
    c.requires.some_page (few_md_pages plan c.requires.planned) c.in_ok-super_blob.ensures.readable
    c.requires.planned (c.layouts_are_placed.ensures plan c.requires.planned)
    c.clean_stores_are_quick.ensures.accepted c.scans.ensures (c.in_ok-write_new.ensures.store told)
    c.in_ok-write_new.ensures.read
