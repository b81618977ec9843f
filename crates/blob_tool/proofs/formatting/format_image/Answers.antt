use Rattle.std.proofs.Common.{◌≡◌, ℕ, refl, sym, ap, ◌∙◌}
use Rattle.super_block.specs.Layout.{layout_of}
use Rattle.super_block.specs.declared.layout.Layout.{Layout}
use Rattle.blob_tool.proofs.PlannedPages.{some_md_page}
use Rattle.blob_tool.proofs.formatting.format_image.Goals as goal

pages_of_layout : (pages cluster_pages md_pages : ℕ) → (layout_of pages cluster_pages md_pages).device_pages ≡ pages
unfolding layout_of
pages_of_layout pages cluster_pages md_pages = refl

pub write_store-requires-clause-device : goal.write_store-requires-clause-device
write_store-requires-clause-device g c =
    sym (ap (λ (l : Layout). l.device_pages) c.in-Ok.ensures.planned ∙ pages_of_layout _ _ _ ∙ c.pages.ensures)

pub line_of-requires-clause-some_page : goal.line_of-requires-clause-some_page
line_of-requires-clause-some_page g c =
    let plan = c.in-Ok.layout in
    some_md_page c.pages.result c.args.format.now.cluster_pages c.args.format.now.md_pages plan c.in-Ok.ensures.planned
    c.in-Ok.ensures.is_planned (c.layouts_are_placed.ensures plan c.in-Ok.ensures.is_planned) c.requires.some_page

pub write_store-requires-clause-some_page : goal.write_store-requires-clause-some_page
write_store-requires-clause-some_page g c =
    let plan = c.in-Ok.layout in
    some_md_page c.pages.result c.args.format.now.cluster_pages c.args.format.now.md_pages plan c.in-Ok.ensures.planned
    c.in-Ok.ensures.is_planned (c.layouts_are_placed.ensures plan c.in-Ok.ensures.is_planned) c.requires.some_page
