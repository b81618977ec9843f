use Rattle.std.proofs.Common.{◌<◌, ◌∙◌, ◌+◌, Some, sym, ap, subst, arith}
use Rattle.std.specs.Option.{option_map_or}
use Rattle.volume_model.specs.Volumes.{zero_page}
use Rattle.whole_copy.proofs.PagesRead.{found_place, page_read, read_low, zeros}
use Rattle.whole_copy.proofs.copying.read_shown.Goals as goal

pub read-requires : goal.read-requires
read-requires g c =
    let s = c.args.sup.now in
    let metas = c.args.metas.now in
    let placed = c.regions_are_placed.ensures s c.requires.faultless in
    let found = found_place s metas placed c.requires.held c.cluster_pages.result c.args.volume.now.head c.args.page
    c.place_read-place.result c.cluster_pages.ensures.value c.place_read-place.ensures in
    let low = read_low s metas placed c.requires.held (s.md_len + 1) c.args.page c.args.volume.now.head
    c.in-Some.place (sym found ∙ c.in-Some.is) in
    omega (arith, low, c.requires.device)

pub returns-clause-content : goal.returns-clause-content
returns-clause-content g c told =
    let s = c.args.sup.now in
    let metas = c.args.metas.now in
    let placed = c.regions_are_placed.ensures s c.requires.faultless in
    let image = g.D.PageDisk.now c.args.disk.now in
    let head = c.args.volume.now.head in
    let found = found_place s metas placed c.requires.held c.cluster_pages.result head c.args.page
    c.place_read-place.result c.cluster_pages.ensures.value c.place_read-place.ensures in
    page_read s metas placed c.requires.held image head c.args.page
    (subst (λ n. c.args.page < n) (sym (c.requires.volume.long image)) c.requires.within)
    ∙ ap (λ o. Some (option_map_or image o zero_page)) (sym found ∙ c.in-Some.is)
    ∙ ap Some (sym (c.in_ok-read.ensures.content told))

pub returns-in_default-clause-content : goal.returns-in_default-clause-content
returns-in_default-clause-content g c told =
    let s = c.args.sup.now in
    let metas = c.args.metas.now in
    let placed = c.regions_are_placed.ensures s c.requires.faultless in
    let image = g.D.PageDisk.now c.args.disk.now in
    let head = c.args.volume.now.head in
    let found = found_place s metas placed c.requires.held c.cluster_pages.result head c.args.page
    c.place_read-place.result c.cluster_pages.ensures.value c.place_read-place.ensures in
    page_read s metas placed c.requires.held image head c.args.page
    (subst (λ n. c.args.page < n) (sym (c.requires.volume.long image)) c.requires.within)
    ∙ ap (λ o. Some (option_map_or image o zero_page)) (sym found ∙ c.in_default.is) ∙ ap Some (sym zeros)
