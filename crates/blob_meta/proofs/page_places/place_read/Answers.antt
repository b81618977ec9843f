use Rattle.std.proofs.Common.{◌-◌, sym, ap, ◌∙◌}
use Rattle.std.specs.FinMap as map
use Rattle.std.specs.Option.{option_copied}
use Rattle.blob_meta.proofs.PlacesRead.{read_nowhere, read_own, read_through, read_zeros}
use Rattle.blob_meta.proofs.page_places.place_read.Goals as goal

pub returns-in_err-meta : goal.returns-in_err-meta
returns-in_err-meta c fit = c.from_residual.ensures ∙ sym (c.loop-done.invariant fit
    ∙ read_nowhere c.args.cluster_pages (map.get c.args.metas.now) c.args.page (c.args.times - c.loop-done.done)
    c.loop-done.at (sym c.get.ensures ∙ ap option_copied c.in_err-meta.was))

pub returns-in-Some : goal.returns-in-Some
returns-in-Some c fit = sym (c.loop-done.invariant fit
    ∙ read_own c.args.cluster_pages (map.get c.args.metas.now) c.args.page c.loop-done.at c.in_ok-meta.meta.now
    (sym c.get.ensures ∙ ap option_copied c.in_ok-meta.was) c.args.times c.loop-done.done c.in-Some.place
    c.loop-done-test.true (sym c.own_place.ensures ∙ c.in-Some.is))

pub returns-in_err-at : goal.returns-in_err-at
returns-in_err-at c fit = c.from_residual-in_err-at.ensures ∙ sym (c.loop-done.invariant fit
    ∙ read_zeros c.args.cluster_pages (map.get c.args.metas.now) c.args.page c.loop-done.at c.in_ok-meta.meta.now
    (sym c.get.ensures ∙ ap option_copied c.in_ok-meta.was) c.args.times c.loop-done.done
    c.loop-done-test.true (sym c.own_place.ensures ∙ c.in_default.is)
    (sym (c.parent_with.ensures fit) ∙ c.in_err-at.was))

pub loop-done-preserved : goal.loop-done-preserved
loop-done-preserved c fit = c.loop-done.invariant fit
    ∙ read_through c.args.cluster_pages (map.get c.args.metas.now) c.args.page c.loop-done.at c.in_ok-meta.meta.now
    (sym c.get.ensures ∙ ap option_copied c.in_ok-meta.was) c.args.times c.loop-done.done c.in_ok-at.at
    c.loop-done-test.true (sym c.own_place.ensures ∙ c.in_default.is)
    (sym (c.parent_with.ensures fit) ∙ c.in_ok-at.was)
