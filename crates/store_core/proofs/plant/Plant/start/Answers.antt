use Rattle.std.proofs.Common.{◌≡◌, refl, sym, subst}
use Rattle.running_store.specs.declared.running.Running.{Running}
use Rattle.running_store.specs.Running.{view_of, with_opening}
use Rattle.store_core.specs.StoreInvariant.{StoreInvariant}
use Rattle.running_store.specs.StoreView.{StoreView}
use Rattle.store_core.specs.Opening.{opened_with}
use Rattle.store_core.proofs.LoadedStarts.{is_loaded_with, it_opens, none_past, none_read_past}
use Rattle.store_core.proofs.plant.Plant.start.Goals as goal

pub parts_at_start-requires-clause-stay : goal.parts_at_start-requires-clause-stay
parts_at_start-requires-clause-stay g c = none_past c.args.loaded c.requires.recovered

pub parts_at_start-requires-clause-read : goal.parts_at_start-requires-clause-read
parts_at_start-requires-clause-read g c = none_read_past c.args.loaded c.requires.recovered

pub invariant_of-result : goal.invariant_of-result
invariant_of-result g c =
    let d = g.D.PageDisk in
    let loaded = c.args.loaded in
    let running : Running g.row.D.Denot = c.running_at_start-running.result in
    let live = c.in-Ok.parts.live in
    let guards = c.in-Ok.parts.guards in
    let rows = c.in-Ok.parts.rows.items in
    let pages = running.pages.bits in
    let clusters = running.clusters.bits in
    let opened : StoreView g.row.D.Denot = opened_with d loaded live guards rows pages clusters in
    let at : view_of running ≡ opened = c.running_at_start-running.ensures.at in
    let right = c.of-right.result.value.name in
    let kept : StoreInvariant d (record { at = opened; opening = opened; right = right }) =
    c.begins.ensures opened
    (is_loaded_with loaded c.requires.recovered d live guards rows pages clusters c.in-Ok.ensures.guards
    c.in-Ok.ensures.live c.running_at_start-running.ensures.pages c.running_at_start-running.ensures.clusters)
    (it_opens loaded c.requires.recovered d live guards rows pages clusters c.in-Ok.ensures.guards c.args.script
    c.in-Ok.ensures.rows)
    c.requires.faultless refl right in
    let kept_at : StoreInvariant d (with_opening running running right) =
    subst (λ (p : StoreView g.row.D.Denot). StoreInvariant d (record { at = p; opening = p; right = right }))
    (sym at) kept in (
      subst (λ (o : Running g.row.D.Denot). StoreInvariant d (with_opening running o right))
          (sym c.of-opening.ensures) kept_at,
      c.running_at_start-running.ensures.order,
    )
