use Rattle.std.proofs.Common.{◌≡◌, ◌≤◌, List, ◌++◌, OnOk, ap, length, sym, subst, ◌∙◌, arith}
use Rattle.volume_model.specs.declared.reply.Entry.{Entry}
use Rattle.streams.specs.Printing.{IsPartOf}
use Rattle.clean_stop.specs.Masks.{MasksFit}
use Rattle.super_block.specs.Faults.{IsFaultless}
use Rattle.super_block.specs.declared.page.Super.{Super}
use Rattle.running_store.specs.Running.{super_left}
use Rattle.blob_tool.specs.Closing.{Closes, IsClosed}
use Rattle.blob_tool.specs.RunScripts.{printed_text}
use Rattle.blob_tool.specs.Runs.{Ended, Played}
use Rattle.blob_tool.proofs.Closed.{closes_at_most}
use Rattle.blob_tool.proofs.Ending.{ends}
use Rattle.blob_tool.proofs.ClosedStore.{masks_fit}
use Rattle.blob_tool.proofs.RunLasts.{lasting}
use Rattle.blob_tool.proofs.ClosedSurvives.{at_opening, survives_to_its_end}
use Rattle.blob_tool.proofs.RunSurvives.{load_laws}
use Rattle.blob_tool.proofs.WholeRun.{is_run}
use Rattle.blob_tool.proofs.finishing.finish_run.Goals as goal

pub overflow_cast-len : goal.overflow_cast-len
overflow_cast-len g c = let few = c.into_parts-disk.ensures.few in let is = c.len.ensures in omega (arith, few, is)

pub close-ended-requires-clause-faultless : goal.close-ended-requires-clause-faultless
close-ended-requires-clause-faultless g c =
    let store = c.args.plant in
    let kept = c.into_parts-disk.ensures.kept in
    subst IsFaultless (sym c.into_parts-disk.ensures.sup)
    (c.unloaded_masks_are_read.ensures.faultless store.at.super _
    (subst IsFaultless (sym kept.facts.super) kept.faultless))

pub close-ended-requires-clause-device : goal.close-ended-requires-clause-device
close-ended-requires-clause-device g c =
    subst (λ (s : Super). s.device_pages ≤ g.D.PageDisk.pages c.into_parts-disk.result.disk)
    (sym c.into_parts-disk.ensures.sup) c.into_parts-disk.ensures.device

pub close-ended-requires-clause-masks : goal.close-ended-requires-clause-masks
close-ended-requires-clause-masks g c = λ none.
    let store = c.args.plant in
    subst (λ (s : Super). MasksFit s c.into_parts-disk.result.masks) (sym c.into_parts-disk.ensures.sup)
    (masks_fit store.at.clean store.at.super _ _ c.into_parts-disk.result.masks
    (c.into_parts-disk.ensures.masks (sym c.stopped-stopped.ensures ∙ none)))

pub returns : goal.returns
returns g c script drive repaired rows made unstopped unmarked follows =
    let d = g.D.PageDisk in
    let k = g.K.Sink in
    let law = g.met.D.PageDisk.telling in
    let store = c.args.plant in
    let kept = c.into_parts-disk.ensures.kept in
    let back = c.close-ended.new.disk in
    let entries : c.as_slice.result.now ≡ store.at.log = c.as_slice.ensures ∙ c.into_parts-disk.ensures.entries in
    let count : c.len.result ≡ length store.at.log =
    c.len.ensures ∙ ap (λ (l : List Entry). length l) c.into_parts-disk.ensures.entries in
    let sup = super_left store.at.clean store.at.super in
    let masks = c.into_parts-disk.result.masks in
    let closes : Closes d sup masks store.at.disk back c.args.quick (length store.at.log) c.stopped-stopped.result
    c.close-ended.result =
    subst (λ n. Closes d sup masks store.at.disk back c.args.quick n c.stopped-stopped.result c.close-ended.result)
    count
    (subst (λ disk. Closes d sup masks disk back c.args.quick c.len.result c.stopped-stopped.result
    c.close-ended.result)
    c.into_parts-disk.ensures.disk
    (subst (λ s. Closes d s masks c.into_parts-disk.result.disk back c.args.quick c.len.result c.stopped-stopped.result
    c.close-ended.result) c.into_parts-disk.ensures.sup c.close-ended.ensures.closes)) in
    let laws = load_laws c.stores_are_accepted.ensures.in_use c.clean_stores_are_quick.ensures.accepted
    c.clean_stores_are_quick.ensures.listed c.fixed_clusters_decide.ensures.accepted
    c.fixed_clusters_decide.ensures.quick c.fixed_clusters_decide.ensures.no_head
    c.unloaded_masks_are_read.ensures.apart in
    let read = c.requires.read in
    let played : Played d script drive c.args.from k c.args.out.now c.report-printed.new.out back
    store.opening = record {
      last = store.at;
      run = is_run d script store kept rows c.requires.ended repaired made unstopped unmarked drive follows
          c.state_stops.ensures c.inserts_commit_once.ensures;
      masks = masks;
      claims = c.into_parts-disk.ensures.masks;
      device = closes_at_most d sup masks store.at.disk back law c.args.quick (length store.at.log)
          c.stopped-stopped.result c.close-ended.result closes;
      pages = c.close-ended.ensures.pages ∙ ap d.pages c.into_parts-disk.ensures.disk ∙ kept.pages;
      read_faults = c.close-ended.ensures.read_faults ∙ ap d.read_faults c.into_parts-disk.ensures.disk;
      survives = survives_to_its_end d laws law store kept c.args.quick read masks back (length store.at.log)
          c.stopped-stopped.result c.close-ended.result (sym c.stopped-stopped.ensures) c.into_parts-disk.ensures.masks
          closes;
      printed =
          λ tells. subst
          (λ (l : List Entry). IsPartOf (k.written c.args.out.now) (k.written c.report-printed.new.out)
          (printed_text c.args.from l)) entries (c.report-printed.ensures.part tells);
    } in
    subst (Ended d script drive c.args.from k c.args.out.now c.report-printed.new.out back store.opening)
    (sym c.of_run.ensures)
    (ends d script drive c.args.from k c.args.out.now c.report-printed.new.out back store.opening played
    c.args.quick c.stopped-stopped.result c.close-ended.result c.report-printed.result
    (sym c.stopped-stopped.ensures) closes
    (λ closed runs sound. lasting d laws law store kept c.args.quick read sound runs masks
    (c.into_parts-disk.ensures.masks runs) back
    (at_opening d laws law store kept c.args.quick read masks back
    (λ t. IsClosed d (super_left store.at.clean t) masks store.at.disk back c.args.quick) closed))
    (λ tells. subst
    (λ (l : List Entry). OnOk c.report-printed.result
    (k.written c.report-printed.new.out ≡ k.written c.args.out.now ++ printed_text c.args.from l)) entries
    (c.report-printed.ensures.whole tells)) c.report-printed.ensures.cause)
