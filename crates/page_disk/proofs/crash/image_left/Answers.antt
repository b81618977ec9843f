use Rattle.std.proofs.Common.{◌∙◌, ap, sym, take, drop, [], get_or}
use Rattle.std.proofs.lemmas.List.{drop_all}
use Rattle.page_disk.specs.Disk.{Image}
use Rattle.page_disk.specs.Record.{base_image, read_after}
use Rattle.page_disk.specs.Crash.{left_after, left_of}
use Rattle.page_disk.specs.declared.disk.WriteKind.TheVariants.{Whole}
use Rattle.page_disk.specs.declared.record.Call.{Call}
use Rattle.page_disk.specs.declared.record.Call.TheVariants.{Write}
use Rattle.page_disk.proofs.Crashed.{picked_at_first, left_at_first, picked_more, took_more}
use Rattle.page_disk.proofs.crash.image_left.Goals as goal

pub loop-at-init : goal.loop-at-init
loop-at-init c =
    let base = base_image c.args.base.now.entries in
    let calls = c.args.calls.now in
    let flushed = c.behind_last_flush-flushed.result in
    let behind = c.behind_last_flush-flushed.ensures in
    record {
      picked =
          ap (λ (i : Image). left_after c.args.pick (read_after base (take flushed calls)) i
          (drop flushed calls)) c.in_ok-left.ensures
          ∙ picked_at_first base calls flushed behind.within c.args.pick behind.behind;
      image =
          left_at_first base calls flushed behind.within
          (base_image c.in_ok-left.left.entries) behind.behind c.in_ok-left.ensures;
    }

pub loop-at-preserved : goal.loop-at-preserved
loop-at-preserved c =
    let base = base_image c.args.base.now.entries in
    let calls = c.args.calls.now in
    let at = c.loop-at.at in
    let d : Call = Write 0 [] Whole in
    let old = base_image c.loop-at.left.entries in
    let new = base_image c.save_remains.new.left.entries in
    let write = c.behind_last_flush-flushed.ensures.last at d c.loop-at.auto.at c.loop-at-test.true in
    record {
      picked = picked_more c.args.pick base calls at d old new c.loop-at-test.true write
          (c.in_ok-save_remains.ensures.left ∙ ap (λ r. left_of r old (get_or calls at d)) c.remains_of-remains.ensures)
          ∙ c.loop-at.invariant.picked;
      image =
          took_more base calls at d old new c.loop-at-test.true write c.loop-at.invariant.image
          c.in_ok-save_remains.ensures.took;
    }

pub returns-clause-picked : goal.returns-clause-picked
unfolding left_after
returns-clause-picked c =
    let base = base_image c.args.base.now.entries in
    let calls = c.args.calls.now in
    let at = c.loop-at.at in
    sym (ap (left_after c.args.pick (read_after base (take at calls)) (base_image c.loop-at.left.entries))
    (drop_all at calls c.loop-at-test.false)) ∙ c.loop-at.invariant.picked
