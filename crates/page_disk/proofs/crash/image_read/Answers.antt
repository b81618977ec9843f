use Rattle.std.proofs.Common.{◌∙◌, ap, sym, List, ◌∷◌, [], get_or}
use Rattle.std.proofs.lemmas.List.{take_all}
use Rattle.page_disk.specs.Disk.{Image}
use Rattle.page_disk.specs.Record.{base_image, read_after}
use Rattle.page_disk.specs.declared.disk.WriteKind.TheVariants.{Whole}
use Rattle.page_disk.specs.declared.record.Call.{Call}
use Rattle.page_disk.specs.declared.record.Call.TheVariants.{Write}
use Rattle.page_disk.proofs.Crashed.{read_after-more}
use Rattle.page_disk.proofs.crash.image_read.Goals as goal

pub loop-call-init : goal.loop-call-init
unfolding read_after
loop-call-init c = c.in_ok-left.ensures

pub loop-call-preserved : goal.loop-call-preserved
loop-call-preserved c =
    let d : Call = Write 0 [] Whole in
    c.in_ok-save_call.ensures
    ∙ ap (λ (i : Image). read_after i (get_or c.args.calls.now c.loop-call.call-index d ∷ [])) c.loop-call.invariant
    ∙ sym (read_after-more
    (base_image c.args.base.now.entries) c.args.calls.now c.loop-call.call-index d c.loop-call-test.true)

pub returns : goal.returns
returns c =
    c.loop-call.invariant
    ∙ ap (λ (l : List Call). read_after (base_image c.args.base.now.entries) l)
    (take_all c.loop-call.call-index c.args.calls.now c.loop-call-test.false)
