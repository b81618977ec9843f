use Rattle.std.proofs.Common.{◌≡◌, false, subst, sym}
use Rattle.super_block.specs.declared.page.Super.{Super}
use Rattle.volume_model.specs.Volumes.{is_given_head}
use Rattle.volume_model.specs.declared.command.Command.{Command}
use Rattle.blob_meta.specs.Parents.{head_of_id}
use Rattle.blob_meta.proofs.Shown.{meant_there}
use Rattle.snapshots.specs.RefusedAt.{RefusesFirstAt}
use Rattle.inflate_delete.specs.Fills.{command_of}
use Rattle.inflate_delete.specs.declared.filling.Fill.{Fill}
use Rattle.lvol_store.specs.SlotPlans.{RefusesFirst}
use Rattle.lvol_store.proofs.LastRefused.{last_refused}
use Rattle.lvol_store.proofs.filling.plan_fill.Goals as goal

pub returns-in-Err-clause-refused : goal.returns-in-Err-clause-refused
returns-in-Err-clause-refused c =
    let metas = c.args.metas.now in
    let sup = c.args.sup.now in
    let reply = c.in-Err.reply in
    let volume = c.fill_asked-kind.result.1.now in
    subst (λ (k : Command). RefusesFirst metas sup k reply) (sym c.fill_asked-kind.ensures)
    (last_refused metas sup c.in-Some.head c.fill_asked-kind.result.0 volume c.in-Some.ensures.meant
    (meant_there sup.super_blob metas volume c.in-Some.head c.in-Some.ensures.some.passes)
    c.in_ok-fill.ensures.unrefused reply
    (subst (λ (x : Fill). (other : Super) → is_given_head x.volume (head_of_id other.super_blob) ≡ false
    → RefusesFirstAt metas other x.volume (command_of x.kind) reply) c.in_ok-fill.ensures.fill
    c.in-Err.ensures.refused))
