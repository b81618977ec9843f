use Rattle.std.proofs.Common.{◌≡◌, List, None, ap, subst, sym, ◌∙◌, arith}
use Rattle.volume_model.specs.declared.command.Command.{Command}
use Rattle.store_model.specs.Filling.{unused_row}
use Rattle.store_model.specs.Rows.{Idle, Row}
use Rattle.std.proofs.lemmas.Bool.{lt-ltb, le-ltb}
use Rattle.store_core.proofs.Starts.{RowsBelow, rows_all, rows_nothing, rows_more, row_with, row_past}
use Rattle.store_core.specs.Opening.{AreRows, row_at_start}
use Rattle.store_core.proofs.starting.rows_at_start.Goals as goal
use Rattle.store_core.proofs.starting.rows_at_start.Goals.{then-channel-channels+in_ok-row, else-channel-channels}

pub loop-channel-init : goal.loop-channel-init
loop-channel-init c = subst (λ rows. RowsBelow c.args.script c.args.script c.channels-channels.result rows 0)
    (sym c.in_ok-rows.ensures.items) (rows_nothing c.args.script c.channels-channels.result)

row_is : (c : goal.Joined-drop-2)
    → c.if-channel-channels.row ≡ row_at_start c.args.script c.channels-channels.result c.loop-channel.channel
row_is c = elim c.if-channel-channels.branch [
  | then-channel-channels+in_ok-row w ↦ w.row-is ∙ w.in_ok-row.ensures ∙ row_with c.args.script
      c.channels-channels.result
      c.loop-channel.channel c.take-commands.result.items (lt-ltb _ _ w.if-channel-channels.true)
      (c.take-commands.ensures.taken ∙ c.loop-channel.invariant.rest c.loop-channel.channel (omega arith))
  | else-channel-channels w ↦ w.row-is ∙ w.ended-row.ensures ∙ row_past c.args.script c.channels-channels.result
      c.loop-channel.channel (le-ltb _ _ w.if-channel-channels.false)
]

pub loop-channel-preserved : goal.loop-channel-preserved
loop-channel-preserved c =
    rw c.take-commands.ensures.left (rw c.in_ok-push.ensures.items
    (rows_more c.args.script c.loop-channel.script c.channels-channels.result c.loop-channel.rows.items
    c.loop-channel.channel c.if-channel-channels.row c.loop-channel.invariant (row_is c)))

pub returns : goal.returns
returns c =
    let end : c.loop-channel.channel ≡ 16 = omega (arith, c.loop-channel.auto.channel-end, c.loop-channel-test.false) in
    let row = c.in_ok-new.field-0 in
    let is : row ≡ unused_row =
    c.in_ok-new.ensures
    ∙ ap (λ (l : List Command). record { left = l; stage = Idle; claim = None }) c.new-2.ensures.items in
    let below : RowsBelow c.args.script c.loop-channel.script c.channels-channels.result c.loop-channel.rows.items 16 =
    subst (RowsBelow c.args.script c.loop-channel.script c.channels-channels.result c.loop-channel.rows.items) end
    c.loop-channel.invariant in
    subst (λ (rows : List Row). AreRows c.args.script rows) (sym c.in_ok-push-2.ensures.items)
    (rows_all c.args.script c.loop-channel.script c.channels-channels.result c.loop-channel.rows.items row
    c.channels-channels.ensures.few below is c.channels-channels.ensures.above)
