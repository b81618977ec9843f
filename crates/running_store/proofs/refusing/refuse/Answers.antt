use Rattle.std.proofs.Common.{◌<◌, length, ap, arith}
use Rattle.store_model.specs.Rows.{Row}
use Rattle.store_model.proofs.StateKept.{at_begin_too}
use Rattle.running_store.specs.Running.{view_of}
use Rattle.running_store.specs.StoreView.{state_of, StoreView}
use Rattle.running_store.proofs.Entered.{disk_same, entered}
use Rattle.running_store.proofs.refusing.refuse.Goals as goal

pub returns-clause-case : goal.returns-clause-case
returns-clause-case g c =
    let d = g.D.PageDisk in
    let old = view_of c.args.running.now in
    let waits = c.requires.posted.waits in
    let left = ap (λ (r : Row). r.left) waits.row in
    let low : c.args.channel < length c.args.running.now.rows.items =
    omega (arith, c.requires.channel, c.requires.order.seventeen) in
    let is = c.log.ensures.logged waits.command waits.rest left in (
      record {
        posted = record {
          channel = c.args.channel;
          serial = c.requires.posted.serial;
          command = waits.command;
          rest = waits.rest;
          row = waits.row;
        };
        runs = c.requires.runs;
        unfilled = c.requires.unfilled;
        reply = c.args.reply;
        why = at_begin_too (state_of d old) waits.command c.args.reply (c.requires.why waits.command waits.rest left);
        next = entered d old (view_of c.log.new.running) c.args.channel waits.command waits.rest c.args.reply low is;
      },
      disk_same d old (view_of c.log.new.running) c.args.channel waits.command waits.rest c.args.reply low is,
    )

pub returns-clause-told : goal.returns-clause-told
returns-clause-told g c = λ command rest left.
    ap (λ (a : StoreView g.row.D.Denot). a.log) (c.log.ensures.logged command rest left)
