use Rattle.std.proofs.Common.{◌≡◌, ◌∙◌, ◌<◌, ℕ, length, None, ap, arith, sym}
use Rattle.volume_model.specs.declared.reply.Reply.TheVariants.{Stopped}
use Rattle.store_model.specs.Rows.{Posted, Row}
use Rattle.running_store.specs.Running.{view_of}
use Rattle.running_store.specs.Steps.{log_with}
use Rattle.running_store.specs.StoreView.{StoreView}
use Rattle.running_store.proofs.Entered.{disk_same, entered}
use Rattle.running_store.proofs.refusing.halt.Goals as goal

pub returns-clause-case : goal.returns-clause-case
returns-clause-case g c =
    let d = g.D.PageDisk in
    let old = view_of c.args.running.now in
    let waits = c.requires.posted.waits in
    let left = ap (λ (r : Row). r.left) waits.row in
    let low : c.args.channel < length c.args.running.now.rows.items =
    omega (arith, c.requires.channel, c.requires.order.seventeen) in
    let is = c.log.ensures.logged waits.command waits.rest left in (
      record {
        channel = c.args.channel;
        command = waits.command;
        rest = waits.rest;
        stage = Posted c.requires.posted.serial;
        claim = None;
        row = waits.row;
        may = tt;
        unfilled = λ serial posted. c.requires.unfilled;
        at = c.in-Some.at;
        stands = c.in-Some.is;
        next = entered d old (view_of c.log.new.running) c.args.channel waits.command waits.rest
            (Stopped c.in-Some.at) low is;
      },
      disk_same d old (view_of c.log.new.running) c.args.channel waits.command waits.rest (Stopped c.in-Some.at) low is,
    )

pub returns-clause-told : goal.returns-clause-told
returns-clause-told g c = λ at stands command rest left.
    let same : c.in-Some.at ≡ at = let both = sym c.in-Some.is ∙ stands in cc both in
    ap (λ (a : StoreView g.row.D.Denot). a.log) (c.log.ensures.logged command rest left)
    ∙ ap (λ (n : ℕ). log_with (view_of c.args.running.now).log c.args.channel command (Stopped n)) same
