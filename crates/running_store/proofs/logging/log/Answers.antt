use Rattle.std.proofs.Common.{◌∙◌, ap}
use Rattle.volume_model.specs.declared.reply.Reply.{Reply}
use Rattle.running_store.specs.Running.{view_of}
use Rattle.running_store.specs.Steps.{logged_at}
use Rattle.running_store.proofs.logging.log.Goals as goal

pub returns-clause-logged : goal.returns-clause-logged
returns-clause-logged g c command rest left =
    let x = c.log_then.ensures.logged in
    x.2 command rest left
    ∙ ap (λ (reply : Reply). logged_at (view_of c.args.running.now) c.args.channel command rest reply
    (g.D.PageDisk.clock c.log_then.new.running.disk)) x.1
