use Rattle.std.proofs.Common.{refl, subst, sym}
use Rattle.std.proofs.lemmas.Result.{IfErr-weaker, IfOk-weaker}
use Rattle.md_chain.proofs.DeviceWalk.{no_read}
use Rattle.blob_tool.specs.Outcome.{Outcome}
use Rattle.blob_tool.specs.declared.driving.Drive.TheVariants.{Threads}
use Rattle.blob_tool.specs.declared.status.Status.{Status}
use Rattle.blob_tool.proofs.Complete.{done_from}
use Rattle.blob_tool.proofs.Ending.{of_a_fault, of_a_run}
use Rattle.blob_tool.proofs.FoundStore.{found_by, read_as}
use Rattle.blob_tool.proofs.HavingCommands.{no_usage, only_memory, unread, unread_without, without_commands}
use Rattle.blob_tool.proofs.preparing.prepare.Goals as goal

pub open_store-requires-clause-read : goal.open_store-requires-clause-read
open_store-requires-clause-read g c =
    let x = c.in-Ok-load.ensures in
    read_as g.D.PageDisk c.args.disk c.in-Ok-load.loaded x.same x.device_pages x.super_block x.holds x.found

pub returns-in-Ok-load-clause-ready : goal.returns-in-Ok-load-clause-ready
returns-in-Ok-load-clause-ready g c =
    let x = c.in-Ok-load.ensures in
    IfOk-weaker c.open_store.result _ _
    (λ r mended. record {
      commands = c.in-Ok.commands;
      script_is = c.in-Ok.ensures.commands;
      loaded = c.in-Ok-load.loaded;
      found = found_by g.D.PageDisk c.args.disk c.in-Ok-load.loaded x.same x.super_block x.found x.quick x.accepted
          x.says x.recovered x.no_fault;
      mended = mended;
    }) c.open_store.ensures.mended

pub returns-in-Ok-load-clause-outcome : goal.returns-in-Ok-load-clause-outcome
returns-in-Ok-load-clause-outcome g c =
    let d = g.D.PageDisk in
    let loaded = c.in-Ok-load.loaded in
    let x = c.in-Ok-load.ensures in
    IfErr-weaker c.open_store.result _ _
    (λ r ended drive out.
    of_a_run g.S.Source c.args.script.now c.commands_of.new.source d g.K.Sink out out c.args.disk
    r.1 c.args.from drive c.in-Ok.commands loaded r.0 c.in-Ok.ensures.commands
    (λ first opened. record {
      found = found_by d c.args.disk loaded x.same x.super_block x.found x.quick x.accepted x.says x.recovered
          x.no_fault;
      opened = opened;
    }) x.same (ended c.args.from drive out)) c.open_store.ensures.ended

pub returns-in-Ok-load-clause-complete : goal.returns-in-Ok-load-clause-complete
returns-in-Ok-load-clause-complete g c =
    let d = g.D.PageDisk in
    let loaded = c.in-Ok-load.loaded in
    let x = c.in-Ok-load.ensures in
    IfErr-weaker c.open_store.result _ _
    (λ r ended out fails.
    done_from g.S.Source c.args.script.now c.commands_of.new.source d g.K.Sink out out c.args.disk
    r.1 c.args.from fails loaded x.same c.in-Ok.commands Threads r.0
    (λ first opened. record {
      script_is = c.in-Ok.ensures.commands;
      loaded = loaded;
      as_found = record {
        found = found_by d c.args.disk loaded x.same x.super_block x.found x.quick x.accepted x.says x.recovered
            x.no_fault;
        opened = opened;
      };
    }) (ended c.args.from Threads out)) c.open_store.ensures.ended

pub returns-in-Err-load-clause-outcome : goal.returns-in-Err-load-clause-outcome
returns-in-Err-load-clause-outcome g c drive out =
    let d = g.D.PageDisk in
    subst (λ (st : Status). Outcome g.S.Source c.args.script.now c.commands_of.new.source d g.K.Sink out out c.args.disk c.in-Err-load.disk c.args.from drive st) (sym c.from.ensures)
    (of_a_fault g.S.Source c.args.script.now c.commands_of.new.source d g.K.Sink out out c.args.disk
    c.in-Err-load.disk c.args.from drive c.in-Err-load.fault
    (record { quiet = refl; device = c.in-Err-load.ensures.same })
    (record { commands = c.in-Ok.commands; script_is = c.in-Ok.ensures.commands })
    c.in-Err-load.ensures.counted
    (λ of_image no_fault. record {
      of_image = of_image;
      first = c.in-Err-load.ensures.cause;
      refused = λ t. c.in-Err-load.ensures.refused t of_image;
      no_fault = no_fault;
    }))

pub returns-in-Err-clause-no_usage : goal.returns-in-Err-clause-no_usage
returns-in-Err-clause-no_usage g c =
    no_usage g.S.Source c.args.script.now c.commands_of.new.source c.args.from c.in-Err.status c.in-Err.ensures.why

pub returns-in-Err-clause-outcome : goal.returns-in-Err-clause-outcome
returns-in-Err-clause-outcome g c drive out =
    let d = g.D.PageDisk in
    without_commands g.S.Source c.args.script.now c.commands_of.new.source d g.K.Sink out c.args.disk
    (no_read d c.args.disk) c.args.from drive c.in-Err.status c.in-Err.ensures.why

pub returns-in-Err-clause-complete : goal.returns-in-Err-clause-complete
returns-in-Err-clause-complete g c out fails =
    only_memory g.S.Source c.args.script.now c.commands_of.new.source c.args.from c.in-Err.status fails.script_is
    c.in-Err.ensures.why

pub returns-in-Err-clause-unread : goal.returns-in-Err-clause-unread
returns-in-Err-clause-unread g c =
    unread_without g.S.Source c.args.script.now c.commands_of.new.source c.args.from c.in-Err.status
    c.in-Err.ensures.why

pub returns-in-Ok-load-clause-unread : goal.returns-in-Ok-load-clause-unread
returns-in-Ok-load-clause-unread g c =
    unread g.S.Source c.args.script.now c.commands_of.new.source c.args.from c.in-Ok.commands c.in-Ok.ensures.commands

pub returns-in-Err-load-clause-unread : goal.returns-in-Err-load-clause-unread
returns-in-Err-load-clause-unread g c =
    unread g.S.Source c.args.script.now c.commands_of.new.source c.args.from c.in-Ok.commands c.in-Ok.ensures.commands
