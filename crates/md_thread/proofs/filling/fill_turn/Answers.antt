use Rattle.std.proofs.Common.{◌≡◌, ◌≢◌, sym, ◌∙◌, ap, refl, subst, subst₂}
use Rattle.volume_model.specs.declared.reply.Msg.{Msg}
use Rattle.store_model.specs.Cases as kind
use Rattle.store_model.specs.Rows.{Answered, Copying, Decided, fill_row, Idle, InJob, Lost, Posted, Ready, Row}
use Rattle.channel_turns.specs.ClaimTurns.{RowsCopied, RowsSent}
use Rattle.channel_turns.specs.declared.settling.SettleTurn.TheVariants.{Waiting}
use Rattle.job_begins.specs.Inserts.{InsertsOrNot, RowsInserting}
use Rattle.running_store.specs.GivingBack.{halting}
use Rattle.running_store.specs.TurnMade.{TurnMade}
use Rattle.running_store.specs.StoreView.{rows_of, state_of}
use Rattle.md_thread.proofs.FillStage.{gave_stage, insert_posted, nothing_else, stage_for}
use Rattle.md_thread.proofs.FillSteps.{ended_copy, ended_halted, ended_insert, ended_send, on_begins, on_copies}
use Rattle.md_thread.proofs.FillSteps.{on_loses, on_loses_copy, on_sends, on_settles}
use Rattle.md_thread.proofs.SomeTurns.{by_stop, not_halted, some_insert}
use Rattle.md_thread.proofs.StandsNow.{stands}
use Rattle.md_thread.proofs.TurnsRepaired.{led, turned}
use Rattle.md_thread.proofs.filling.fill_turn.Goals as goal

pub returns-in-Lost-clause-moves : goal.returns-in-Lost-clause-moves
returns-in-Lost-clause-moves g c = λ low posted works.
    let d = g.D.PageDisk in
    let p = c.args.plant.now.at in
    let q = c.copy_page.new.self.at in
    let now = stands d c.state_turns.ensures c.args.plant.now c.keeps.ensures in
    let at = stage_for (rows_of p.rows fill_row) fill_row now.left (_) (sym c.stage.ensures ∙ c.in-Copy.is) in
    let only = subst (λ turn. RowsCopied turn p.filling p.rows q.rows fill_row) c.in-Lost.is c.copy_page.ensures.rows in
    on_loses_copy d p q now
    (λ e. let bad : Idle ≡ Copying _ = sym (ap (λ (r : Row). r.stage) only.row) ∙ e ∙ at in cc bad) c.args.msg.channel
    (c.copy_page.ensures.lost c.in-Lost.is)

pub returns-in-Lost-clause-repaired : goal.returns-in-Lost-clause-repaired
returns-in-Lost-clause-repaired g c =
    turned g.D.PageDisk c.state_turns.ensures c.args.plant.now c.copy_page.new.self c.keeps.ensures
    (kind.loses_copy, (c.copy_page.ensures.lost c.in-Lost.is).0) c.requires.repaired

pub returns-in-Lost-clause-leads : goal.returns-in-Lost-clause-leads
returns-in-Lost-clause-leads g c =
    led _ _ _ (kind.loses_copy, (c.copy_page.ensures.lost c.in-Lost.is).0)

pub returns-in-Copied-clause-moves : goal.returns-in-Copied-clause-moves
returns-in-Copied-clause-moves g c = λ low posted works.
    let d = g.D.PageDisk in
    let p = c.args.plant.now.at in
    let q = c.copy_page.new.self.at in
    let now = stands d c.state_turns.ensures c.args.plant.now c.keeps.ensures in
    let only = subst (λ turn. RowsCopied turn p.filling p.rows q.rows fill_row) c.in-Copied.is c.copy_page.ensures.rows
    in
    on_copies d p q now c.args.msg.channel only.others (c.copy_page.ensures.copied _ c.in-Copied.is)

pub returns-in-Copied-clause-repaired : goal.returns-in-Copied-clause-repaired
returns-in-Copied-clause-repaired g c =
    turned g.D.PageDisk c.state_turns.ensures c.args.plant.now c.copy_page.new.self c.keeps.ensures
    (kind.copies, (c.copy_page.ensures.copied _ c.in-Copied.is).0) c.requires.repaired

pub returns-in-Copied-clause-leads : goal.returns-in-Copied-clause-leads
returns-in-Copied-clause-leads g c =
    led _ _ _ (kind.copies, (c.copy_page.ensures.copied _ c.in-Copied.is).0)

pub returns-in-Logged-clause-moves : goal.returns-in-Logged-clause-moves
returns-in-Logged-clause-moves g c = λ low posted works.
    let d = g.D.PageDisk in
    let p = c.args.plant.now.at in
    let q = c.copy_page.new.self.at in
    let now = stands d c.state_turns.ensures c.args.plant.now c.keeps.ensures in
    let at = stage_for (rows_of p.rows fill_row) fill_row now.left (_) (sym c.stage.ensures ∙ c.in-Copy.is) in
    let gave = gave_stage p.filling p.rows q.rows Idle
    (subst (λ turn. RowsCopied turn p.filling p.rows q.rows fill_row) c.in-Logged.is c.copy_page.ensures.rows) in
    ended_copy d p q now (λ e. let bad : Idle ≡ Copying _ = sym gave ∙ e ∙ at in cc bad) c.args.msg.channel works
    (λ e. let bad : Copying _ ≡ Idle = sym at ∙ e in cc bad) (c.copy_page.ensures.logged c.in-Logged.is)

pub returns-in-Logged-clause-repaired : goal.returns-in-Logged-clause-repaired
returns-in-Logged-clause-repaired g c =
    let made = c.copy_page.ensures.logged c.in-Logged.is in
    turned g.D.PageDisk c.state_turns.ensures c.args.plant.now c.copy_page.new.self c.keeps.ensures
    (made.kind, made.made.0) c.requires.repaired

pub returns-in-Logged-clause-leads : goal.returns-in-Logged-clause-leads
returns-in-Logged-clause-leads g c =
    let made = c.copy_page.ensures.logged c.in-Logged.is in
    led _ _ _ (made.kind, made.made.0)

pub returns-in-Post-clause-moves : goal.returns-in-Post-clause-moves
returns-in-Post-clause-moves g c = λ low posted works.
    let d = g.D.PageDisk in
    let p = c.args.plant.now.at in
    let q = c.send_ready.new.self.at in
    let now = stands d c.state_turns.ensures c.args.plant.now c.keeps.ensures in
    let at = stage_for (rows_of p.rows fill_row) fill_row now.left (_) (sym c.stage.ensures ∙ c.in-Ready.is) in
    let only = subst (λ turn. RowsSent turn p.filling p.rows q.rows fill_row) c.in-Post.is c.send_ready.ensures.rows in
    on_sends d p q now
    (λ e. let bad : Posted _ ≡ Ready = sym (ap (λ (r : Row). r.stage) only.row) ∙ e ∙ at in cc bad) c.args.msg.channel
    (c.send_ready.ensures.sent _ c.in-Post.is)

pub returns-in-Post-clause-repaired : goal.returns-in-Post-clause-repaired
returns-in-Post-clause-repaired g c =
    turned g.D.PageDisk c.state_turns.ensures c.args.plant.now c.send_ready.new.self c.keeps.ensures
    (kind.sends, (c.send_ready.ensures.sent _ c.in-Post.is).0) c.requires.repaired

pub returns-in-Post-clause-leads : goal.returns-in-Post-clause-leads
returns-in-Post-clause-leads g c =
    led _ _ _ (kind.sends, (c.send_ready.ensures.sent _ c.in-Post.is).0)

pub returns-in-Logged-send_ready-clause-moves : goal.returns-in-Logged-send_ready-clause-moves
returns-in-Logged-send_ready-clause-moves g c = λ low posted works.
    let d = g.D.PageDisk in
    let p = c.args.plant.now.at in
    let q = c.send_ready.new.self.at in
    let now = stands d c.state_turns.ensures c.args.plant.now c.keeps.ensures in
    let at = stage_for (rows_of p.rows fill_row) fill_row now.left (_) (sym c.stage.ensures ∙ c.in-Ready.is) in
    let gave = gave_stage p.filling p.rows q.rows Idle
    (subst (λ turn. RowsSent turn p.filling p.rows q.rows fill_row) c.in-Logged-send_ready.is
    c.send_ready.ensures.rows) in
    ended_send d p q now (λ e. let bad : Idle ≡ Ready = sym gave ∙ e ∙ at in cc bad) c.args.msg.channel works
    (λ e. let bad : Ready ≡ Idle = sym at ∙ e in cc bad) (c.send_ready.ensures.logged c.in-Logged-send_ready.is)

pub returns-in-Logged-send_ready-clause-repaired : goal.returns-in-Logged-send_ready-clause-repaired
returns-in-Logged-send_ready-clause-repaired g c =
    let made = c.send_ready.ensures.logged c.in-Logged-send_ready.is in
    turned g.D.PageDisk c.state_turns.ensures c.args.plant.now c.send_ready.new.self c.keeps.ensures
    (made.kind, made.made.0) c.requires.repaired

pub returns-in-Logged-send_ready-clause-leads : goal.returns-in-Logged-send_ready-clause-leads
returns-in-Logged-send_ready-clause-leads g c =
    let made = c.send_ready.ensures.logged c.in-Logged-send_ready.is in
    led _ _ _ (made.kind, made.made.0)

pub returns-in-Began-clause-moves : goal.returns-in-Began-clause-moves
returns-in-Began-clause-moves g c = λ low posted works.
    let d = g.D.PageDisk in
    let p = c.args.plant.now.at in
    let q = c.begin_insert.new.self.at in
    let now = stands d c.state_turns.ensures c.args.plant.now c.keeps.ensures in
    let at = stage_for (rows_of p.rows fill_row) fill_row now.left (_) (sym c.stage.ensures ∙ c.in-Posted.is) in
    let here = ap (λ (m : Msg). m.channel) at.1 in
    let only = subst₂ (λ turn n. RowsInserting turn p.filling p.rows q.rows n) c.in-Began.is here
    c.begin_insert.ensures.rows in
    on_begins d p q now
    (λ e. let bad : InJob ≡ Posted _ = sym (ap (λ (r : Row). r.stage) only.row) ∙ e ∙ at.0 in cc bad) c.args.msg.channel
    (not_halted d p q _ c.begin_insert.ensures.begins c.begin_insert.ensures.halted c.in-Began.is (λ e. cc e))

pub returns-in-Decided-begin_insert-clause-moves : goal.returns-in-Decided-begin_insert-clause-moves
returns-in-Decided-begin_insert-clause-moves g c = λ low posted works.
    let d = g.D.PageDisk in
    let p = c.args.plant.now.at in
    let q = c.begin_insert.new.self.at in
    let now = stands d c.state_turns.ensures c.args.plant.now c.keeps.ensures in
    let at = stage_for (rows_of p.rows fill_row) fill_row now.left (_) (sym c.stage.ensures ∙ c.in-Posted.is) in
    let here = ap (λ (m : Msg). m.channel) at.1 in
    let only = subst₂ (λ turn n. RowsInserting turn p.filling p.rows q.rows n) c.in-Decided-begin_insert.is here
    c.begin_insert.ensures.rows in
    on_loses d p q now
    (λ e. let bad : Decided Lost ≡ Posted _ = sym (ap (λ (r : Row). r.stage) only.row) ∙ e ∙ at.0 in cc bad)
    c.args.msg.channel
    (not_halted d p q _ c.begin_insert.ensures.begins c.begin_insert.ensures.halted c.in-Decided-begin_insert.is
    (λ e. cc e))

pub returns-in-Logged-begin_insert-clause-moves : goal.returns-in-Logged-begin_insert-clause-moves
returns-in-Logged-begin_insert-clause-moves g c = λ low posted works.
    let d = g.D.PageDisk in
    let p = c.args.plant.now.at in
    let q = c.begin_insert.new.self.at in
    let now = stands d c.state_turns.ensures c.args.plant.now c.keeps.ensures in
    let at = stage_for (rows_of p.rows fill_row) fill_row now.left (_) (sym c.stage.ensures ∙ c.in-Posted.is) in
    let here = ap (λ (m : Msg). m.channel) at.1 in
    let gave = gave_stage p.filling p.rows q.rows (Decided Answered)
    (subst₂ (λ turn n. RowsInserting turn p.filling p.rows q.rows n) c.in-Logged-begin_insert.is here
    c.begin_insert.ensures.rows) in
    let changed : (rows_of q.rows fill_row).stage ≢ (rows_of p.rows fill_row).stage =
    λ e. let bad : Decided Answered ≡ Posted _ = sym gave ∙ e ∙ at.0 in cc bad in
    by_stop p.stopped
    (λ e. ended_insert d p q now changed c.args.msg.channel works
    (subst (InsertsOrNot d p q) c.in-Logged-begin_insert.is (c.begin_insert.ensures.begins e)))
    (λ e. ended_halted d p q now changed c.args.msg.channel works
    (λ idle. let bad : Posted _ ≡ Idle = sym at.0 ∙ idle in cc bad)
    (subst (λ n. TurnMade d p q (halting n)) here (c.begin_insert.ensures.halted e).1))

pub returns-in-Began-clause-repaired : goal.returns-in-Began-clause-repaired
returns-in-Began-clause-repaired g c =
    turned g.D.PageDisk c.state_turns.ensures c.args.plant.now c.begin_insert.new.self c.keeps.ensures
    (some_insert g.D.PageDisk c.args.plant.now.at c.begin_insert.new.self.at c.begin_insert.result
    c.in-Posted.own.channel c.begin_insert.ensures.begins c.begin_insert.ensures.halted) c.requires.repaired

pub returns-in-Began-clause-leads : goal.returns-in-Began-clause-leads
returns-in-Began-clause-leads g c =
    led _ _ _ (some_insert g.D.PageDisk c.args.plant.now.at c.begin_insert.new.self.at c.begin_insert.result
    c.in-Posted.own.channel c.begin_insert.ensures.begins c.begin_insert.ensures.halted)

pub returns-in-Decided-begin_insert-clause-repaired : goal.returns-in-Decided-begin_insert-clause-repaired
returns-in-Decided-begin_insert-clause-repaired g c =
    turned g.D.PageDisk c.state_turns.ensures c.args.plant.now c.begin_insert.new.self c.keeps.ensures
    (some_insert g.D.PageDisk c.args.plant.now.at c.begin_insert.new.self.at c.begin_insert.result
    c.in-Posted.own.channel c.begin_insert.ensures.begins c.begin_insert.ensures.halted) c.requires.repaired

pub returns-in-Decided-begin_insert-clause-leads : goal.returns-in-Decided-begin_insert-clause-leads
returns-in-Decided-begin_insert-clause-leads g c =
    led _ _ _ (some_insert g.D.PageDisk c.args.plant.now.at c.begin_insert.new.self.at c.begin_insert.result
    c.in-Posted.own.channel c.begin_insert.ensures.begins c.begin_insert.ensures.halted)

pub returns-in-Logged-begin_insert-clause-repaired : goal.returns-in-Logged-begin_insert-clause-repaired
returns-in-Logged-begin_insert-clause-repaired g c =
    turned g.D.PageDisk c.state_turns.ensures c.args.plant.now c.begin_insert.new.self c.keeps.ensures
    (some_insert g.D.PageDisk c.args.plant.now.at c.begin_insert.new.self.at c.begin_insert.result
    c.in-Posted.own.channel c.begin_insert.ensures.begins c.begin_insert.ensures.halted) c.requires.repaired

pub returns-in-Logged-begin_insert-clause-leads : goal.returns-in-Logged-begin_insert-clause-leads
returns-in-Logged-begin_insert-clause-leads g c =
    led _ _ _ (some_insert g.D.PageDisk c.args.plant.now.at c.begin_insert.new.self.at c.begin_insert.result
    c.in-Posted.own.channel c.begin_insert.ensures.begins c.begin_insert.ensures.halted)

pub begin_insert-requires-clause-posted : goal.begin_insert-requires-clause-posted
begin_insert-requires-clause-posted g c =
    let d = g.D.PageDisk in
    let p = c.args.plant.now.at in
    let now = stands d c.state_turns.ensures c.args.plant.now c.keeps.ensures in
    insert_posted (state_of d p) p.rows refl now c.keeps.ensures.facts.shaped c.in-Posted.own
    (sym c.stage.ensures ∙ c.in-Posted.is)

pub returns-in-Decided-clause-moves : goal.returns-in-Decided-clause-moves
returns-in-Decided-clause-moves g c = λ low posted works.
    let d = g.D.PageDisk in
    let p = c.args.plant.now.at in
    let q = c.settle.new.self.at in
    let now = stands d c.state_turns.ensures c.args.plant.now c.keeps.ensures in
    let at = stage_for (rows_of p.rows fill_row) fill_row now.left _ (sym c.stage.ensures ∙ c.in-Decided.is) in
    let moved : c.settle.result ≢ Waiting = λ e. (c.settle.ensures.waiting e).1 at.0 at.1 in
    on_settles d p q now
    (λ e. let bad : Idle ≡ Decided _ = sym (ap (λ (r : Row). r.stage) (c.settle.ensures.row moved).row) ∙ e
    ∙ at.1 in cc bad)
    c.args.msg.channel (c.settle.ensures.settled moved)

pub returns-in-Decided-clause-repaired : goal.returns-in-Decided-clause-repaired
returns-in-Decided-clause-repaired g c =
    let d = g.D.PageDisk in
    let p = c.args.plant.now.at in
    let now = stands d c.state_turns.ensures c.args.plant.now c.keeps.ensures in
    let at = stage_for (rows_of p.rows fill_row) fill_row now.left _ (sym c.stage.ensures ∙ c.in-Decided.is) in
    let moved : c.settle.result ≢ Waiting = λ e. (c.settle.ensures.waiting e).1 at.0 at.1 in
    turned d c.state_turns.ensures c.args.plant.now c.settle.new.self c.keeps.ensures
    (kind.settles, (c.settle.ensures.settled moved).0) c.requires.repaired

pub returns-in-Decided-clause-leads : goal.returns-in-Decided-clause-leads
returns-in-Decided-clause-leads g c =
    let d = g.D.PageDisk in
    let p = c.args.plant.now.at in
    let now = stands d c.state_turns.ensures c.args.plant.now c.keeps.ensures in
    let at = stage_for (rows_of p.rows fill_row) fill_row now.left _ (sym c.stage.ensures ∙ c.in-Decided.is) in
    let moved : c.settle.result ≢ Waiting = λ e. (c.settle.ensures.waiting e).1 at.0 at.1 in
    led _ _ _ (kind.settles, (c.settle.ensures.settled moved).0)

pub unreachable-unreachable : goal.unreachable-unreachable
unreachable-unreachable g c =
    let d = g.D.PageDisk in
    let p = c.args.plant.now.at in
    let now = stands d c.state_turns.ensures c.args.plant.now c.keeps.ensures in
    nothing_else (state_of d p) c.stage.result now c.keeps.ensures.facts.shaped c.requires.no_job
    (sym c.stage.ensures) c.in_default.not-Over c.in_default.not-Copy c.in_default.not-Ready c.in_default.not-Posted
    c.in_default.not-Decided
