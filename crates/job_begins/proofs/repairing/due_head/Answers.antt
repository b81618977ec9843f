use Rattle.std.proofs.Common.{◌≡◌, ℕ, [], Option, sym, subst, arith, IsTrue}
use Rattle.std.specs.Prelude.{IfNone}
use Rattle.blob_meta.specs.Repairs.{repairs}
use Rattle.running_store.specs.Running.{view_of}
use Rattle.running_store.specs.StoreView.{base_of, state_of}
use Rattle.job_begins.proofs.RepairBegins.{heads_below}
use Rattle.job_begins.proofs.RepairDue.{due_kept, due_removed, marked_there, none_before, none_due, none_more}
use Rattle.job_begins.proofs.RepairDue.{AreNoneKept}
use Rattle.job_begins.proofs.repairing.due_head.Goals as goal

pub returns-in_err-first-clause-none : goal.returns-in_err-first-clause-none
returns-in_err-first-clause-none g c =
    let metas = c.args.running.now.metas in
    let marked = c.args.running.now.marked in
    let md_len = c.args.running.now.sup.md_len in
    subst (λ (o : Option ℕ). IfNone o (repairs md_len (base_of metas marked) ≡ [])) (sym c.from_residual.ensures)
    (none_due metas marked c.requires.order.resolves md_len (λ h. c.in_err-first.ensures.none h (omega arith)))

pub loop-head-init : goal.loop-head-init
loop-head-init g c =
    none_before c.args.running.now.metas c.args.running.now.marked c.in_ok-first.first c.in_ok-first.ensures.some

pub loop-head-preserved : goal.loop-head-preserved
loop-head-preserved g c = none_more c.args.running.now.metas c.args.running.now.marked c.loop-head.head
    c.loop-head.invariant
    (λ marked there. let so : IsTrue c.is_kept.result = c.is_kept.ensures.1 (marked, there) in
    let no = c.if-is_kept.false in cc (so, no))

pub returns-then-is_kept-clause-due : goal.returns-then-is_kept-clause-due
returns-then-is_kept-clause-due g c =
    let both = c.is_kept.ensures.0 c.if-is_kept.true in
    due_kept c.args.running.now.metas c.args.running.now.marked c.requires.order.resolves c.args.running.now.sup.md_len
    c.loop-head.head c.loop-head-test.true both.0 both.1 c.loop-head.invariant

pub returns-clause-due : goal.returns-clause-due
returns-clause-due g c =
    let metas = c.args.running.now.metas in
    let marked = c.args.running.now.marked in
    let md_len = c.args.running.now.sup.md_len in
    let x = c.in_ok-first.ensures.some in
    let below = heads_below (state_of g.D.PageDisk (view_of c.args.running.now)) c.requires.running in
    let end = c.loop-head-test.false in
    let none : AreNoneKept metas marked md_len = λ h lt. c.loop-head.invariant h (omega (arith, lt, end)) in
    due_removed metas marked c.requires.order.resolves md_len below none c.in_ok-first.first
    (below c.in_ok-first.first (marked_there metas marked c.in_ok-first.first x.there)) x.there
    (λ k lt. x.none_between k (omega arith) lt)
