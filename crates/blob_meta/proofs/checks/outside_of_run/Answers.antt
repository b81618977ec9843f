use Rattle.std.proofs.Common.{rules, ◌≡◌, ◌≢◌, ◌<◌, ℕ, zero, suc, Some, arith, sym, ap, ◌∙◌}
use Rattle.std.specs.Prelude.{max}
use Rattle.descriptors.specs.Slots.{filled_slots}
use Rattle.blob_meta.proofs.ClustersOutside.{first_outside, low, inside, past, empty_run, short_run, filled_run}
use Rattle.blob_meta.proofs.checks.outside_of_run.Goals as goal
use Rattle.blob_meta.proofs.checks.outside_of_run.Goals.{then-run-eq0-via-then-run-eq0}
use Rattle.blob_meta.proofs.checks.outside_of_run.Goals.{then-run-eq0-via-else-run-eq0+then-run-eq0-2}

low_any : (fixed clusters c n : ℕ) → c < fixed → n ≢ 0 → first_outside fixed clusters (filled_slots c n) ≡ Some c
low_any fixed clusters c zero lt ne = absurd (omega arith)
low_any fixed clusters c (suc n) lt ne = low fixed clusters c n lt

pub returns-then-run-eq0-clause-first : goal.returns-then-run-eq0-clause-first
returns-then-run-eq0-clause-first c = elim c.then-run-eq0.branch [
  | then-run-eq0-via-then-run-eq0 w ↦ sym (empty_run c.args.fixed c.args.clusters c.args.run w.if-run-eq0.true)
  | then-run-eq0-via-else-run-eq0+then-run-eq0-2 w ↦
      sym (short_run c.args.fixed c.args.clusters c.args.run w.if-run-eq0.false w.if-run-eq0-2.true)
]

pub returns-then-run-fixed-clause-first : goal.returns-then-run-fixed-clause-first
returns-then-run-fixed-clause-first c =
    ap (λ k. Some k) c.from-first.ensures
    ∙ sym (filled_run c.args.fixed c.args.clusters c.args.run _ c.if-run-eq0.false
    (low_any c.args.fixed c.args.clusters _ _ c.if-run-fixed.true c.if-run-eq0-2.false))

pub returns-then-end-clusters-clause-first : goal.returns-then-end-clusters-clause-first
returns-then-end-clusters-clause-first c = sym (filled_run c.args.fixed c.args.clusters c.args.run _ c.if-run-eq0.false
    (inside c.args.fixed c.args.clusters _ _ c.if-run-fixed.false (omega arith)))

pub returns-else-end-clusters-clause-first : goal.returns-else-end-clusters-clause-first
returns-else-end-clusters-clause-first c =
    let is : c.max.result ≡ max c.args.run.cluster c.args.clusters = search rules in
    ap (λ k. Some k) is ∙ sym (filled_run c.args.fixed c.args.clusters c.args.run _ c.if-run-eq0.false
    (past c.args.fixed c.args.clusters _ _ c.if-run-eq0-2.false c.if-run-fixed.false (omega arith)))
