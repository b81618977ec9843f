use Rattle.std.proofs.Common.{◌∙◌, ◌+◌, arith}
use Rattle.std.specs.FinMap as map
use Rattle.blob_meta.specs.Repairs.{has_kept_mark, is_removed}
use Rattle.blob_meta.proofs.Fates.{kept_absent, removed_absent}
use Rattle.blob_meta.proofs.HeadsListed.{gathered, heads_fit, where_all}
use Rattle.blob_meta.proofs.recovery.marked_heads.Goals as goal

pub loop-head-preserved : goal.loop-head-preserved
loop-head-preserved c = λ fits.
    let metas = map.get c.args.metas.now in
    let held = c.loop-head.invariant fits in (
      gathered c.args.metas.now (has_kept_mark metas) (kept_absent metas) c.loop-head.from c.in-Some.head
          c.loop-head.marked.kept c.push_marked.new.self.kept c.in-Some.ensures.some held.0
          (c.in_ok-push_marked.ensures.kept fits),
      gathered c.args.metas.now (is_removed metas) (removed_absent metas) c.loop-head.from c.in-Some.head
          c.loop-head.marked.removed c.push_marked.new.self.removed c.in-Some.ensures.some held.1
          (c.in_ok-push_marked.ensures.removed fits),
    )

pub returns-then-head-clause-kept : goal.returns-then-head-clause-kept
returns-then-head-clause-kept c = λ md_len few below.
    let metas = map.get c.args.metas.now in
    let fits = heads_fit c.args.metas.now md_len few below in
    gathered c.args.metas.now (has_kept_mark metas) (kept_absent metas) c.loop-head.from c.in-Some.head
    c.loop-head.marked.kept c.push_marked.new.self.kept c.in-Some.ensures.some (c.loop-head.invariant fits).0
    (c.in_ok-push_marked.ensures.kept fits)
    ∙ where_all c.args.metas.now (has_kept_mark metas) (kept_absent metas) (c.in-Some.head + 1)
    (λ h low high. absurd (let last = c.if-head.true in omega arith)) md_len few below

pub returns-then-head-clause-removed : goal.returns-then-head-clause-removed
returns-then-head-clause-removed c = λ md_len few below.
    let metas = map.get c.args.metas.now in
    let fits = heads_fit c.args.metas.now md_len few below in
    gathered c.args.metas.now (is_removed metas) (removed_absent metas) c.loop-head.from c.in-Some.head
    c.loop-head.marked.removed c.push_marked.new.self.removed c.in-Some.ensures.some (c.loop-head.invariant fits).1
    (c.in_ok-push_marked.ensures.removed fits)
    ∙ where_all c.args.metas.now (is_removed metas) (removed_absent metas) (c.in-Some.head + 1)
    (λ h low high. absurd (let last = c.if-head.true in omega arith)) md_len few below

pub returns-clause-kept : goal.returns-clause-kept
returns-clause-kept c = λ md_len few below.
    let metas = map.get c.args.metas.now in
    (c.loop-head.invariant (heads_fit c.args.metas.now md_len few below)).0
    ∙ where_all c.args.metas.now (has_kept_mark metas) (kept_absent metas) c.loop-head.from
    (λ h low high. c.in_default.ensures.none h low) md_len few below

pub returns-clause-removed : goal.returns-clause-removed
returns-clause-removed c = λ md_len few below.
    let metas = map.get c.args.metas.now in
    (c.loop-head.invariant (heads_fit c.args.metas.now md_len few below)).1
    ∙ where_all c.args.metas.now (is_removed metas) (removed_absent metas) c.loop-head.from
    (λ h low high. c.in_default.ensures.none h low) md_len few below
