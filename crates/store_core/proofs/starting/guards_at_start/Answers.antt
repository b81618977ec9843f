use Rattle.std.proofs.Common.{◌≡◌, ◌+◌, false, Option, None, Some, refl, arith, subst, sym, ◌∙◌}
use Rattle.std.specs.Prelude.{is_some}
use Rattle.running_store.specs.StoreView.{base_of}
use Rattle.store_core.proofs.Starts.{GuardsBelow, guards_nothing, guards_same, guards_more}
use Rattle.store_core.proofs.starting.guards_at_start.Goals as goal
use Rattle.store_core.proofs.starting.guards_at_start.Goals.{then-was_read, else-was_read}

pub loop-head-init : goal.loop-head-init
loop-head-init c =
    let base = base_of c.args.metas.now c.args.marked.now in
    subst (λ g. GuardsBelow base g c.args.md_len 0) (sym c.in_ok-guards.ensures)
    (guards_nothing base c.args.md_len c.saturating_add-room.result
    (let one_more = c.saturating_add-room.ensures in let fits = c.ranges.md_len.fits in omega (arith, one_more, fits)))

not_there : {X : Type 0} (o : Option X) → is_some o ≡ false → o ≡ None
not_there None is = refl
not_there (Some x) is = absurd (cc is)

pub loop-head-preserved : goal.loop-head-preserved
loop-head-preserved c =
    let base = base_of c.args.metas.now c.args.marked.now in
    elim c.if-was_read.branch [
      | then-was_read w ↦
          subst (λ g. GuardsBelow base g c.args.md_len (c.loop-head.head + 1))
          (sym (w.guards-is ∙ w.add.ensures.added))
          (guards_more base c.loop-head.guards c.args.md_len c.loop-head.head c.loop-head.invariant
          (sym c.was_read.ensures ∙ w.if-was_read.true))
      | else-was_read w ↦
          subst (λ g. GuardsBelow base g c.args.md_len (c.loop-head.head + 1)) (sym w.guards-is)
          (guards_same base c.loop-head.guards c.args.md_len c.loop-head.head c.loop-head.invariant
          (not_there _ (sym c.was_read.ensures ∙ w.if-was_read.false)))
    ]
